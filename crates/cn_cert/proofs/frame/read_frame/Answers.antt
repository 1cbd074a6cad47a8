use Rattle.std.proofs.Common.{◌≡◌, ℕ, List, ◌∷◌, ◌++◌, codes, ap, ◌∙◌, Some}
use Rattle.std.proofs.lemmas.Bool.Decides.{Decides-eqb}
use Rattle.std.proofs.lemmas.Slice.Eq.{strip_prefix_is}
use Rattle.cn_cert.proofs.FramedTexts.{framed_is_read}
use Rattle.cn_cert.proofs.frame.read_frame.Goals as goal

pub returns-then-is_rest_of : goal.returns-then-is_rest_of
returns-then-is_rest_of c =
    let line : List ℕ = c.without_line_feed.result.now in
    let entries : List ℕ = c.split_at.result.0.now in
    let rest : List ℕ = c.in_ok-rest.rest.now in
    let behind : c.split_at.result.1.now ≡ 93 ∷ rest = strip_prefix_is Decides-eqb c.split_at.result.1.now (codes "]") (Some c.in_ok-rest.rest) c.in_ok-rest.ensures.cases in
    let framed : line ≡ codes "{\"collisions\":[" ++ (entries ++ 93 ∷ rest) =
    strip_prefix_is Decides-eqb line (codes "{\"collisions\":[") (Some c.in_ok-text.text) c.in_ok-text.ensures.cases
    ∙ ap (λ (v : List ℕ). codes "{\"collisions\":[" ++ v) (c.split_at.ensures.by_index.0 ∙ ap (λ (v : List ℕ). entries ++ v) behind) in
    framed_is_read c.in_ok-certificate.certificate c.args.bytes.now line entries rest c.in_ok-certificate.ensures.0 c.in_ok-certificate.ensures.1 c.without_line_feed.ensures framed
    (c.is_rest_of.ensures c.if-is_rest_of.true)
