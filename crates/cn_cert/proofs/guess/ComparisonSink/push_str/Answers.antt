use Rattle.std.proofs.Common.{◌≡◌, ◌+◌, ◌-◌, ◌++◌, List, ℕ, ap, arith, drop, length, length-drop, sym, take, ◌∙◌}
use Rattle.std.proofs.Math.Seq.{take-add}
use Rattle.std.proofs.lemmas.Bool.Decides.{Decides-eqb}
use Rattle.std.proofs.lemmas.List.{take_all}
use Rattle.std.proofs.lemmas.Slice.Eq.{slice_eq-Decides}
use Rattle.cn_cert.proofs.guess.ComparisonSink.push_str.Goals as goal

pub returns-then-starts_with : goal.returns-then-starts_with
returns-then-starts_with g c =
    let agreed : ℕ = c.args.self.now.agreed in
    let bytes : List ℕ = c.args.self.now.bytes.now in
    let piece : List ℕ = c.args.piece.now in
    let given : List ℕ = c.as_bytes.result.now in
    let left : List ℕ = take (length bytes - agreed) (drop agreed bytes) in
    let rest : left ≡ drop agreed bytes = take_all _ (drop agreed bytes) (omega (arith, length-drop agreed bytes)) in
    let next : given ≡ take (length given) left = (slice_eq-Decides Decides-eqb given (take (length given) left) c.starts_with.result c.starts_with.ensures.value).0 c.if-starts_with.true in
    let is : piece ≡ take (length piece) (drop agreed bytes) =
    sym c.as_bytes.ensures.value ∙ (next ∙ (ap (λ (v : List ℕ). take (length v) left) c.as_bytes.ensures.value ∙ ap (λ (v : List ℕ). take (length piece) v) rest)) in
    let more : take (agreed + length piece) bytes ≡ take agreed bytes ++ piece = take-add agreed (length piece) bytes ∙ ap (λ (v : List ℕ). take agreed bytes ++ v) (sym is) in
    ap (λ (v : List ℕ). take (agreed + length piece) v) (sym c.args.self.now.same) ∙ (more ∙ ap (λ (v : List ℕ). take agreed v ++ piece) c.args.self.now.same)
