use Rattle.std.proofs.Common.{List, ℕ, [], ◌∷◌, codes, refl, string_bytes}
use Rattle.cn_sentences.specs.Lines.{reader_line}
use Rattle.cn_text.proofs.Behind.{as_last, behind_pieces}
use Rattle.cn_text.proofs.recoverable.push_start_place.Goals as goal

pub returns : goal.returns
returns c =
    let first : List ℕ = string_bytes c.push_pieces.new.text in
    as_last _ first (reader_line c.in-Some.reader) _ _ c.push_reader.ensures
    (behind_pieces (codes ", which is also in the list of team " ∷ c.name.result.now ∷ codes "; " ∷ []) (string_bytes c.args.text.now) first _ _ c.in_ok-push_pieces.ensures
    (rw (c.in-Some.is, c.name.ensures) refl))
