-- Texts that are folded one after the other: where the first ends in a whole line, as if they were one.
use Rattle.std.proofs.Common.{◌≡◌, ℕ, ◌+◌, ◌-◌, ◌<◌, ◌==◌, ◌∙◌, List, [], ◌∷◌, ◌++◌, true, length, append_assoc, append-nil, get_or, take, arith, ap, sym, refl, inl, inr, map, flat_map}
use Rattle.std.specs.Prelude.{nat_lt}
use Rattle.std.specs.List.{onto_first, slice_split}
use Rattle.std.specs.Str.Lines.{lines, lines_of_parts, strip_carriage_return}
use Rattle.std.proofs.Math.Seq.{take-length}
use Rattle.std.proofs.lemmas.Bool.{and_parts, cases_Bool, eqb-true, ltb-true}
use Rattle.std.proofs.lemmas.Grind.{flat_map-append}
use Rattle.std.proofs.lemmas.List.{take_more}
use Rattle.std.proofs.lemmas.List.Splits.{length-slice_split, slice_split-cons_no, slice_split-cons_yes}
use Rattle.cn_text.specs.Folded.{ends_in_line, folded, folded_line, FoldsBehind}

-- ---- the parts between line feeds

abbrev parts : List ℕ → List (List ℕ)
parts text = slice_split (λ byte. byte == 10) text

some_part : (text : List ℕ) → 0 < length (parts text)
some_part text = omega (arith, length-slice_split (λ byte. byte == 10) text)

onto_front : (byte : ℕ) (front back : List (List ℕ)) → 0 < length front → onto_first byte (front ++ back) ≡ onto_first byte front ++ back
onto_front byte [] back some = absurd (omega (arith, some))
onto_front byte (part ∷ front) back some = refl

parts_joined : (line text : List ℕ) → parts (line ++ 10 ∷ text) ≡ parts line ++ parts text
parts_joined [] text = slice_split-cons_yes (λ byte. byte == 10) 10 text refl
parts_joined (byte ∷ bytes) text = elim (cases_Bool (byte == 10)) [
  | inl is ↦ slice_split-cons_yes (λ byte. byte == 10) byte (bytes ++ 10 ∷ text) is ∙ ap (λ others. [] ∷ others) (parts_joined bytes text)
      ∙ sym (ap (λ others. others ++ parts text) (slice_split-cons_yes (λ byte. byte == 10) byte bytes is))
  | inr other ↦ slice_split-cons_no (λ byte. byte == 10) byte (bytes ++ 10 ∷ text) other ∙ ap (onto_first byte) (parts_joined bytes text)
      ∙ onto_front byte (parts bytes) (parts text) (some_part bytes)
      ∙ sym (ap (λ others. others ++ parts text) (slice_split-cons_no (λ byte. byte == 10) byte bytes other))
]

-- ---- lines

whole_lines : (front back : List (List ℕ)) → 0 < length back → lines_of_parts (front ++ back) ≡ map strip_carriage_return front ++ lines_of_parts back
whole_lines front [] some = absurd (omega (arith, some))
whole_lines [] (part ∷ back) some = refl
whole_lines (line ∷ []) (part ∷ back) some = refl
whole_lines (line ∷ next ∷ front) (part ∷ back) some = ap (λ others. strip_carriage_return line ∷ others) (whole_lines (next ∷ front) (part ∷ back) some)

lines_joined : (line text : List ℕ) → lines (line ++ 10 ∷ text) ≡ map strip_carriage_return (parts line) ++ lines text
lines_joined line text = ap lines_of_parts (parts_joined line text) ∙ whole_lines (parts line) (parts text) (some_part text)

lines_behind : (line text : List ℕ) → lines (line ++ 10 ∷ text) ≡ lines (line ++ 10 ∷ []) ++ lines text
lines_behind line text = lines_joined line text
    ∙ ap (λ front. front ++ lines text) (sym (append-nil (map strip_carriage_return (parts line))) ∙ sym (lines_joined line []))

-- ---- folded lines

folded_behind : (line text : List ℕ) → folded (line ++ 10 ∷ text) ≡ folded (line ++ 10 ∷ []) ++ folded text
unfolding folded
folded_behind line text = ap (flat_map folded_line) (lines_behind line text) ∙ flat_map-append folded_line (lines (line ++ 10 ∷ [])) (lines text)

-- the last line of a text that ends in one
line_end : (text : List ℕ) → ends_in_line text ≡ true → text ≡ take (length text - 1) text ++ 10 ∷ []
line_end text ends =
    let tests = and_parts (nat_lt 0 (length text)) (get_or text (length text - 1) 0 == 10) ends in
    let some : 0 < length text = ltb-true 0 (length text) tests.0 in
    let last : get_or text (length text - 1) 0 ≡ 10 = eqb-true (get_or text (length text - 1) 0) 10 tests.1 in
    let size : length text ≡ (length text - 1) + 1 = omega (arith, some) in
    sym (take-length text) ∙ ap (λ n. take n text) size ∙ take_more text (length text - 1) 0 (omega (arith, some))
    ∙ ap (λ byte. take (length text - 1) text ++ byte ∷ []) last

pub folded_apart : (front back : List ℕ) → ends_in_line front ≡ true → folded (front ++ back) ≡ folded front ++ folded back
folded_apart front back ends =
    let line : List ℕ = take (length front - 1) front in
    let is : front ≡ line ++ 10 ∷ [] = line_end front ends in
    ap (λ xs. folded (xs ++ back)) is ∙ ap folded (append_assoc line (10 ∷ []) back) ∙ folded_behind line back
    ∙ ap (λ xs. folded xs ++ folded back) (sym is)

-- the lines are folded behind the text, and none is left
pub folds_whole : (text lines new : List ℕ) → ends_in_line lines ≡ true → new ≡ text ++ folded lines → FoldsBehind text lines [] new []
folds_whole text lines new ends is rest =
    ap (λ xs. xs ++ folded rest) is ∙ append_assoc text (folded lines) (folded rest)
    ∙ ap (λ xs. text ++ xs) (sym (folded_apart lines rest ends))

-- ---- pieces behind the lines

-- a piece is added to the lines
pub lines_more : (text lines piece new : List ℕ) → new ≡ lines ++ piece → FoldsBehind text lines piece text new
lines_more text lines piece new is rest = ap (λ xs. text ++ folded xs) (ap (λ xs. xs ++ rest) is ∙ append_assoc lines piece rest)

-- no more is added
pub lines_alone : (text lines : List ℕ) → FoldsBehind text lines [] text lines
lines_alone text lines rest = refl

-- a piece, and others behind it
pub piece_then : (text lines piece mid mid_lines others new new_lines : List ℕ) → FoldsBehind text lines piece mid mid_lines → FoldsBehind mid mid_lines others new new_lines
    → FoldsBehind text lines (piece ++ others) new new_lines
piece_then text lines piece mid mid_lines others new new_lines first second rest =
    second rest ∙ first (others ++ rest) ∙ ap (λ xs. text ++ folded (lines ++ xs)) (sym (append_assoc piece others rest))
