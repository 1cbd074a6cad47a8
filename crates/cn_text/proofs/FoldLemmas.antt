-- How the rest of a line is laid: as one word where it fits, and else word by word.
use Rattle.std.proofs.Common.{◌≡◌, ℕ, zero, suc, ◌+◌, ◌-◌, ◌<◌, ◌≤◌, ◌==◌, ◌∙◌, List, [], ◌∷◌, ◌++◌, Bool, true, false, not, cond, length, length-append, length-take, append_assoc, append-nil, get_or, take, arith, ap, sym, refl, subst, inl, inr, Option, Some, None}
use denote.Ref.{Bor}
use Rattle.std.specs.Prelude.{nat_le, nat_lt, ◌&&◌, MatchOption}
use Rattle.std.specs.List.{after_first, before_first, join_with_byte, onto_first, position_or_len}
use Rattle.std.proofs.lemmas.Bool.{and_parts, cases_Bool, cond-false, eqb-false, le-leb, leb-true, eqb-true, ltb-true, ne_eqb, not-true}
use Rattle.std.specs.Str.{IsCharBoundary}
use Rattle.std.proofs.lemmas.List.{get_or-append-add, get_or_at, length-replicate, take_at}
use Rattle.std.proofs.lemmas.Str.{IsCharBoundary-before_ascii}
use Rattle.std.proofs.lemmas.List.Sums.{passes_at_first, split_at_first}
use Rattle.std.proofs.lemmas.List.Splits.{join_with_byte-slice_split, slice_split-cons_no, slice_split_first}
use Rattle.cn_text.specs.Folded.{ends_in_word, fits, fits_whole, laid, laid_as_word, laid_rest, left_behind, placed, word_then, words, IsFront}
use Rattle.cn_pieces.specs.Pieces.{spaces}
use Rattle.cn_text.specs.declared.limits.TheConstants.{WIDEST_LINE}

-- ---- a word that fits

fits_here : (left gap rest : ℕ) (word : List ℕ) → length word ≤ rest → gap + rest ≤ left → fits left gap rest word ≡ true
fits_here left gap rest word inside room = by_test (nat_lt left WIDEST_LINE && nat_lt 2 gap)
  where
    by_test : (b : Bool) → nat_le (gap + cond b rest (length word)) left ≡ true
    by_test true = le-leb (gap + rest) left room
    by_test false = le-leb (gap + length word) left (omega (arith, inside, room))

placed_here : (left gap rest : ℕ) (word : List ℕ) → length word ≤ rest → gap + rest ≤ left → placed left gap rest word ≡ spaces gap ++ word
placed_here left gap rest word inside room = rw (fits_here left gap rest word inside room) refl

left_here : (left gap rest : ℕ) (word : List ℕ) → length word ≤ rest → gap + rest ≤ left → left_behind left gap rest word ≡ left - gap - length word
left_here left gap rest word inside room = rw (fits_here left gap rest word inside room) refl

-- ---- a word more

word_laid : (left gap rest : ℕ) (word : List ℕ) (others : List (List ℕ)) → 0 < length word
    → laid left gap rest (word ∷ others) ≡ placed left gap rest word ++ laid (left_behind left gap rest word) 1 (rest - length word - 1) others
word_laid left gap rest word others some = rw (ne_eqb (length word) 0 (λ e. omega (arith, some, e))) refl

-- the columns behind a word and a space
behind : (word other : List ℕ) → length (word ++ 32 ∷ other) - length word - 1 ≡ length other
behind word other = omega (arith, length-append word (32 ∷ other))

spaces_more : (gap : ℕ) (text : List ℕ) → spaces (gap + 1) ++ text ≡ spaces gap ++ 32 ∷ text
spaces_more zero text = refl
spaces_more (suc gap) text =
    let next : suc gap + 1 ≡ suc (gap + 1) = omega arith in
    rw next (ap (λ xs. 32 ∷ xs) (spaces_more gap text))

-- ---- all that is left

abbrev joined : List (List ℕ) → List ℕ
joined texts = join_with_byte 32 texts

-- the last text is not empty
abbrev EndsInText : List (List ℕ) → Type 0
EndsInText [] = ⊥
EndsInText (text ∷ []) = 0 < length text
EndsInText (text ∷ next ∷ texts) = EndsInText (next ∷ texts)

all_laid : (texts : List (List ℕ)) (left gap : ℕ) → EndsInText texts → gap + length (joined texts) ≤ left
    → laid left gap (length (joined texts)) texts ≡ spaces gap ++ joined texts
all_laid [] left gap ends room = absurd ends
all_laid (text ∷ []) left gap ends room =
    word_laid left gap (length text) text [] ends ∙ append-nil (placed left gap (length text) text) ∙ placed_here left gap (length text) text (omega arith) room
all_laid ([] ∷ next ∷ texts) left gap ends room =
    let others : List ℕ = joined (next ∷ texts) in
    ap (λ rest. laid left (gap + 1) rest (next ∷ texts)) (behind [] others)
    ∙ all_laid (next ∷ texts) left (gap + 1) ends (omega (arith, room)) ∙ spaces_more gap others
all_laid ((byte ∷ bytes) ∷ next ∷ texts) left gap ends room =
    let text : List ℕ = byte ∷ bytes in
    let others : List ℕ = joined (next ∷ texts) in
    let rest : ℕ = length (text ++ 32 ∷ others) in
    let inside : length text ≤ rest = omega (arith, length-append text (32 ∷ others)) in
    word_laid left gap rest text (next ∷ texts) (omega arith)
    ∙ ap (λ n. placed left gap rest text ++ laid (left_behind left gap rest text) 1 n (next ∷ texts)) (behind text others)
    ∙ ap (λ n. placed left gap rest text ++ laid n 1 (length others) (next ∷ texts)) (left_here left gap rest text inside room)
    ∙ ap (λ front. front ++ laid (left - gap - length text) 1 (length others) (next ∷ texts)) (placed_here left gap rest text inside room)
    ∙ ap (λ back. (spaces gap ++ text) ++ back) (all_laid (next ∷ texts) (left - gap - length text) 1 ends (omega (arith, room, length-append text (32 ∷ others))))
    ∙ append_assoc (spaces gap) text (32 ∷ others)

-- the last byte of two texts that are joined is that of the second
last_right : (xs ys : List ℕ) → 0 < length ys → get_or (xs ++ ys) (length (xs ++ ys) - 1) 0 ≡ get_or ys (length ys - 1) 0
last_right xs ys some =
    let place : length (xs ++ ys) - 1 ≡ length xs + (length ys - 1) = omega (arith, length-append xs ys, some) in
    ap (λ k. get_or (xs ++ ys) k 0) place ∙ get_or-append-add xs ys (length ys - 1) 0

ends_in_text : (texts : List (List ℕ)) → 0 < length (joined texts) → (get_or (joined texts) (length (joined texts) - 1) 0 ≡ 32 → ⊥) → EndsInText texts
ends_in_text [] some last = omega (arith, some)
ends_in_text (text ∷ []) some last = some
ends_in_text (text ∷ next ∷ texts) some last = by_rest (joined (next ∷ texts)) refl (ends_in_text (next ∷ texts))
  where
    by_rest : (others : List ℕ) → others ≡ joined (next ∷ texts)
        → (0 < length (joined (next ∷ texts)) → (get_or (joined (next ∷ texts)) (length (joined (next ∷ texts)) - 1) 0 ≡ 32 → ⊥) → EndsInText (next ∷ texts))
        → EndsInText (next ∷ texts)
    by_rest [] e on = absurd (last (ap (λ (xs : List ℕ). get_or (text ++ 32 ∷ xs) (length (text ++ 32 ∷ xs) - 1) 0) (sym e) ∙ last_right text (32 ∷ []) (omega arith)))
    by_rest (x ∷ xs) e on = on (subst (λ (ys : List ℕ). 0 < length ys) e (omega arith))
        (λ h. last (ap (λ (ys : List ℕ). get_or (text ++ 32 ∷ ys) (length (text ++ 32 ∷ ys) - 1) 0) (sym e) ∙ last_right text (32 ∷ x ∷ xs) (omega arith)
        ∙ last_right (32 ∷ []) (x ∷ xs) (omega arith) ∙ ap (λ (ys : List ℕ). get_or ys (length ys - 1) 0) e ∙ h))

-- ---- the rest of a line

-- it is one word
one_word : (left gap : ℕ) (rest : List ℕ) → words rest ≡ rest ∷ [] → laid_rest left gap rest ≡ laid_as_word left gap rest
one_word left gap rest alone = ap (laid left gap (length rest)) alone ∙ by_test (length rest == 0)
  where
    by_test : (b : Bool) → cond {A = List ℕ} b [] (placed left gap (length rest) rest ++ []) ≡ cond {A = List ℕ} b [] (placed left gap (length rest) rest)
    by_test true = refl
    by_test false = append-nil (placed left gap (length rest) rest)

-- it fits
pub whole_rest : (left gap : ℕ) (rest : List ℕ) → fits_whole left gap rest ≡ true → laid_rest left gap rest ≡ laid_as_word left gap rest
whole_rest left gap rest whole =
    let parts = and_parts (nat_le (gap + length rest) left) (ends_in_word rest) whole in
    let room : gap + length rest ≤ left = leb-true (gap + length rest) left parts.0 in
    let tests = and_parts (nat_lt 0 (length rest)) (not (get_or rest (length rest - 1) 0 == 32)) parts.1 in
    let some : 0 < length rest = ltb-true 0 (length rest) tests.0 in
    let last : get_or rest (length rest - 1) 0 ≡ 32 → ⊥ = eqb-false (get_or rest (length rest - 1) 0) 32 (not-true (get_or rest (length rest - 1) 0 == 32) tests.1) in
    let same : joined (words rest) ≡ rest = join_with_byte-slice_split 32 rest in
    let ends : EndsInText (words rest) =
    ends_in_text (words rest) (subst (λ (xs : List ℕ). 0 < length xs) (sym same) some)
    (subst (λ (xs : List ℕ). get_or xs (length xs - 1) 0 ≡ 32 → ⊥) (sym same) last)
    in
    let all = all_laid (words rest) left gap ends (subst (λ (xs : List ℕ). gap + length xs ≤ left) (sym same) room) in
    subst (λ (xs : List ℕ). laid left gap (length xs) (words rest) ≡ spaces gap ++ xs) same all
    ∙ sym (placed_here left gap (length rest) rest (omega arith) room)
    ∙ sym (cond-false (length rest == 0) [] (placed left gap (length rest) rest) (ne_eqb (length rest) 0 (λ e. omega (arith, some, e))))

-- ---- the first word

-- a text with no space is one word
one_part : (rest : List ℕ) → position_or_len (λ byte. byte == 32) rest ≡ length rest → words rest ≡ rest ∷ []
one_part [] h = refl
one_part (x ∷ xs) h = elim (cases_Bool (x == 32)) [
  | inl is ↦ absurd (let none : position_or_len (λ byte. byte == 32) (x ∷ xs) ≡ 0 = rw is refl in omega (arith, none, h))
  | inr other ↦
      let more : position_or_len (λ byte. byte == 32) (x ∷ xs) ≡ 1 + position_or_len (λ byte. byte == 32) xs = rw other refl in
      slice_split-cons_no (λ byte. byte == 32) x xs other ∙ ap (onto_first x) (one_part xs (omega (arith, more, h)))
]

no_space : (left gap : ℕ) (rest : List ℕ) → position_or_len (λ byte. byte == 32) rest ≡ length rest → laid_rest left gap rest ≡ laid_as_word left gap rest
no_space left gap rest none = one_word left gap rest (one_part rest none)

-- the words behind the first one
words_at : (rest : List ℕ) → position_or_len (λ byte. byte == 32) rest < length rest
    → words rest ≡ before_first (λ byte. byte == 32) rest ∷ words (after_first (λ byte. byte == 32) rest)
words_at rest here = slice_split_first (λ byte. byte == 32) rest 0 here

-- the first word is a front
first_word_laid : (left gap : ℕ) (rest word other : List ℕ) → words rest ≡ word ∷ words other → length rest ≡ length word + 1 + length other
    → laid_rest left gap rest ≡ word_then left gap rest word other
first_word_laid left gap rest word other first columns = ap (laid left gap (length rest)) first ∙ ap (λ n. steps n) behind_word
  where
    behind_word : length rest - length word - 1 ≡ length other
    behind_word = omega (arith, columns)

    steps : ℕ → List ℕ
    steps n = cond (length word == 0) (laid left (gap + 1) n (words other)) (placed left gap (length rest) word ++ laid (left_behind left gap (length rest) word) 1 n (words other))

cut_here : (rest : List ℕ) → position_or_len (λ byte. byte == 32) rest < length rest
    → rest ≡ before_first (λ byte. byte == 32) rest ++ 32 ∷ after_first (λ byte. byte == 32) rest
cut_here rest here =
    let k : ℕ = position_or_len (λ byte. byte == 32) rest in
    split_at_first (λ byte. byte == 32) rest 0 here
    ∙ ap (λ b. before_first (λ byte. byte == 32) rest ++ b ∷ after_first (λ byte. byte == 32) rest) (eqb-true (get_or rest k 0) 32 (passes_at_first (λ byte. byte == 32) rest 0 here))

pub front_at : (left gap : ℕ) (rest word other : List ℕ) → position_or_len (λ byte. byte == 32) rest < length rest → word ≡ before_first (λ byte. byte == 32) rest
    → other ≡ after_first (λ byte. byte == 32) rest → IsFront left gap rest word other
front_at left gap rest word other here before after =
    let text : rest ≡ word ++ 32 ∷ other = cut_here rest here ∙ ap (λ w. w ++ 32 ∷ after_first (λ byte. byte == 32) rest) (sym before) ∙ ap (λ o. word ++ 32 ∷ o) (sym after) in
    let columns : length rest ≡ length word + 1 + length other = omega (arith, ap length text, length-append word (32 ∷ other)) in
    let parts = words_at rest here ∙ ap (λ w. w ∷ words (after_first (λ byte. byte == 32) rest)) (sym before) ∙ ap (λ o. word ∷ words o) (sym after) in
    (first_word_laid left gap rest word other parts columns, columns, text)

-- the front that is cut at the first space
pub cut_front : (left gap : ℕ) (rest : List ℕ) (cut : Option (Bor (List ℕ) × Bor (List ℕ)))
    → MatchOption cut (position_or_len (λ byte. byte == 32) rest ≡ length rest)
    (λ x. (x.0.now ≡ before_first (λ byte. byte == 32) rest) × (x.1.now ≡ after_first (λ byte. byte == 32) rest) × (position_or_len (λ byte. byte == 32) rest < length rest))
    → MatchOption cut (laid_rest left gap rest ≡ laid_as_word left gap rest) (λ x. IsFront left gap rest x.0.now x.1.now)
cut_front left gap rest None none = no_space left gap rest none
cut_front left gap rest (Some x) parts = front_at left gap rest x.0.now x.1.now parts.2 parts.0 parts.1

-- ---- words side by side

-- a text is cut at a space
pub seam : (bytes front other : List ℕ) → bytes ≡ front ++ 32 ∷ other → (take (length front) bytes ≡ front) × IsCharBoundary bytes (length front)
seam bytes front other is = (
  ap (take (length front)) is ∙ take_at front (32 ∷ other) (length front) refl,
  IsCharBoundary-before_ascii bytes (length front) (omega (arith, ap length is, length-append front (32 ∷ other)))
      (let byte : get_or bytes (length front) 0 ≡ 32 = ap (λ (xs : List ℕ). get_or xs (length front) 0) is ∙ get_or_at front 32 other 0 (length front) refl in omega (arith, byte)),
)

-- a word more in the run
pub longer_run : (run rest word other : List ℕ) (len gap : ℕ) → len ≤ length run → run ≡ take len run ++ (spaces gap ++ rest) → rest ≡ word ++ 32 ∷ other
    → (take (len + (gap + length word)) run ≡ take len run ++ (spaces gap ++ word)) × (run ≡ take (len + (gap + length word)) run ++ (spaces 1 ++ other))
    × IsCharBoundary run (len + (gap + length word))
longer_run run rest word other len gap inside is first =
    let front : List ℕ = take len run ++ (spaces gap ++ word) in
    let cut : run ≡ front ++ 32 ∷ other =
    is ∙ ap (λ xs. take len run ++ (spaces gap ++ xs)) first ∙ ap (λ xs. take len run ++ xs) (sym (append_assoc (spaces gap) word (32 ∷ other)))
    ∙ sym (append_assoc (take len run) (spaces gap ++ word) (32 ∷ other))
    in
    let size : length front ≡ len + (gap + length word) = omega (
      arith,
      length-append (take len run) (spaces gap ++ word),
      length-append (spaces gap) word,
      length-replicate {A = ℕ} gap 32,
      length-take len run,
      inside,
    ) in
    let parts = seam run front other cut in
    let same : take (len + (gap + length word)) run ≡ front = ap (λ n. take n run) (sym size) ∙ parts.0 in
    (same, cut ∙ ap (λ xs. xs ++ 32 ∷ other) (sym same), subst (λ (n : ℕ). IsCharBoundary run n) size parts.1)

-- the text of a word more in the run
pub run_text : (left gap : ℕ) (front rest word next : List ℕ) → IsFront left gap rest word next → 0 < length word → fits left gap (length rest) word ≡ true
    → front ++ laid_rest left gap rest ≡ (front ++ (spaces gap ++ word)) ++ laid_rest (left - gap - length word) 1 next
run_text left gap front rest word next cut some fit =
    ap (λ xs. front ++ xs) (cut.0 ∙ cond-false (length word == 0) (laid_rest left (gap + 1) next) _ (ne_eqb (length word) 0 (λ e. omega (arith, some, e))) ∙ here)
    ∙ sym (append_assoc front (spaces gap ++ word) (laid_rest (left - gap - length word) 1 next))
  where
    here : placed left gap (length rest) word ++ laid_rest (left_behind left gap (length rest) word) 1 next ≡ (spaces gap ++ word) ++ laid_rest (left - gap - length word) 1 next
    here = rw fit refl
