-- The place in a list of each element that was drawn from it.
use Rattle.std.proofs.Common.{◌≡◌, ◌≢◌, ℕ, zero, suc, ◌<◌, List, [], ◌∷◌, length, refl, sym, ap, ◌∙◌, arith}
use Rattle.std.specs.Prelude.{slice_get}
use Rattle.std.specs.List.{remove}
use Rattle.std.proofs.lemmas.Option.{slice_get_within}
use Rattle.cn_choice.proofs.NumberLemmas.FewerProcesses.{skip, skip_apart, skip_inside, slice_get-skip}
use Rattle.cn_choice.proofs.ListLemmas.SortedTeams.{Drawn, drawn_from}

skip_misses : (m i : ℕ) → m ≢ skip m i
skip_misses zero i e = absurd (omega (arith, e))
skip_misses (suc m) zero e = absurd (omega (arith, e))
skip_misses (suc m) (suc i) e = skip_misses m i (omega (arith, e))

pub drawn_inside : {X : Type 0} (ps xs : List X) (h : Drawn ps xs) (i : ℕ) → i < length xs → drawn_from ps xs h i < length ps
drawn_inside ps [] h i l = absurd (omega arith)
drawn_inside ps (x ∷ xs) h zero l = slice_get_within ps h.0 x h.1
drawn_inside ps (x ∷ xs) h (suc i) l = skip_inside ps h.0 (drawn_from (remove ps h.0) xs h.2 i) (slice_get_within ps h.0 x h.1) (drawn_inside (remove ps h.0) xs h.2 i (omega arith))

pub drawn_at : {X : Type 0} (ps xs : List X) (h : Drawn ps xs) (i : ℕ) → i < length xs → slice_get xs i ≡ slice_get ps (drawn_from ps xs h i)
drawn_at ps [] h i l = absurd (omega arith)
drawn_at ps (x ∷ xs) h zero l = sym h.1
drawn_at ps (x ∷ xs) h (suc i) l = drawn_at (remove ps h.0) xs h.2 i (omega arith) ∙ slice_get-skip ps h.0 (drawn_from (remove ps h.0) xs h.2 i) (slice_get_within ps h.0 x h.1)

pub drawn_apart : {X : Type 0} (ps xs : List X) (h : Drawn ps xs) (i j : ℕ) → i < length xs → j < length xs → drawn_from ps xs h i ≡ drawn_from ps xs h j → i ≡ j
drawn_apart ps [] h i j l u e = absurd (omega arith)
drawn_apart ps (x ∷ xs) h zero zero l u e = refl
drawn_apart ps (x ∷ xs) h zero (suc j) l u e = absurd (skip_misses h.0 _ e)
drawn_apart ps (x ∷ xs) h (suc i) zero l u e = absurd (skip_misses h.0 _ (sym e))
drawn_apart ps (x ∷ xs) h (suc i) (suc j) l u e = ap suc (drawn_apart (remove ps h.0) xs h.2 i j (omega arith) (omega arith) (skip_apart h.0 _ _ e))
