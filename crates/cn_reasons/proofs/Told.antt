-- What is told of a list, one more at a time.
use Rattle.std.proofs.Common.{◌≡◌, ℕ, ◌<◌, ◌≤◌, List, [], ◌∷◌, ◌++◌, length, length-append, take, Bool, true, false, cond, refl, sym, subst, arith, true≢false, All}
use Rattle.std.proofs.lemmas.List.{take-append-le, take_all, length-take}
use Rattle.std.proofs.lemmas.List.Elements.{All-take}
use Rattle.std.proofs.lemmas.Slice.Zip.{AllZip-long, all_zipped_more}
use Rattle.std.specs.List.{AllZip, filter}
use Rattle.cn_table.specs.TypeTable.{TypeTable}
use Rattle.cn_choice.specs.Canonical.{canonical_choices}
use Rattle.cn_choice.specs.Live.{is_live, live_choices}
use Rattle.cn_reasons.specs.Refutations.{first_told}

module _ {X W : Type 0} (R : X → W → Type 0) (before : List X) (ways : List W) where
  told_count : AllZip R (first_told false before) ways → length ways ≡ length (take 12 before)
  told_count so_far = AllZip-long R (take 12 before) ways so_far

  -- one more is told
  pub told_more : (all : Bool) (x : X) (w : W) → (all ≡ false → length ways < 12) → AllZip R (first_told all before) ways → R x w → AllZip R (first_told all (before ++ x ∷ [])) (ways ++ w ∷ [])
  told_more true x w few so_far here = all_zipped_more R before ways x w so_far here
  told_more false x w few so_far here =
      let less = few refl in
      let short : length before < 12 = omega (arith, less, told_count so_far, length-take 12 before) in
      let old : take 12 before ≡ before = take_all 12 before (omega (arith, short)) in
      let new : take 12 (before ++ x ∷ []) ≡ before ++ x ∷ [] = take_all 12 (before ++ x ∷ []) (omega (arith, short, length-append before (x ∷ []))) in
      subst (λ (xs : List X). AllZip R xs (ways ++ w ∷ [])) (sym new) (all_zipped_more R before ways x w (subst (λ (xs : List X). AllZip R xs ways) old so_far) here)

  -- no more are told
  pub told_as_before : (all : Bool) (x : X) → all ≡ false → 12 ≤ length ways → AllZip R (first_told all before) ways → AllZip R (first_told all (before ++ x ∷ [])) ways
  told_as_before true x some many so_far = absurd (true≢false some)
  told_as_before false x some many so_far =
      let long : 12 ≤ length before = omega (arith, many, told_count so_far, length-take 12 before) in
      subst (λ (xs : List X). AllZip R xs ways) (sym (take-append-le 12 before (x ∷ []) long)) so_far

  -- no more are told than there are
  pub told_few : (all : Bool) → AllZip R (first_told all before) ways → length ways ≤ length before
  told_few true so_far = omega (arith, AllZip-long R before ways so_far)
  told_few false so_far = omega (arith, told_count so_far, length-take 12 before)

pub all_told : {X : Type 0} (P : X → Type 0) (all : Bool) (xs : List X) → All P xs → All P (first_told all xs)
all_told P true xs h = h
all_told P false xs h = All-take P 12 xs h

filter_few : {X : Type 0} (p : X → Bool) (xs : List X) → length (filter p xs) ≤ length xs
filter_few p [] = omega arith
filter_few p (x ∷ xs) = by_test (p x) (filter_few p xs)
  where
    by_test : (b : Bool) → length (filter p xs) ≤ length xs → length (cond b (x ∷ filter p xs) (filter p xs)) ≤ length (x ∷ xs)
    by_test true l = omega (arith, l)
    by_test false l = omega (arith, l)

-- no more choices are live than there are canonical ones
pub live_few : (t : TypeTable) (n : ℕ) → length (live_choices t n) ≤ length (canonical_choices (length t.states) (length t.operations) n)
unfolding live_choices
live_few t n = filter_few (is_live t) (canonical_choices (length t.states) (length t.operations) n)
