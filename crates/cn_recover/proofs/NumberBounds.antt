-- The recoverable number with no limit, from the one up to a bound above which the type is not discerning.
use Rattle.std.proofs.Common.{◌≡◌, ◌↔◌, Result, Ok, Err, IfOk, ℕ, ◌<◌, ◌≤◌, ◌⊎◌, inl, inr, length, Option, Some, None, arith}
use Rattle.std.proofs.lemmas.Bool.{cases_order}
use Rattle.cn_table.specs.TypeTable.{TypeTable}
use Rattle.cn_choice.specs.Discerning.{IsDiscerning}
use Rattle.cn_search.specs.declared.exact.ConsensusNumber.TheVariants.{Finite}
use Rattle.cn_stocks.specs.Greatest.{IsGreatestRecord}
use Rattle.cn_stocks.specs.Records.{SomeRecords}
use Rattle.cn_recover.specs.Recording.{HasRecoverableNumber, IsRecording, IsRecoverableNumberUpTo}
use Rattle.cn_recover.proofs.Recordings.{recording_discerns}

module _ (t : TypeTable) (bound most : ℕ) (few : (bound ≤ 2) ⊎ (bound ≤ length t.states)) (above : (m : ℕ) → bound < m → ¬ IsDiscerning t m) (all : bound ≤ most)
    (least : (most ≡ 2) ⊎ (most ≡ bound)) where
  beyond : (n : ℕ) → ((m : ℕ) → n < m → m ≤ most → ¬ IsRecording t m) → (m : ℕ) → n < m → ¬ IsRecording t m
  beyond n none m l is = elim (cases_order m most) [
    | inl e ↦ none m l (omega (arith, e)) is
    | inr r ↦ elim r [
      | inl less ↦ none m l (omega (arith, less)) is
      | inr more ↦ above m (omega (arith, all, more)) (recording_discerns t m is)
    ]
  ]

  pub no_recoverable : IsRecoverableNumberUpTo t most None → HasRecoverableNumber t (Finite 1)
  no_recoverable is = (omega arith, inl (omega arith), λ two. absurd (omega (arith, two)), beyond 1 (λ m l u. is m (omega (arith, l)) u))

  pub recoverable_at : (n : ℕ) → IsRecoverableNumberUpTo t most (Some n) → HasRecoverableNumber t (Finite n)
  recoverable_at n is = (omega (arith, is.0), within few least, λ two. is.2, beyond n is.3)
    where
      within : (bound ≤ 2) ⊎ (bound ≤ length t.states) → (most ≡ 2) ⊎ (most ≡ bound) → (n ≤ 2) ⊎ (n ≤ length t.states)
      within few (inl two) = inl (omega (arith, two, is.1))
      within (inl two) (inr same) = inl (omega (arith, two, same, is.1))
      within (inr less) (inr same) = inr (omega (arith, less, same, is.1))

-- what is found by stocks is the recoverable number
by_stocks : (t : TypeTable) (most : ℕ) → ((n : ℕ) → 2 ≤ n → IsRecording t n ↔ SomeRecords t n) → (found : Option ℕ) → IsGreatestRecord t most found → IsRecoverableNumberUpTo t most found
by_stocks t most law None is = λ m two l r. is m two l ((law m two).0 r)
by_stocks t most law (Some n) is = (is.0, is.1, (law n is.0).1 is.2, λ m l u r. is.3 m l u ((law m (omega (arith, l, is.0))).0 r))

pub found_by_stocks : {E : Type 0} (t : TypeTable) (most : ℕ) → ((n : ℕ) → 2 ≤ n → IsRecording t n ↔ SomeRecords t n) → (r : Result (Option ℕ) E) → IfOk r (IsGreatestRecord t most)
    → IfOk r (IsRecoverableNumberUpTo t most)
found_by_stocks t most law (Ok found) h = by_stocks t most law found h
found_by_stocks t most law (Err e) h = tt

-- a type that is recording for the same numbers of processes has the same number
pub same_up_to : (t u : TypeTable) → ((n : ℕ) → IsRecording t n ↔ IsRecording u n) → (most : ℕ) (found : Option ℕ) → IsRecoverableNumberUpTo u most found → IsRecoverableNumberUpTo t most found
same_up_to t u same most None is = λ m two l r. is m two l ((same m).0 r)
same_up_to t u same most (Some n) is = (is.0, is.1, (same n).1 is.2, λ m l v r. is.3 m l v ((same m).0 r))
