-- The evidence for a recoverable number, from what is known of it.
use Rattle.std.proofs.Common.{◌≡◌, ◌∙◌, ◌↔◌, ℕ, zero, suc, ◌+◌, ◌-◌, ◌≤◌, List, ◌∷◌, length, length-append, min, slice_index_or, Bool, true, false, cond, Contains, Some, None, refl, sym, subst, arith}
use Rattle.std.specs.Prelude.{nat_le, ◌&&◌}
use Rattle.std.proofs.lemmas.List.{get_or_default}
use Rattle.std.proofs.lemmas.List.Elements.{Contains-append_right}
use Rattle.std.proofs.lemmas.Bool.{and_parts, leb-true}
use Rattle.cn_table.specs.TypeTable.{TypeTable}
use Rattle.cn_choice.specs.Canonical.{Choice, FitsTable, IsCanonical, canonical_choices, raw_choice_of}
use Rattle.cn_choice.specs.GreatestNumbers.{PassesDown}
use Rattle.cn_choice.specs.Live.{IsLive, live_choices}
use Rattle.cn_choice.specs.RawChoices.{IsRawChoice, RawChoice}
use Rattle.cn_finding.specs.Evidence.{IsFirst, NoneIs}
use Rattle.cn_search.specs.Faults.{count_fault, find_fault}
use Rattle.cn_search.specs.declared.fault.FindFault.TheVariants.{BadLimit}
use Rattle.cn_search.specs.declared.exact.ConsensusNumber.{ConsensusNumber}
use Rattle.cn_search.specs.declared.exact.ConsensusNumber.TheVariants.{Finite, Infinite}
use Rattle.cn_check.proofs.WitnessLemmas.{fits_for}
use Rattle.cn_recover.specs.Recording.{HasRecoverableNumber, IsRecording, IsRecordingWitness}
use Rattle.cn_reasons.specs.Recoverable.{witness_size}

-- what passes down from a number holds for each number from 2 to it
pub at_less : (P : ℕ → Type 0) → PassesDown P → (n m : ℕ) → 2 ≤ m → m ≤ n → P n → P m
at_less P below n m two less is = by_steps (n - m) (subst P (omega arith) is)
  where
    by_steps : (k : ℕ) → P (m + k) → P m
    by_steps zero is = subst P (omega arith) is
    by_steps (suc k) is = by_steps k (subst P (omega arith) (below (m + suc k) (omega arith) is))

-- a limit with no fault is from 2 to 8
pub limit_within : (states operations limit : ℕ) → find_fault states operations limit ≡ None → (2 ≤ limit) × (limit ≤ 8)
limit_within states operations limit e = by_test (nat_le 2 limit && nat_le limit 8) refl e
  where
    by_test : (b : Bool) → (nat_le 2 limit && nat_le limit 8) ≡ b → cond b (count_fault (length (canonical_choices states operations limit))) (Some BadLimit) ≡ None → (2 ≤ limit) × (limit ≤ 8)
    by_test true t f = let parts = and_parts (nat_le 2 limit) (nat_le limit 8) t in (leb-true 2 limit parts.0, leb-true limit 8 parts.1)
    by_test false t f = absurd (cc f)

module _ (t : TypeTable) where
  module _ (live : (n : ℕ) (c : Choice) → Contains (live_choices t n) c ↔ (IsCanonical c × IsRawChoice t n (raw_choice_of c) × IsLive t (raw_choice_of c))) where
    -- a choice that is listed is one of the table
    pub listed_fits : (n : ℕ) (c : Choice) → n ≤ 8 → Contains (live_choices t n) c → FitsTable t c
    listed_fits n c few here =
        let is = (live n c).0 here in
        let many : n ≡ length c.a + length c.b = sym is.1.one_operation_each ∙ length-append c.a c.b in
        fits_for t n c (omega (arith, many, is.0.someone_in_a, is.0.a_not_longer)) few is.1

    pub first_fits : (P : RawChoice → Type 0) (n : ℕ) (c : Choice) → n ≤ 8 → IsFirst P (live_choices t n) c → FitsTable t c
    first_fits P n c few first =
        listed_fits n c few (subst (λ (cs : List Choice). Contains cs c) (sym first.listed) (Contains-append_right first.before (c ∷ first.after) c (0, omega arith, refl)))

  -- where the type is not recording, no live choice is a recording witness
  pub none_recording : (n : ℕ) → ((c : Choice) → Contains (live_choices t n) c → IsRecordingWitness t (raw_choice_of c) → IsRecording t n) → ¬ IsRecording t n
      → NoneIs (IsRecordingWitness t) (live_choices t n)
  none_recording n shown fails = λ i d less. λ is.
      fails (shown (slice_index_or (live_choices t n) i d) (i, less, get_or_default (live_choices t n) i (slice_index_or (live_choices t n) i d) d less) is)

-- the type is recording for as many processes as the witness has
pub recording_at : (t : TypeTable) → PassesDown (IsRecording t) → (limit : ℕ) (number : ConsensusNumber) → 2 ≤ limit → HasRecoverableNumber t number
    → 2 ≤ witness_size limit number → IsRecording t (witness_size limit number)
recording_at t below limit (Finite n) some has two = at_less (IsRecording t) below n (min n limit) two (omega arith) (has.2 (omega (arith, two)))
recording_at t below limit Infinite some has two = has limit some
