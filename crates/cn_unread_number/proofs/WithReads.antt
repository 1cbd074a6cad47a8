-- The number with reads as bounds: what shows it, and that it is close.
use Rattle.std.proofs.Common.{◌≡◌, ◌∙◌, ℕ, suc, ◌+◌, ◌≤◌, ◌<◌, inl, inr, refl, sym, subst, arith, IfSome, ◌∷◌, length, length-append, get_or, take, Some}
use Rattle.std.specs.List.{Contains}
use Rattle.std.proofs.lemmas.Bool.{cases_lt}
use Rattle.std.proofs.Math.Seq.{get_or-append_seam}
use Rattle.std.proofs.lemmas.List.{get_or-take, length-take}
use Rattle.cn_table.proofs.Lists.{Contains-between}
use Rattle.cn_table.specs.TypeTable.{TypeTable}
use Rattle.cn_choice.specs.Canonical.{Choice, raw_choice_of}
use Rattle.cn_choice.specs.Discerning.{IsDiscerning, IsWitness}
use Rattle.cn_choice.specs.Live.{live_choices}
use Rattle.cn_choice.specs.declared.limits.TheConstants.{MOST_PROCESSES}
use Rattle.cn_search.specs.Numbers.{HasNumber}
use Rattle.cn_search.specs.declared.exact.ConsensusNumber.{ConsensusNumber}
use Rattle.cn_search.specs.declared.exact.ConsensusNumber.TheVariants.{Finite, Infinite}
use Rattle.cn_views.specs.VisibleChoices.{IsFirstVisible, NoneVisible, SomeLooksTell}
use Rattle.cn_views.proofs.Telling.{only_witnesses}
use Rattle.cn_unread_number.specs.Bounds.{as_bounds, most_with_reads}
use Rattle.cn_unread_number.specs.Evidence.{AreAtLeast, AreAtMost, AreCloseTo, AreShown}
use Rattle.cn_unread_number.specs.Evidence.{IsVisibleUpTo, TellsBy}
use Rattle.cn_unread_number.specs.Steps.{MostIsShown}
use Rattle.cn_unread_number.specs.declared.evidence.LeastEvidence.TheVariants as least
use Rattle.cn_unread_number.specs.declared.evidence.MostEvidence.TheVariants as most
use Rattle.cn_unread_number.specs.declared.telling.Telling.{Telling}

-- what the law `live_choices_decide` says of witnesses
abbrev pub WitnessesShow : Type 0
WitnessesShow = (t : TypeTable) (n : ℕ) (c : Choice) → Contains (live_choices t n) c
    → IsWitness t (raw_choice_of c) → IsDiscerning t n

-- where no choice is visible there is no first one
pub none_visible : (t : TypeTable) (n most : ℕ) (c : Choice) → NoneVisible t n most → IsFirstVisible t n most c → ⊥
none_visible t n most c none first =
    let k = length first.before in
    let here : get_or (live_choices t n) k c ≡ c = rw first.listed (get_or-append_seam first.before c first.behind c) in
    let taken : get_or (take most (live_choices t n)) k c ≡ c = get_or-take most (live_choices t n) k c first.few ∙ here in
    let long : length (live_choices t n) ≡ k + suc (length first.behind) = rw first.listed (length-append first.before (c ∷ first.behind)) in
    let within : k < length (take most (live_choices t n)) = omega (arith, length-take most (live_choices t n), first.few, long) in
    subst (λ (d : Choice). ¬ SomeLooksTell t (raw_choice_of d)) taken (none k c within) first.told

module _ (law : WitnessesShow) (t : TypeTable) where
  is_discerning : (n most : ℕ) (c : Choice) → IsFirstVisible t n most c → IsDiscerning t n
  is_discerning n most c first = law t n c
      (Contains-between (live_choices t n) first.before first.behind c (sym first.listed))
      (only_witnesses t first.told.0 (raw_choice_of c) first.told.2)

  -- where the type is discerning for no more than k processes, choices are visible up to k at most
  none_above : (k n : ℕ) → ((m : ℕ) → k < m → ¬ IsDiscerning t m) → 1 ≤ k → IsVisibleUpTo t n → n ≤ k
  none_above k n none one visible = elim (cases_lt k n) [
    | inl above ↦ (let seen = visible n (omega (arith, above, one)) (omega arith) in
        absurd (none n above (is_discerning n _ seen.0 seen.1)))
    | inr below ↦ below
  ]

  -- the number with reads is not below a number up to which choices are visible
  reads_at_least : (number : ConsensusNumber) → HasNumber t number → (n : ℕ)
      → n ≤ MOST_PROCESSES → IsVisibleUpTo t n → AreAtLeast (as_bounds number) n
  reads_at_least (Finite k) h n few visible = none_above k n h.3 h.0 visible
  reads_at_least Infinite h n few visible = tt

  pub below_most : (number : ConsensusNumber) → HasNumber t number → (n : ℕ)
      → n ≤ MOST_PROCESSES → IsVisibleUpTo t n → IfSome (most_with_reads number) (λ m. n ≤ m)
  below_most (Finite k) h n few visible = none_above k n h.3 h.0 visible
  below_most Infinite h n few visible = tt

  reads_at_most : (number : ConsensusNumber) → IfSome (most_with_reads number) (AreAtMost (as_bounds number))
  reads_at_most (Finite k) = omega arith
  reads_at_most Infinite = tt

  pub close : (number : ConsensusNumber) → HasNumber t number → AreCloseTo t (as_bounds number) number
  close number h = record {
    number_with_reads = h;
    within = reads_at_most number;
    visible = reads_at_least number h;
    told = λ _. refl;
  }

pub shown : (t : TypeTable) (how : Telling) → TellsBy t how → (number : ConsensusNumber) → HasNumber t number
    → AreShown t (least.Telling how) most.WithReads (as_bounds number)
shown t how tells (Finite n) h = (h.0, (tells, h.2), h.3)
shown t how tells Infinite h = λ n two. (tells, λ _. h n two)

-- what shows the greatest number that there is with reads
pub most_shown : (t : TypeTable) (number : ConsensusNumber) → HasNumber t number → (m : ℕ)
    → most_with_reads number ≡ Some m → MostIsShown t most.WithReads (Some m) × (1 ≤ m)
most_shown t (Finite n) h m e = let same : n ≡ m = cc e in
    (λ k l. h.3 k (omega (arith, same, l)), omega (arith, same, h.0))
most_shown t Infinite h m e = absurd (cc e)
