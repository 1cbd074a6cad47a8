-- Why a number without reads is what it is, as one value.
use Rattle.std.specs.Prelude.{◌≡◌, ◌⊎◌, ℕ, ◌+◌, ◌<◌, ◌≤◌, List, Bool, All, IfSome, IsSome, length}
use Rattle.std.specs.Prelude.{Option, Some}
use Rattle.cn_table.specs.TypeTable.{TypeTable}
use Rattle.cn_choice.specs.Discerning.{IsDiscerning}
use Rattle.cn_choice.specs.declared.limits.TheConstants.{MOST_PROCESSES}
use Rattle.cn_interference.specs.Rules.{IsRuleOf}
use Rattle.cn_merging.specs.Merged.{IsWhollyMerged}
use Rattle.cn_search.specs.GreatestLimit.{IsGreatestLimit}
use Rattle.cn_unread_number.specs.Bounds.{HasUnreadNumber}
use Rattle.cn_unread_number.specs.Evidence.{AreShown, TellsBy}
use Rattle.cn_unread_number.specs.declared.bounds.NumberBounds.{NumberBounds}
use Rattle.cn_unread_number.specs.declared.bounds.NumberBounds.TheVariants.{AtLeast, Between, Exactly}
use Rattle.cn_unread_number.specs.declared.bounds.NumberBounds.TheVariants.{Infinite}
use Rattle.cn_unread_number.specs.declared.evidence.LeastEvidence.{LeastEvidence}
use Rattle.cn_unread_number.specs.declared.evidence.LeastEvidence.TheVariants as least
use Rattle.cn_unread_number.specs.declared.evidence.MostEvidence.{MostEvidence}
use Rattle.cn_unread_number.specs.declared.telling.Telling.{Telling}
use Rattle.cn_unread_reasons.specs.Known.{IsKnownFollowUp, IsUnreadExplanation}
use Rattle.cn_unread_reasons.specs.MergedStates.{merged_states}
use Rattle.cn_unread_reasons.specs.PlayedTraps.{IsPlayedTrapOf}
use Rattle.cn_unread_reasons.specs.SignWitnesses.{IsSignWitness}
use Rattle.cn_unread_reasons.specs.UnreadWitnesses.{IsUnreadWitnessOf}
use Rattle.cn_unread_reasons.specs.declared.explanation.MostReason.{MostReason}
use Rattle.cn_unread_reasons.specs.declared.explanation.MostReason.TheVariants as most
use Rattle.cn_unread_reasons.specs.declared.explanation.UnreadExplanation.{UnreadExplanation}
use Rattle.cn_unread_reasons.specs.declared.signs.SignWitness.{SignWitness}
use Rattle.cn_unread_reasons.specs.declared.witness.UnreadWitness.{UnreadWitness}

-- the lower bound, or the limit if there is none that is greatest
abbrev pub least_of : ℕ → NumberBounds → ℕ
least_of limit (Exactly n) = n
least_of limit Infinite = limit
least_of limit (Between n m) = n
least_of limit (AtLeast n) = n

-- the number is at most n: no more processes can agree even with reads, and this is the rule of the
-- type, if there is one; or the adversary has this trap for one process more. A trap is told for at
-- most MOST_PROCESSES processes.
abbrev pub IsMostFor : TypeTable → Bool → ℕ → MostReason → Type 0
IsMostFor t all n most.Open = MOST_PROCESSES ≤ n
IsMostFor t all n most.EachNumber = ⊥
IsMostFor t all n (most.WithReads rule) =
    ((m : ℕ) → n < m → ¬ IsDiscerning t m) × IsRuleOf t rule
IsMostFor t all n (most.Trap trap) = IsPlayedTrapOf t (n + 1) all trap

-- the reason of the upper bound, if there is one
abbrev pub IsMostReason : TypeTable → Bool → NumberBounds → MostReason → Type 0
IsMostReason t all (Exactly n) reason = IsMostFor t all n reason
IsMostReason t all Infinite reason = reason ≡ most.EachNumber
IsMostReason t all (Between n m) reason = IsMostFor t all m reason
IsMostReason t all (AtLeast n) reason = reason ≡ most.Open

-- a witness for as many processes as the lower bound, or as are searched at most
pub record IsWitnessFor (t : TypeTable) (n limit : ℕ) (w : UnreadWitness) : Type 0 where
  pub witness : IsUnreadWitnessOf t w.processes w
  pub processes : (w.processes ≡ n) ⊎ (w.processes ≡ limit)

-- the reason that evidence for n processes gives is told: how the type tells its states, signs, or a
-- witness, for at most MOST_PROCESSES processes
abbrev pub IsTold : TypeTable → LeastEvidence → ℕ → Option Telling → Option UnreadWitness
    → Option SignWitness → Type 0
IsTold t least.Alone n telling witness signs = Unit {0}
IsTold t (least.Telling how) n telling witness signs = telling ≡ Some how
IsTold t (least.Visible c) n telling witness signs =
    2 ≤ n → n ≤ MOST_PROCESSES → IsSome witness
IsTold t (least.Further further) n telling witness signs = 2 ≤ n → n ≤ MOST_PROCESSES
    → All (IsKnownFollowUp t) further.follow_ups.items → IsSome witness
IsTold t (least.Signs choice) n telling witness signs = IsSome signs

-- the explanation is of the number of the type without reads: it speaks of the type with its states
-- merged, and each reason is one
pub record ExplainsUnread (t : TypeTable) (all : Bool) (e : UnreadExplanation) : Type 0 where
  pub known : IsUnreadExplanation e
  pub given : e.given ≡ t
  pub is_all : e.all ≡ all
  pub bounds : HasUnreadNumber t e.bounds
  pub class_of : List ℕ
  pub table : IsWhollyMerged t e.table class_of
  pub merged : e.merged.items ≡ merged_states class_of
  pub telling : IfSome e.telling (TellsBy e.table)
  pub low : LeastEvidence
  pub high : MostEvidence
  pub shown : AreShown e.table low high e.bounds
  pub limit : ℕ
  pub is_limit : IsGreatestLimit (length e.table.states) (length e.table.operations) limit
  pub told : IsTold e.table low (least_of limit e.bounds) e.telling e.witness e.signs
  pub witness : IfSome e.witness (IsWitnessFor e.table (least_of limit e.bounds) limit)
  pub signs : IfSome e.signs (IsSignWitness e.table)
  pub most : IsMostReason e.table all e.bounds e.most
