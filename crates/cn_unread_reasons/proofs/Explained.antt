-- What evidence shows of the parts of an explanation.
use Rattle.std.proofs.Common.{ℕ, ◌<◌, ◌≤◌, List, [], ◌∷◌, length, All, Bool, true, false, cond, arith}
use Rattle.std.specs.Prelude.{slice_index}
use Rattle.std.proofs.lemmas.List.Elements.{All-cons, All-nil}
use Rattle.cn_table.specs.TypeTable.{TypeTable}
use Rattle.cn_merging.specs.Merged.{IsWhollyMerged}
use Rattle.cn_reasons.proofs.Pieces.{All-pieces}
use Rattle.cn_unread_number.specs.Evidence.{AreShown, ShowsLeast}
use Rattle.cn_unread_number.specs.declared.bounds.NumberBounds.{NumberBounds}
use Rattle.cn_unread_number.specs.declared.bounds.NumberBounds.TheVariants.{AtLeast, Between, Exactly, Infinite}
use Rattle.cn_unread_number.specs.declared.evidence.LeastEvidence.{LeastEvidence}
use Rattle.cn_unread_number.specs.declared.evidence.MostEvidence.{MostEvidence}
use Rattle.cn_unread_reasons.specs.Known.{IsKnownMerged}
use Rattle.cn_unread_reasons.specs.MergedStates.{merged_if, merged_states, stands_before}
use Rattle.cn_unread_reasons.specs.UnreadExplanations.{least_of}
use Rattle.cn_unread_reasons.specs.declared.merged.MergedState.{MergedState}

pub shown_least : (t : TypeTable) (low : LeastEvidence) (high : MostEvidence) (bounds : NumberBounds) (limit : ℕ) → 2 ≤ limit → AreShown t low high bounds → ShowsLeast t low (least_of limit bounds)
shown_least t low high (Exactly n) limit two shown = shown.1
shown_least t low high Infinite limit two shown = shown limit two
shown_least t low high (Between n m) limit two shown = shown.1
shown_least t low high (AtLeast n) limit two shown = shown.1

module _ (t u : TypeTable) (class_of : List ℕ) (is : IsWhollyMerged t u class_of) where
  one_known : (q : ℕ) → q < length class_of → All (IsKnownMerged t u) (merged_if class_of q)
  one_known q less = by_test (stands_before class_of q)
    where
      m : MergedState
      m = record { state = record { 0 = q }; class = record { 0 = slice_index class_of q } }

      known : IsKnownMerged t u m
      known = let here : q < length t.states = omega (arith, less, is.each) in record { state = here; class = is.merged.merges.known q here }

      by_test : (b : Bool) → All (IsKnownMerged t u) (cond {A = List MergedState} b (m ∷ []) [])
      by_test true = All-cons (IsKnownMerged t u) m [] known (All-nil (IsKnownMerged t u))
      by_test false = All-nil (IsKnownMerged t u)

  pub known_merged : All (IsKnownMerged t u) (merged_states class_of)
  known_merged = All-pieces (merged_if class_of) (IsKnownMerged t u) 0 (length class_of) (λ q low less. one_known q (omega (arith, less)))
