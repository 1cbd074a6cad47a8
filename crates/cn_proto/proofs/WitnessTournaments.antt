-- The tournament of a witness is sound, for any number of processes.
use Rattle.std.proofs.Common.{◌≡◌, ℕ, ◌+◌, ◌-◌, ◌<◌, ◌≤◌, List, length, length-append, sym}
use Rattle.std.proofs.Common.{◌∙◌, subst}
use Rattle.cn_table.specs.TypeTable.{TypeTable}
use Rattle.cn_choice.specs.Canonical.{Choice, raw_choice_of}
use Rattle.cn_choice.specs.Moves.{move_of}
use Rattle.cn_choice.specs.OutcomeSets.{InOutcomeSet}
use Rattle.cn_choice.specs.RawChoices.{IsRawChoice}
use Rattle.cn_choice.specs.declared.team.Team.{Team}
use Rattle.cn_proto.specs.Order.{after, IsAnswered, IsRun}
use Rattle.cn_proto.specs.Sound.{IsSound}
use Rattle.cn_proto.specs.Tournament.{team_of, tournament}
use Rattle.cn_proto.specs.Witnesses.{JudgesOutcomes, tournament_protocol}
use Rattle.cn_proto.proofs.PlanLemmas.{some_a, some_b}
use Rattle.cn_proto.proofs.Roles.{in_outcome_set}
use Rattle.cn_proto.proofs.Soundness.{short_paths, tournament_sound}

pub run_outcome : (t : TypeTable) (c : Choice) (side : Team) (order : List ℕ) (role response : ℕ)
    → IsRun (length c.a + length c.b) (team_of (length c.a)) side order
    → IsAnswered (move_of t (raw_choice_of c)) c.state order role response
    → InOutcomeSet t (raw_choice_of c) side role
    (response, after (move_of t (raw_choice_of c)) c.state order)
run_outcome t c side order role response run answered =
    (in_outcome_set t c side order role response (length-append c.a c.b) run answered).1

module _ (t : TypeTable) (c : Choice) (n : ℕ) (is : IsRawChoice t n (raw_choice_of c)) where
  sides_are : length c.a + length c.b ≡ n
  sides_are = sym (length-append c.a c.b) ∙ is.one_operation_each

  in_a : 1 ≤ length c.a
  in_a = some_a (length c.a) (length c.b) is.someone_in_a

  in_b : 1 ≤ length c.b
  in_b = some_b (length c.a) (length c.b) is.someone_in_b

  pub sound : (judge : ℕ → ℕ → ℕ → Team) → JudgesOutcomes t (raw_choice_of c) judge
      → IsSound (tournament_protocol t c judge) n (n - 1) (team_of (length c.a))
  sound judge judges = subst (λ (k : ℕ).
      IsSound (tournament_protocol t c judge) k (k - 1) (team_of (length c.a))) sides_are
      (tournament_sound (move_of t (raw_choice_of c)) c.state (length c.a) (length c.b) judge
      in_a in_b (λ side order role response run answered. judges side role response
      (after (move_of t (raw_choice_of c)) c.state order)
      (run_outcome t c side order role response run answered)))

  pub short : (p : ℕ) → p < n → length (tournament (length c.a) (length c.b) p) ≤ n - 1
  short = subst (λ (k : ℕ). (p : ℕ) → p < k
      → length (tournament (length c.a) (length c.b) p) ≤ k - 1) sides_are
      (λ p l. short_paths (length c.a) (length c.b) p in_a in_b l)
