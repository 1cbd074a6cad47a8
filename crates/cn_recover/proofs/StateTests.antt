-- A recording witness, by the sets of the states that the orders of each team leave.
use Rattle.std.proofs.Common.{◌≡◌, ℕ, sym, subst}
use Rattle.std.specs.Prelude.{IsBitSet}
use Rattle.cn_table.specs.TypeTable.{TypeTable}
use Rattle.cn_choice.specs.declared.team.Team.TheVariants.{A, B}
use Rattle.cn_choice.specs.Canonical.{Choice, raw_choice_of}
use Rattle.cn_choice.specs.RawChoices.{RawChoice}
use Rattle.cn_outcomes.specs.LeftStates.{LeavesIn}
use Rattle.cn_recover.specs.Recording.{IsRecordingWitness}
use Rattle.cn_recover.specs.StatesApart.{AreApart, AreLeft}
use Rattle.cn_recover.proofs.TeamSizes.{two_in_a, two_in_b}

module _ (t : TypeTable) (c : Choice) (raw : RawChoice) (same : raw ≡ raw_choice_of c) (from_a from_b : ℕ) where
  -- some of the states that are left are apart
  pub apart_where_recording : AreLeft t raw A from_a → AreLeft t raw B from_b → IsRecordingWitness t raw → AreApart c from_a from_b
  apart_where_recording a b w =
      let left_a : AreLeft t (raw_choice_of c) A from_a = subst (λ (r : RawChoice). AreLeft t r A from_a) same a in
      let left_b : AreLeft t (raw_choice_of c) B from_b = subst (λ (r : RawChoice). AreLeft t r B from_b) same b in
      let records : IsRecordingWitness t (raw_choice_of c) = subst (IsRecordingWitness t) same w in
      record {
        apart = λ q x y. records.apart q (left_a q x) (left_b q y);
        no_way_back_a = λ l x. records.no_way_back_a ((two_in_b c).1 l) (left_a c.state x);
        no_way_back_b = λ l x. records.no_way_back_b ((two_in_a c).1 l) (left_b c.state x);
      }

  -- all of them are
  pub recording_where_apart : ((q : ℕ) → LeavesIn t raw A q → IsBitSet from_a q) → ((q : ℕ) → LeavesIn t raw B q → IsBitSet from_b q) → AreApart c from_a from_b → IsRecordingWitness t raw
  recording_where_apart a b apart =
      let in_a : (q : ℕ) → LeavesIn t (raw_choice_of c) A q → IsBitSet from_a q = subst (λ (r : RawChoice). (q : ℕ) → LeavesIn t r A q → IsBitSet from_a q) same a in
      let in_b : (q : ℕ) → LeavesIn t (raw_choice_of c) B q → IsBitSet from_b q = subst (λ (r : RawChoice). (q : ℕ) → LeavesIn t r B q → IsBitSet from_b q) same b in
      let records : IsRecordingWitness t (raw_choice_of c) = record {
        apart = λ q x y. apart.apart q (in_a q x) (in_b q y);
        no_way_back_a = λ h x. apart.no_way_back_a ((two_in_b c).0 h) (in_a c.state x);
        no_way_back_b = λ h x. apart.no_way_back_b ((two_in_a c).0 h) (in_b c.state x);
      } in
      subst (IsRecordingWitness t) (sym same) records
