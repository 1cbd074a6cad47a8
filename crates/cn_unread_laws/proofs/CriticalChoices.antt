-- The choice of a critical configuration: what its processes are about to do, the valences after
-- orders, and that it is a witness.
use Rattle.std.proofs.Common.{◌≡◌, ℕ, ◌<◌, inl, inr, List, [], ◌∷◌, length, sym, ap, ◌∙◌, subst, Bool}
use Rattle.std.proofs.Common.{true, false, true≢false, Some}
use Rattle.std.specs.Prelude.{slice_index, slice_get}
use Rattle.std.proofs.lemmas.Bool.{cases_eq}
use Rattle.cn_table.specs.TypeTable.{TypeTable}
use Rattle.cn_choice.specs.declared.team.Team.{Team}
use Rattle.cn_choice.specs.declared.team.Team.TheVariants.{A, B}
use Rattle.cn_choice.specs.Discerning.{IsWitness}
use Rattle.cn_choice.specs.Orders.{IsOrder}
use Rattle.cn_choice.specs.OutcomeSets.{BeginsIn, pair_of}
use Rattle.cn_choice.specs.RawChoices.{RawChoice}
use Rattle.cn_choice.proofs.OrderLemmas.Walks.{pair_takes_part}
use Rattle.cn_unread.proofs.PairParts.{pair_parts}
use Rattle.cn_consensus.specs.Configuration.{Configuration, after, step}
use Rattle.cn_consensus.specs.Consensus.{IsSchedule}
use Rattle.cn_consensus.specs.Protocol.{Action, IsProtocolOf, Protocol}
use Rattle.cn_consensus.specs.Protocol.Action.{Decide, ReadRegister, WriteRegister, ApplyOperation}
use Rattle.cn_consensus.specs.Protocol.Action.{ReadObject}
use Rattle.cn_consensus.specs.Valence.{IsCritical, IsValent}
use Rattle.cn_consensus.proofs.Alike.{Alike}
use Rattle.cn_consensus.proofs.CriticalConfigurations.{all_meet, clash, valent_later}
use Rattle.cn_consensus.proofs.OneObject.{IsAbout}
use Rattle.cn_consensus.proofs.Witnesses.{choice, mark_at, object, operation_is, order_known}
use Rattle.cn_consensus.proofs.Witnesses.{order_schedule, ran_order, team_at, team_by, valence_a}
use Rattle.cn_consensus.proofs.Witnesses.{valence_b}

-- the operation of an action
-- the same as the private operation_of of cn_consensus
abbrev operation_of : {L V : Type 0} → Action L V → ℕ
operation_of (Decide x) = 0
operation_of (ReadRegister i k) = 0
operation_of (WriteRegister i v l) = 0
operation_of (ApplyOperation i o k) = o
operation_of (ReadObject i k) = 0

module _ {L V : Type 0} (t : ℕ → TypeTable) (n : ℕ) (P : Protocol L V) (known : IsProtocolOf t n P)
    (c : Configuration L V) (w : IsCritical t n P c) where
  abbrev pub place : ℕ
  place = object t n P known c w

  abbrev pub chosen : RawChoice
  chosen = choice t n P known c w

  abbrev team : ℕ → Team
  team p = team_at t n P known c w p

  -- each process is about to apply its operation of the choice
  -- the same as the private about of cn_consensus
  pub about : (p : ℕ) → p < n
      → (k : ℕ → L) × IsAbout t P (λ q. slice_index chosen.operations q) place c p k
  about p l =
      let a = all_meet t n P c w p l in (
        a.1,
        a.2 ∙ ap (λ (o : ℕ). ApplyOperation place o a.1) (sym (operation_is t n P known c w p l
            ∙ ap operation_of a.2)),
      )

  -- after an order that begins in a team, the configuration has the valence of the team
  -- the same as the private begun_valent of cn_consensus
  pub begun_valent : (side : Team) (x : Bool) (order : List ℕ)
      → ((y : Bool) → team_by y ≡ side → y ≡ x) → IsSchedule n order → BeginsIn chosen side order
      → IsValent t n P x (after t P c order)
  begun_valent side x [] back h b = absurd (cc b.1)
  begun_valent side x (p ∷ ps) back h b =
      let first : p ≡ b.0 = cc b.1 in
      let mark : team p ≡ side = some_same (sym (mark_at t n P known c w p h.0)
      ∙ (ap (slice_get chosen.marks) first ∙ b.2)) in
      let valent : IsValent t n P x (step t P c p) =
      subst (λ (y : Bool). IsValent t n P y (step t P c p)) (back (w.valence p) mark)
      (w.valent p h.0) in
      valent_later t n P x (step t P c p) ps h.1 valent
    where
      some_same : {T : Type 0} {y z : T} → Some y ≡ Some z → y ≡ z
      some_same e = cc e

  -- after two orders that show process j the same pair, all looks alike to it
  -- the same as the private alike_after of cn_consensus
  alike_after : (alpha beta : List ℕ) → IsOrder (length chosen.operations) alpha
      → IsOrder (length chosen.operations) beta → (j : ℕ) (pair : ℕ × ℕ) → j < n
      → pair_of (t place) chosen alpha j ≡ Some pair → pair_of (t place) chosen beta j ≡ Some pair
      → Alike j (after t P c alpha) (after t P c beta)
  alike_after alpha beta a b j pair l e f =
      let r = ran_order t n P known c w alpha a in
      let s = ran_order t n P known c w beta b in
      let g = pair_parts (t place) chosen alpha j pair e in
      let h = pair_parts (t place) chosen beta j pair f in
      let k = about j l in
      record {
        local = r.told j pair.0 g.0 k.0 k.1 ∙ sym (s.told j pair.0 h.0 k.0 k.1);
        registers = λ i. r.registers i ∙ sym (s.registers i);
        objects = λ i. elim (cases_eq i place) [
          | inl at ↦ ap (after t P c alpha).objects at
              ∙ ((r.last ∙ g.1) ∙ (sym (s.last ∙ h.1) ∙ sym (ap (after t P c beta).objects at)))
          | inr other ↦ r.others i other ∙ sym (s.others i other)
        ];
      }

  -- the same as the private is_witness of cn_consensus
  pub is_witness : IsWitness (t place) chosen
  is_witness j pair (alpha, o, begins, seen) (beta, u, begins_too, seen_too) =
      let l = pair_takes_part (t place) chosen n alpha j pair (order_known t n P known c w alpha o)
      seen in
      true≢false (sym (clash t n P j (after t P c alpha) (after t P c beta) false true l
      (w.finishes alpha (order_schedule t n P known c w alpha o))
      (alike_after alpha beta o u j pair l seen seen_too)
      (begun_valent A false alpha valence_a (order_schedule t n P known c w alpha o) begins)
      (begun_valent B true beta valence_b (order_schedule t n P known c w beta u) begins_too)))
