-- A critical configuration gives a witness: the state of the object, and for each process its
-- operation, in team A if its step is to false.
use Rattle.std.proofs.Common.{◌≡◌, ℕ, ◌<◌, inl, inr, List, [], ◌∷◌, length, map, get_or, refl, sym}
use Rattle.std.proofs.Common.{ap, ◌∙◌, subst, arith, Bool, true, false, true≢false, Option, Some}
use Rattle.std.proofs.Common.{None, All, Contains}
use Rattle.std.specs.Prelude.{slice_index, slice_get}
use Rattle.std.specs.List.{range_with_len}
use Rattle.std.specs.Option.{option_map}
use Rattle.std.proofs.lemmas.Bool.{cases_eq}
use Rattle.std.proofs.lemmas.List.Elements.{recursion_from_All}
use Rattle.std.proofs.lemmas.List.FromFn.{get_or-map-range_with_len, length-map-range_with_len}
use Rattle.std.proofs.lemmas.Option.{slice_get-get_or}
use Rattle.cn_table.specs.Run.{responses_along, state_after}
use Rattle.cn_table.specs.TypeTable.{TypeTable}
use Rattle.cn_choice.specs.declared.team.Team.{Team}
use Rattle.cn_choice.specs.declared.team.Team.TheVariants.{A, B}
use Rattle.cn_choice.specs.Discerning.{IsDiscerning, IsWitness}
use Rattle.cn_choice.specs.Orders.{IsOrder}
use Rattle.cn_choice.specs.OutcomeSets.{BeginsIn, operations_of, pair_of, response_of}
use Rattle.cn_choice.specs.RawChoices.{IsRawChoice, RawChoice}
use Rattle.cn_choice.proofs.OrderLemmas.AllOrders.{differ_from}
use Rattle.cn_choice.proofs.OrderLemmas.Walks.{pair_of-response_of, pair_takes_part}
use Rattle.cn_consensus.specs.Protocol.{Action, IsActionOf, IsProtocolOf, Protocol}
use Rattle.cn_consensus.specs.Protocol.Action.{Decide, ReadRegister, WriteRegister, ApplyOperation}
use Rattle.cn_consensus.specs.Protocol.Action.{ReadObject}
use Rattle.cn_consensus.specs.Configuration.{Configuration, step, after}
use Rattle.cn_consensus.specs.Consensus.{IsSchedule}
use Rattle.cn_consensus.specs.Valence.{IsCritical, IsValent}
use Rattle.cn_consensus.proofs.Alike.{Alike}
use Rattle.cn_consensus.proofs.CriticalConfigurations.{all_meet, clash, meeting, valent_later}
use Rattle.cn_consensus.proofs.OneObject.{IsAbout, Ran, ran}

-- the team of a valence
abbrev pub team_by : Bool → Team
team_by false = A
team_by true = B

pub valence_a : (x : Bool) → team_by x ≡ A → x ≡ false
valence_a false e = refl
valence_a true e = absurd (cc e)

pub valence_b : (x : Bool) → team_by x ≡ B → x ≡ true
valence_b false e = absurd (cc e)
valence_b true e = refl

-- the operation of an action
abbrev operation_by : {L V : Type 0} → Action L V → ℕ
operation_by (Decide x) = 0
operation_by (ReadRegister i k) = 0
operation_by (WriteRegister i v l) = 0
operation_by (ApplyOperation i o k) = o
operation_by (ReadObject i k) = 0

-- the parts of a pair
pair_parts : (t : TypeTable) (c : RawChoice) (order : List ℕ) (j : ℕ) (pair : ℕ × ℕ)
    → pair_of t c order j ≡ Some pair
    → (response_of j order (responses_along t c.state (operations_of c order)) ≡ Some pair.0) ×
    (state_after t c.state (operations_of c order) ≡ pair.1)
pair_parts t c order j pair e =
    by_response (response_of j order (responses_along t c.state (operations_of c order)))
    (state_after t c.state (operations_of c order)) (sym (pair_of-response_of t c order j) ∙ e)
  where
    by_response : (r : Option ℕ) (s : ℕ) → option_map (λ x. let p : ℕ × ℕ =
        (x, s) in p) r ≡ Some pair → (r ≡ Some pair.0) × (s ≡ pair.1)
    by_response None s e = absurd (cc e)
    by_response (Some r) s e = let f : (r, s) ≡ pair =
        cc e in (ap (λ (p : ℕ × ℕ). Some p.0) f, ap (λ (p : ℕ × ℕ). p.1) f)

module _ {L V : Type 0} (t : ℕ → TypeTable) (n : ℕ) (P : Protocol L V) (known : IsProtocolOf t n P)
    (c : Configuration L V) (w : IsCritical t n P c) where
  abbrev pub object : ℕ
  object = (meeting t n P c w).0

  abbrev pub operation_at : ℕ → ℕ
  operation_at p = operation_by (P.action p (c.locals p))

  abbrev pub team_at : ℕ → Team
  team_at p = team_by (w.valence p)

  abbrev pub choice : RawChoice
  choice = record {
    state = c.objects object;
    operations =
        map operation_at (range_with_len 0 n);
    marks = map team_at (range_with_len 0 n);
  }

  pub operation_is : (p : ℕ) → p < n → slice_index choice.operations p ≡ operation_at p
  operation_is p l = get_or-map-range_with_len operation_at 0 n p p 0 l (omega arith)

  mark_is : (p : ℕ) (team : Team) → p < n → get_or choice.marks p team ≡ team_at p
  mark_is p team l = get_or-map-range_with_len team_at 0 n p p team l (omega arith)

  pub mark_at : (p : ℕ) → p < n → slice_get choice.marks p ≡ Some (team_at p)
  mark_at p l =
      slice_get-get_or choice.marks p A (subst (λ (m : ℕ).
      p < m) (sym (length-map-range_with_len team_at 0 n)) l) ∙ ap Some (mark_is p A l)

  -- each process is about to apply its operation of the choice
  about : (p : ℕ) → p < n → (k : ℕ → L) × IsAbout t P (λ q.
      slice_index choice.operations q) object c p k
  about p l =
      let a = all_meet t n P c w p l in (
        a.1,
        a.2 ∙ ap (λ (o : ℕ). ApplyOperation object o a.1) (sym (operation_is p l
            ∙ ap operation_by a.2)),
      )

  operation_known : (p : ℕ) → p < n → operation_at p < length (t object).operations
  operation_known p l =
      let a = all_meet t n P c w p l in
      let o : a.0 < length (t object).operations =
      subst (IsActionOf t) a.2 (known.operations_known p (c.locals p) l) in
      subst (λ (m : ℕ). m < length (t object).operations) (sym (ap operation_by a.2)) o

  has_mark : (p : ℕ) (team : Team) → p < n → team_at p ≡ team → Contains choice.marks team
  has_mark p team l e = (
    p,
    subst (λ (m : ℕ). p < m) (sym (length-map-range_with_len team_at 0 n))
        l,
    mark_is p team l ∙ e,
  )

  pub is_raw_choice : IsRawChoice (t object) n choice
  is_raw_choice = record {
    state_known = w.states_known object;
    operations_known = λ p d l.
        let m : p < n = subst (λ (m : ℕ). p < m) (length-map-range_with_len operation_at 0 n) l in
        subst (λ (o : ℕ). o < length (t object).operations)
        (sym (get_or-map-range_with_len operation_at 0 n p p d m (omega arith)))
        (operation_known p m);
    one_operation_each = length-map-range_with_len operation_at 0 n;
    one_team_each = length-map-range_with_len team_at 0 n;
    someone_in_a = has_mark w.low A w.low_known (ap team_by w.low_valence);
    someone_in_b = has_mark w.high B w.high_known (ap team_by w.high_valence);
  }

  -- after an order that begins in a team, the configuration has the valence of the team
  begun_valent : (team : Team) (x : Bool) (order : List ℕ)
      → ((y : Bool) → team_by y ≡ team → y ≡ x) → IsSchedule n order → BeginsIn choice team order
      → IsValent t n P x (after t P c order)
  begun_valent team x [] back h b = absurd (cc b.1)
  begun_valent team x (p ∷ ps) back h b =
      let first : p ≡ b.0 = cc b.1 in
      let mark : team_at p ≡ team = some_same (sym (mark_at p h.0)
      ∙ (ap (slice_get choice.marks) first ∙ b.2)) in
      let valent : IsValent t n P x (step t P c p) =
      subst (λ (y : Bool). IsValent t n P y (step t P c p)) (back (w.valence p) mark)
      (w.valent p h.0) in
      valent_later t n P x (step t P c p) ps h.1 valent
    where
      some_same : {T : Type 0} {y z : T} → Some y ≡ Some z → y ≡ z
      some_same e = cc e

  pub order_known : (order : List ℕ) → IsOrder (length choice.operations) order
      → All (λ p. p < n) order
  order_known order o = subst (λ (m : ℕ). All (λ p.
      p < m) order) (length-map-range_with_len operation_at 0 n) o.known

  pub order_schedule : (order : List ℕ) → IsOrder (length choice.operations) order
      → IsSchedule n order
  order_schedule order o = recursion_from_All (λ p. p < n) order (order_known order o)

  pub ran_order : (order : List ℕ) → IsOrder (length choice.operations) order
      → Ran t P (λ q. slice_index choice.operations q) object c c order
  ran_order order o = ran t P n (λ q. slice_index choice.operations q) object c about order c
      (differ_from order o.distinct) (order_schedule order o) (λ p i. refl)

  -- after two orders that show process j the same pair, all looks alike to it
  alike_after : (alpha beta : List ℕ) → IsOrder (length choice.operations) alpha
      → IsOrder (length choice.operations) beta → (j : ℕ) (pair : ℕ × ℕ) → j < n
      → pair_of (t object) choice alpha j ≡ Some pair
      → pair_of (t object) choice beta j ≡ Some pair
      → Alike j (after t P c alpha) (after t P c beta)
  alike_after alpha beta a b j pair l e f =
      let r = ran_order alpha a in
      let s = ran_order beta b in
      let g = pair_parts (t object) choice alpha j pair e in
      let h = pair_parts (t object) choice beta j pair f in
      let k = about j l in
      record {
        local = r.told j pair.0 g.0 k.0 k.1 ∙ sym (s.told j pair.0 h.0 k.0 k.1);
        registers = λ i. r.registers i ∙ sym (s.registers i);
        objects = λ i. elim (cases_eq i object) [
          | inl at ↦ ap (after t P c alpha).objects at
              ∙ ((r.last ∙ g.1) ∙ (sym (s.last ∙ h.1) ∙ sym (ap (after t P c beta).objects at)))
          | inr other ↦ r.others i other ∙ sym (s.others i other)
        ];
      }

  is_witness : IsWitness (t object) choice
  is_witness j pair (alpha, o, begins, seen) (beta, u, begins_too, seen_too) =
      let l = pair_takes_part (t object) choice n alpha j pair (order_known alpha o) seen in
      true≢false (sym (clash t n P j (after t P c alpha) (after t P c beta) false true l
      (w.finishes alpha (order_schedule alpha o))
      (alike_after alpha beta o u j pair l seen seen_too)
      (begun_valent A false alpha valence_a (order_schedule alpha o) begins)
      (begun_valent B true beta valence_b (order_schedule beta u) begins_too)))

  pub discerning : (i : ℕ) × IsDiscerning (t i) n
  discerning = (object, (choice, is_raw_choice, is_witness))
