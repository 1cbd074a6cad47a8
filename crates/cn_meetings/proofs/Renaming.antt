-- Processes under other names, and witnesses of two teams.
use Rattle.std.proofs.Common.{ℕ, zero, suc, ◌≡◌, ◌≢◌, ◌+◌, ◌<◌, Bool, true, false, List, [], ◌∷◌, length, map, slice_get, Some, refl, sym, ap, ◌∙◌, subst, arith, inl, inr, nat_lt}
use Rattle.std.proofs.lemmas.Bool.Decides.{nat_tests}
use Rattle.cn_table.specs.TypeTable.{TypeTable}
use Rattle.cn_choice.specs.Canonical.{Choice, raw_choice_of}
use Rattle.cn_choice.specs.Discerning.{IsWitness}
use Rattle.cn_choice.specs.Moves.{move_of}
use Rattle.cn_choice.specs.OutcomeSets.{InOutcomeSet}
use Rattle.cn_choice.specs.declared.team.Team.{Team}
use Rattle.cn_choice.proofs.ListLemmas.Arrangements.{Differ}
use Rattle.cn_choice.proofs.ListLemmas.Members.{AllPairs-from_Pairs, IsIn, IsIn-map_from, each_from}
use Rattle.cn_proto.specs.Order.{IsAnswered, IsRun, after, answers}
use Rattle.cn_proto.specs.Tournament.{team_of}
use Rattle.cn_meetings.specs.Choices.{choice_meeting, choice_processes, choice_team, renamed}
use Rattle.cn_meetings.specs.Meeting.{Meeting, act}
use Rattle.cn_meetings.specs.Witness.{BeginsIn, Has, IsOrderOf, IsShown, IsTeamWitness}
use Rattle.cn_meetings.proofs.Orders.{below, order_apart, order_tail}

module _ (t : TypeTable) (M : Meeting) (processes others : ℕ → Bool) (role : ℕ → ℕ)
    (within : (p : ℕ) → Has others p → Has processes (role p)) (apart : (p q : ℕ) → Has others p → Has others q → role p ≡ role q → p ≡ q) where
  abbrev R : Meeting
  R = renamed role M

  same_after : (order : List ℕ) (q : ℕ) → after (act t R) q order ≡ after (act t M) q (map role order)
  same_after [] q = refl
  same_after (p ∷ order) q = same_after order (act t R p q).1

  same_answers : (order : List ℕ) (q : ℕ) → answers (act t R) q order ≡ answers (act t M) q (map role order)
  same_answers [] q = refl
  same_answers (p ∷ order) q = ap (λ r. (act t R p q).0 ∷ r) (same_answers order (act t R p q).1)

  get_map : (order : List ℕ) (k p : ℕ) → slice_get order k ≡ Some p → slice_get (map role order) k ≡ Some (role p)
  get_map [] k p e = absurd cc
  get_map (x ∷ order) zero p e = let same : x ≡ p = cc in ap (λ z. Some (role z)) same
  get_map (x ∷ order) (suc k) p e = get_map order k p e

  get_from : (order : List ℕ) (k x : ℕ) → slice_get (map role order) k ≡ Some x → (p : ℕ) × (slice_get order k ≡ Some p) × (role p ≡ x)
  get_from [] k x e = absurd cc
  get_from (p ∷ order) zero x e = (p, refl, cc)
  get_from (p ∷ order) (suc k) x e = get_from order k x e

  differ_map : (order : List ℕ) → IsOrderOf others order → Differ (map role order)
  differ_map [] is = tt
  differ_map (p ∷ order) is = (
    each_from (λ y. role p ≢ y) (map role order) (λ y i. (let from = IsIn-map_from role y order i in
        λ e. order_apart others p order is from.0 from.2 (apart p from.0 (is.members 0 p refl) (member order (order_tail others p order is) from.0 from.2) (e ∙ sym from.1)))),
    differ_map order (order_tail others p order is),
  )
    where
      member : (order : List ℕ) → IsOrderOf others order → (q : ℕ) → IsIn q order → Has others q
      member [] is q i = absurd i
      member (x ∷ order) is q (inl e) = subst (Has others) e (is.members 0 x refl)
      member (x ∷ order) is q (inr i) = member order (order_tail others x order is) q i

  mapped : (order : List ℕ) → IsOrderOf others order → IsOrderOf processes (map role order)
  mapped order is = record {
    distinct = AllPairs-from_Pairs (λ x y. x ≢ y) (map role order) (differ_map order is);
    members = λ k x e. (let from = get_from order k x e in subst (Has processes) from.2 (within from.0 (is.members k from.0 from.1)));
  }

  shown_renamed : (order : List ℕ) (p response saw : ℕ) → IsShown t R others order p response saw → IsShown t M processes (map role order) (role p) response saw
  shown_renamed order p response saw shown = record {
    is_order = mapped order shown.is_order;
    answered = (shown.answered.0, get_map order shown.answered.0 p shown.answered.1, rw (← same_answers order M.start) shown.answered.2);
    last_state = rw (← same_after order M.start) shown.last_state;
  }

  begins_renamed : (team : ℕ → ℕ) (g : ℕ) (order : List ℕ) → BeginsIn (λ p. team (role p)) g order → BeginsIn team g (map role order)
  begins_renamed team g [] b = b
  begins_renamed team g (p ∷ order) b = b

  pub renaming : (team : ℕ → ℕ) → IsTeamWitness t M processes team → IsTeamWitness t R others (λ p. team (role p))
  renaming team witness g h p response saw alpha beta a b bg bh =
      witness g h (role p) response saw (map role alpha) (map role beta) (shown_renamed alpha p response saw a) (shown_renamed beta p response saw b)
      (begins_renamed team g alpha bg) (begins_renamed team h beta bh)

-- ---- the witness of a choice
abbrev pub Outcomes : Type 0
Outcomes = (t : TypeTable) (c : Choice) (side : Team) (order : List ℕ) (role response : ℕ)
    → IsRun (length c.a + length c.b) (team_of (length c.a)) side order
    → IsAnswered (move_of t (raw_choice_of c)) c.state order role response
    → InOutcomeSet t (raw_choice_of c) side role (response, after (move_of t (raw_choice_of c)) c.state order)

module _ (outcomes : Outcomes) (t : TypeTable) (c : Choice) (witness : IsWitness t (raw_choice_of c)) where
  few : (p : ℕ) → Has (choice_processes c) p → p < length c.a + length c.b
  few p h = grind (arith, nat_tests)

  run_of : (first : ℕ) (order : List ℕ) → IsOrderOf (choice_processes c) (first ∷ order) → IsRun (length c.a + length c.b) (team_of (length c.a)) (team_of (length c.a) first) (first ∷ order)
  run_of first order is = record { distinct = is.distinct; below = below (choice_processes c) (length c.a + length c.b) few (first ∷ order) is; begins = refl }

  outcome : (first : ℕ) (order : List ℕ) (p response saw : ℕ) → IsShown t (choice_meeting c) (choice_processes c) (first ∷ order) p response saw
      → InOutcomeSet t (raw_choice_of c) (team_of (length c.a) first) p (response, saw)
  outcome first order p response saw shown =
      rw (← shown.last_state) (outcomes t c (team_of (length c.a) first) (first ∷ order) p response (run_of first order shown.is_order) shown.answered)

  pub choice_is_witness : IsTeamWitness t (choice_meeting c) (choice_processes c) (choice_team c)
  choice_is_witness g h p response saw [] beta a b bg bh = elim bg [ ]
  choice_is_witness g h p response saw (x ∷ alpha) [] a b bg bh = elim bh [ ]
  choice_is_witness g h p response saw (x ∷ alpha) (y ∷ beta) a b bg bh =
      sym bg ∙ (same (nat_lt x (length c.a)) refl (nat_lt y (length c.a)) refl (outcome x alpha p response saw a) (outcome y beta p response saw b) ∙ bh)
    where
      same : (d : Bool) → nat_lt x (length c.a) ≡ d → (e : Bool) → nat_lt y (length c.a) ≡ e → InOutcomeSet t (raw_choice_of c) (team_of (length c.a) x) p (response, saw)
          → InOutcomeSet t (raw_choice_of c) (team_of (length c.a) y) p (response, saw) → choice_team c x ≡ choice_team c y
      same true d true e u v = rw (d, e) refl
      same false d false e u v = rw (d, e) refl
      same true d false e u v = absurd (witness p (response, saw) (rw d at u) (rw e at v))
      same false d true e u v = absurd (witness p (response, saw) (rw e at v) (rw d at u))
