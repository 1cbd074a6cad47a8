-- Outcome sets of a choice as what its processes are shown.
use Rattle.std.proofs.Common.{ℕ, zero, suc, ◌≡◌, ◌≢◌, ◌+◌, ◌<◌, Bool, true, false, List, [], ◌∷◌, ◌++◌, length, replicate, slice_get, Some, None, Option, option_map, unwrap_or, get_or, length-append, nat_eq, nat_lt, refl, sym, ap, ◌∙◌, subst, arith, if◌then◌else◌}
use Rattle.std.proofs.lemmas.Bool.Decides.{nat_tests}
use Rattle.std.proofs.lemmas.List.Elements.{All-get_or}
use Rattle.std.proofs.lemmas.Option.{slice_get_within, unwrap_or-slice_get}
use Rattle.cn_table.specs.Run.{responses_along, state_after}
use Rattle.cn_table.specs.TypeTable.{TypeTable}
use Rattle.cn_choice.specs.Canonical.{Choice, raw_choice_of}
use Rattle.cn_choice.specs.Moves.{move_of}
use Rattle.cn_choice.specs.Orders.{IsOrder}
use Rattle.cn_choice.specs.OutcomeSets.{InOutcomeSet, operations_of, pair_of, response_of}
use Rattle.cn_choice.specs.RawChoices.{RawChoice}
use Rattle.cn_choice.specs.declared.team.Team.TheVariants.{A, B}
use Rattle.cn_choice.proofs.ListLemmas.Members.{AllPairs-from_Pairs}
use Rattle.cn_choice.proofs.OrderLemmas.AllOrders.{differ_from}
use Rattle.cn_proto.specs.Order.{after}
use Rattle.cn_proto.specs.Tournament.{team_of}
use Rattle.cn_proto.proofs.Roles.{after_is, answers_are}
use Rattle.cn_meetings.specs.Choices.{choice_meeting, choice_processes, choice_team}
use Rattle.cn_meetings.specs.Meeting.{Meeting, Sight, sees}
use Rattle.cn_meetings.specs.Witness.{BeginsIn, Has, IsOrderOf, IsShown}
use Rattle.cn_meetings.proofs.Orders.{below}
pub use Rattle.cn_meetings.proofs.Renaming.{Outcomes}

-- the meeting of a choice whose processes look in this way
abbrev pub looking : Sight → Choice → Meeting
looking sight c = record (choice_meeting c) { sight = λ p. sight }

-- what the law of choices says
abbrev pub Pairs : Type 0
Pairs = (t : TypeTable) (c : RawChoice) (order : List ℕ) (j : ℕ) → pair_of t c order j
    ≡ option_map (λ response. (response, state_after t c.state (operations_of c order)))
    (response_of j order (responses_along t c.state (operations_of c order)))

-- ---- from a run to an outcome set
few : (c : Choice) (p : ℕ) → Has (choice_processes c) p → p < length c.a + length c.b
few c p h = grind (arith, nat_tests)

in_team_a : (a p : ℕ) → p < a → team_of a p ≡ A
in_team_a a p l = let e : nat_lt p a ≡ true = grind (arith, nat_tests) in rw e refl

pub into_outcomes : Outcomes → (t : TypeTable) (c : Choice) (sight : Sight) (order : List ℕ) (j response saw : ℕ) → IsShown t (looking sight c) (choice_processes c) order j response saw
    → BeginsIn (choice_team c) 0 order → (q : ℕ) × InOutcomeSet t (raw_choice_of c) A j (response, q) × (sees t sight q ≡ saw)
into_outcomes outcomes t c sight [] j response saw shown begins = elim begins [ ]
into_outcomes outcomes t c sight (p ∷ order) j response saw shown begins = (
  after (move_of t (raw_choice_of c)) c.state (p ∷ order),
  outcomes t c A (p ∷ order) j response
      (record { distinct = shown.is_order.distinct; below = below (choice_processes c) (length c.a + length c.b) (few c) (p ∷ order) shown.is_order; begins = in_team_a (length c.a) p (first (nat_lt p (length c.a)) refl begins) }) shown.answered,
  shown.last_state,
)
  where
    first : (b : Bool) → nat_lt p (length c.a) ≡ b → ◌≡◌ {A = ℕ} (if b then 0 else 1) 0 → p < length c.a
    first true e z = grind (arith, nat_tests)
    first false e z = absurd (omega arith)

-- ---- and back
answered_from : (j : ℕ) (order rs : List ℕ) (r : ℕ) → response_of j order rs ≡ Some r → (k : ℕ) × (slice_get order k ≡ Some j) × (slice_get rs k ≡ Some r)
answered_from j [] rs r e = absurd cc
answered_from j (p ∷ ps) [] r e = absurd cc
answered_from j (p ∷ ps) (x ∷ xs) r e = go (nat_eq p j) refl e (answered_from j ps xs r)
  where
    go : (b : Bool) → nat_eq p j ≡ b → (if b then Some x else response_of j ps xs) ≡ Some r
        → (response_of j ps xs ≡ Some r → (k : ℕ) × (slice_get ps k ≡ Some j) × (slice_get xs k ≡ Some r))
        → (k : ℕ) × (slice_get (p ∷ ps) k ≡ Some j) × (slice_get (x ∷ xs) k ≡ Some r)
    go true e f on = (let same : p ≡ j = grind (arith, nat_tests) in (0, ap Some same, f))
    go false e f on = (let rest = on f in (suc rest.0, rest.1, rest.2))

abbrev with_state : ℕ → ℕ → ℕ × ℕ
with_state q r = (r, q)

pair_from : (o : Option ℕ) (r s q : ℕ) → option_map (with_state s) o ≡ Some (with_state q r) → (o ≡ Some r) × (s ≡ q)
pair_from None r s q e = absurd cc
pair_from (Some x) r s q e =
    let pair : with_state s x ≡ with_state q r = cc in
    (ap (λ (z : ℕ × ℕ). Some z.0) pair, ap (λ (z : ℕ × ℕ). z.1) pair)

-- a mark of team A stands at a process of team A
mark_a : (a b p : ℕ) → slice_get (replicate a A ++ replicate b B) p ≡ Some A → p < a
mark_a zero b p e = absurd (none b p e)
  where
    none : (b p : ℕ) → slice_get (replicate b B) p ≡ Some A → ⊥
    none zero p e = cc
    none (suc b) zero e = cc
    none (suc b) (suc p) e = none b p e
mark_a (suc a) b zero e = omega arith
mark_a (suc a) b (suc p) e = let l = mark_a a b p e in omega arith

order_from : (n : ℕ) (processes : ℕ → Bool) (order : List ℕ) → ((p : ℕ) → p < n → Has processes p) → IsOrder n order → IsOrderOf processes order
order_from n processes order has is = record {
  distinct = AllPairs-from_Pairs (λ x y. x ≢ y) order (differ_from order is.distinct);
  members = λ k p e. (
      let l = slice_get_within order k p e in
      let at : get_or order k 0 ≡ p = sym (unwrap_or-slice_get order k 0) ∙ ap (λ o. unwrap_or o 0) e in
      has p (subst (λ (x : ℕ). x < n) at (All-get_or (λ x. x < n) order k 0 l is.known)));
}

pub out_of_outcomes : Pairs → (t : TypeTable) (c : Choice) (sight : Sight) (j response q : ℕ) → InOutcomeSet t (raw_choice_of c) A j (response, q)
    → (order : List ℕ) × IsShown t (looking sight c) (choice_processes c) order j response (sees t sight q) × BeginsIn (choice_team c) 0 order
out_of_outcomes pairs t c sight j response q h =
    let raw : RawChoice = raw_choice_of c in
    let order : List ℕ = h.0 in
    let seen = pair_from (response_of j order (responses_along t c.state (operations_of raw order))) response (state_after t c.state (operations_of raw order)) q (sym (pairs t raw order j) ∙ h.3) in
    let at = answered_from j order (responses_along t c.state (operations_of raw order)) response seen.0 in (
      order,
      record {
        is_order = order_from (length raw.operations) (choice_processes c) order (λ p l. (let l' : p < length c.a + length c.b = omega (arith, length-append c.a c.b) in grind (arith, nat_tests))) h.1;
        answered = (at.0, at.1, ap (λ rs. slice_get rs at.0) (answers_are t raw c.state order) ∙ at.2);
        last_state = ap (sees t sight) (after_is t raw c.state order ∙ seen.1);
      },
      first order h.2.0 h.2.1 (mark_a (length c.a) (length c.b) h.2.0 h.2.2),
    )
  where
    first : (order : List ℕ) (p : ℕ) → slice_get order 0 ≡ Some p → p < length c.a → BeginsIn (choice_team c) 0 order
    first [] p e l = absurd cc
    first (x ∷ order) p e l =
        let same : x ≡ p = cc in
        let test : nat_lt x (length c.a) ≡ true = grind (arith, nat_tests) in
        rw test refl
