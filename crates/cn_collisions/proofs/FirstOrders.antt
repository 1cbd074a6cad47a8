-- The first order into a set, from the first ways of each length.
use Rattle.std.proofs.Common.{◌≡◌, ◌≢◌, ℕ, ◌+◌, ◌^◌, ◌<◌, ◌≤◌, inl, inr, List, [], ◌∷◌, length, length-append, refl, sym, ap, ◌∙◌, subst, arith, All, Bool, true, false, cond, Option, Some, None, nat_eq}
use Rattle.std.specs.Prelude.{IsBitSet}
use Rattle.std.specs.Int.Bits.{bit_or}
use Rattle.std.specs.List.{AllByRecursion}
use Rattle.std.proofs.lemmas.Bool.{and_from, and_parts, le-leb, leb-true, lt-ltb, ltb-true}
use Rattle.std.proofs.lemmas.List.Elements.{All-from_recursion, recursion_from_All}
use Rattle.cn_table.specs.Run.{responses_along, state_after}
use Rattle.cn_table.specs.TypeTable.{TypeTable}
use Rattle.cn_choice.specs.declared.team.Team.{Team}
use Rattle.cn_choice.specs.declared.team.Team.TheVariants.{A, B}
use Rattle.cn_choice.specs.Canonical.{Choice, raw_choice_of}
use Rattle.cn_choice.specs.Orders.{IsOrder}
use Rattle.cn_collisions.specs.OutcomeOrders.{IsFirstInto, LeadsInto, NoneInto, NoneOfLength}
use Rattle.cn_choice.specs.RawChoices.{RawChoice}
use Rattle.cn_choice.specs.OutcomeSets.{BeginsIn, InOutcomeSet, operations_of, response_of}
use Rattle.cn_choice.specs.Moves.{answer_of, next_of}
use Rattle.cn_stocks.specs.declared.pair_sets.PairSet.{PairSet}
use Rattle.cn_collisions.specs.Ways.{BeginsWithin, Ends, Hits, IsFirstWay, IsFresh, IsWay, NoWay, StepWay, seen_after}
use Rattle.cn_choice.specs.TeamOrders.{begins_within, team_from, team_to}
use Rattle.cn_choice.proofs.ListLemmas.Arrangements.{Differ}
use Rattle.cn_outcomes.proofs.BitSets.{pow_set, union_set}
use Rattle.cn_outcomes.proofs.LastAnswers.{pair_parts}
use Rattle.cn_choice.proofs.OrderLemmas.LastMoves.{pair_whole}
use Rattle.cn_outcomes.proofs.LastProcess.{zero_has_none}
use Rattle.cn_choice.proofs.OrderLemmas.AllOrders.{differ_from, distinct_from, fits_below, not_empty}
use Rattle.cn_choice.proofs.ListLemmas.Members.{IsIn, each_at, each_from}
use Rattle.cn_collisions.proofs.WayLemmas.{in_pow}
use Rattle.cn_choice.proofs.OrderLemmas.TeamOrders.{begins_from, begins_to}
use Rattle.cn_choice.proofs.OrderLemmas.Walks.{first_some}

first_of_cond : (kept : Option ℕ) (b : Bool) (r : ℕ) (rest : Option ℕ) → first_some (first_some kept (cond b (Some r) None)) rest ≡ first_some kept (cond b (Some r) rest)
first_of_cond None true r rest = refl
first_of_cond None false r rest = refl
first_of_cond (Some x) b r rest = refl

-- ---- the end of a way

abbrev along : TypeTable → RawChoice → ℕ → ℕ → List ℕ → Option ℕ
along t c j state ps = response_of j ps (responses_along t state (operations_of c ps))

abbrev after : TypeTable → RawChoice → ℕ → List ℕ → ℕ
after t c state ps = state_after t state (operations_of c ps)

pub ends_to : (t : TypeTable) (c : RawChoice) (j state : ℕ) (seen : Option ℕ) (ps : List ℕ) (pair : ℕ × ℕ) → Ends t c j state seen ps pair
    → (first_some seen (along t c j state ps) ≡ Some pair.0) × (after t c state ps ≡ pair.1)
ends_to t c j state None [] pair h = h
ends_to t c j state (Some s) [] pair h = h
ends_to t c j state None (p ∷ ps) pair h =
    let r = ends_to t c j (next_of t c p state) (seen_after j p (answer_of t c p state) None) ps pair h in
    (sym (first_of_cond None (nat_eq p j) (answer_of t c p state) (along t c j (next_of t c p state) ps)) ∙ r.0, r.1)
ends_to t c j state (Some s) (p ∷ ps) pair h = ends_to t c j (next_of t c p state) (Some s) ps pair h

pub ends_from : (t : TypeTable) (c : RawChoice) (j state : ℕ) (seen : Option ℕ) (ps : List ℕ) (pair : ℕ × ℕ) → first_some seen (along t c j state ps) ≡ Some pair.0
    → after t c state ps ≡ pair.1 → Ends t c j state seen ps pair
ends_from t c j state None [] pair e f = (e, f)
ends_from t c j state (Some s) [] pair e f = (e, f)
ends_from t c j state None (p ∷ ps) pair e f =
    ends_from t c j (next_of t c p state) (seen_after j p (answer_of t c p state) None) ps pair (first_of_cond None (nat_eq p j) (answer_of t c p state) (along t c j (next_of t c p state) ps) ∙ e) f
ends_from t c j state (Some s) (p ∷ ps) pair e f = ends_from t c j (next_of t c p state) (Some s) ps pair e f

-- ---- fresh lists

pub fresh_from : (n used : ℕ) (xs : List ℕ) → AllByRecursion (λ p. p < n) xs → Differ xs → ((x : ℕ) → IsIn x xs → ¬ IsBitSet used x) → IsFresh n used xs
fresh_from n used [] a d h = tt
fresh_from n used (x ∷ xs) a d h = (
  a.0,
  h x (inl refl),
  fresh_from n (bit_or used (2 ^ x)) xs a.1 d.1 (λ y i s. elim ((union_set used (2 ^ x) y).0 s) [ inl u ↦ h y (inr i) u | inr b ↦ each_at (λ z. x ≢ z) xs y d.0 i (sym (pow_set x y b)) ]),
)

pub fresh_to : (n used : ℕ) (xs : List ℕ) → IsFresh n used xs → AllByRecursion (λ p. p < n) xs × Differ xs × ((x : ℕ) → IsIn x xs → ¬ IsBitSet used x)
fresh_to n used [] h = (tt, tt, λ x i. absurd i)
fresh_to n used (x ∷ xs) h =
    let r = fresh_to n (bit_or used (2 ^ x)) xs h.2 in (
      (h.0, r.0),
      (each_from (λ z. x ≢ z) xs (λ y i e. r.2 y i ((union_set used (2 ^ x) y).1 (inr (subst (IsBitSet (2 ^ x)) e (in_pow x))))), r.1),
      λ y i s. elim i [ inl e ↦ h.1 (subst (IsBitSet used) (sym e) s) | inr k ↦ r.2 y k ((union_set used (2 ^ x) y).1 (inl s)) ],
    )

-- each order has a process
pub none_of_none : (t : TypeTable) (raw : RawChoice) (team : Team) (j : ℕ) (set : PairSet) (k : ℕ) → k ≡ 0 → NoneOfLength t raw team j set k
none_of_none t raw team j set k e x o long leads = o.someone (empty x (long ∙ e))
  where
    empty : (x : List ℕ) → length x ≡ 0 → x ≡ []
    empty [] l = refl
    empty (p ∷ ps) l = absurd (omega (arith, l))

-- how many processes the teams have
pub team_few : (c : Choice) (raw : RawChoice) → raw ≡ raw_choice_of c → length c.a + length c.b ≡ length raw.operations
team_few c raw same = sym (length-append c.a c.b) ∙ sym (ap (λ (r : RawChoice). length r.operations) same)

pub team_rises : (c : Choice) (team : Team) → team_from c team ≤ team_to c team
team_rises c A = omega arith
team_rises c B = omega arith

-- the processes of a team are processes of the choice
pub team_in : (c : Choice) (raw : RawChoice) → raw ≡ raw_choice_of c → (team : Team) → team_to c team ≤ length raw.operations
team_in c raw same A = omega (arith, team_few c raw same)
team_in c raw same B = omega (arith, team_few c raw same)

module _ (t : TypeTable) (c : Choice) (raw : RawChoice) (same : raw ≡ raw_choice_of c) (team : Team) (j : ℕ) where
  long : length c.a + length c.b ≡ length raw.operations
  long = sym (length-append c.a c.b) ∙ sym (ap (λ (r : RawChoice). length r.operations) same)

  order_way : (x : List ℕ) → IsOrder (length raw.operations) x → BeginsIn raw team x → IsWay (length raw.operations) (length x) (team_from c team) (team_to c team) 0 x
  order_way x o b = record {
    long = refl;
    begins = within x (begins_to c team x (subst (λ (n : ℕ). All (λ p. p < n) x) (sym long) o.known) (subst (λ (r : RawChoice). BeginsIn r team x) same b));
    fresh = fresh_from (length raw.operations) 0 x (recursion_from_All (λ p. p < length raw.operations) x o.known) (differ_from x o.distinct) (λ y i. zero_has_none y);
  }
    where
      within : (x : List ℕ) → begins_within (team_from c team) (team_to c team) x ≡ Bool.true → BeginsWithin (team_from c team) (team_to c team) x
      within [] e = tt
      within (p ∷ ps) e = let r = and_parts _ _ e in (leb-true _ _ r.0, ltb-true _ _ r.1)

  way_order : (size : ℕ) (x : List ℕ) → 1 ≤ size → IsWay (length raw.operations) size (team_from c team) (team_to c team) 0 x → IsOrder (length raw.operations) x × BeginsIn raw team x
  way_order size [] some w = absurd (omega (arith, w.long, some))
  way_order size (p ∷ ps) some w =
      let r = fresh_to (length raw.operations) 0 (p ∷ ps) w.fresh in (
        record { someone = not_empty size (p ∷ ps) w.long some; known = All-from_recursion (λ p. p < length raw.operations) (p ∷ ps) r.0; distinct = distinct_from (p ∷ ps) r.1 },
        subst (λ (r : RawChoice). BeginsIn r team (p ∷ ps)) (sym same) (begins_from c team (p ∷ ps) (and_from _ _ (le-leb _ _ w.begins.0) (lt-ltb _ _ w.begins.1))),
      )

  -- ---- the pairs of the orders, by their first process

  pub team_inside : (p : ℕ) → p < team_to c team → p < length raw.operations
  team_inside p u = by_team team u
    where
      by_team : (some : Team) → p < team_to c some → p < length raw.operations
      by_team A l = omega (arith, l, long)
      by_team B l = omega (arith, l, long)

  pub outcome_way : (r q : ℕ) → InOutcomeSet t raw team j (r, q) → (p : ℕ) × (team_from c team ≤ p) × (p < team_to c team) × StepWay t raw j p r q
  outcome_way r q h = by_list h.0 h.1 (order_way h.0 h.1 h.2) (let e = pair_parts t raw j h.0 r q h.3 in ends_from t raw j raw.state None h.0 (r, q) e.0 e.1)
    where
      by_list : (x : List ℕ) → IsOrder (length raw.operations) x → IsWay (length raw.operations) (length x) (team_from c team) (team_to c team) 0 x → Ends t raw j raw.state None x (r, q)
          → (p : ℕ) × (team_from c team ≤ p) × (p < team_to c team) × StepWay t raw j p r q
      by_list [] o w e = absurd (cc e.0)
      by_list (p ∷ ps) o w e =
          let few = fits_below (length raw.operations) (p ∷ ps) (recursion_from_All (λ p. p < length raw.operations) (p ∷ ps) o.known) (differ_from (p ∷ ps) o.distinct) in
          (p, w.begins.0, w.begins.1, (length ps, omega (arith, few), (ps, refl, w.fresh.2, e)))

  pub way_outcome : (p r q : ℕ) → team_from c team ≤ p → p < team_to c team → StepWay t raw j p r q → InOutcomeSet t raw team j (r, q)
  way_outcome p r q l u h =
      let ps = h.2.0 in
      let w : IsWay (length raw.operations) (length (p ∷ ps)) (team_from c team) (team_to c team) 0 (p ∷ ps) =
      record { long = refl; begins = (l, u); fresh = (team_inside p u, zero_has_none p, h.2.2) } in
      let o = way_order (length (p ∷ ps)) (p ∷ ps) (omega arith) w in
      let e = ends_to t raw j raw.state None (p ∷ ps) (r, q) h.2.3 in
      (p ∷ ps, o.0, o.1, pair_whole t raw j (p ∷ ps) r q e.0 e.1)

  module _ (set : PairSet) where
    hits_from : (x : List ℕ) → LeadsInto t raw team j set x → Hits t raw j set raw.state None x
    hits_from x leads = let r = pair_parts t raw j x leads.0.0 leads.0.1 leads.1.1 in (leads.0, ends_from t raw j raw.state None x leads.0 r.0 r.1, leads.2)

    pub none_at : (size : ℕ) → NoWay t raw j set size (team_from c team) (team_to c team) 0 raw.state None → NoneOfLength t raw team j set size
    none_at size none x o long leads = none x (subst (λ (k : ℕ). IsWay (length raw.operations) k (team_from c team) (team_to c team) 0 x) long (order_way x o leads.1.0)) (hits_from x leads)

    pub none_into : ((size : ℕ) → size < length raw.operations + 1 → NoneOfLength t raw team j set size) → NoneInto t raw team j set
    none_into none x o =
        let few = fits_below (length raw.operations) x (recursion_from_All (λ p. p < length raw.operations) x o.known) (differ_from x o.distinct) in
        none (length x) (omega (arith, few)) x o refl

    -- the first way of the least length that has one
    pub first_into : (size : ℕ) (order : List ℕ) (pair : ℕ × ℕ) → ((k : ℕ) → k < size → NoneOfLength t raw team j set k)
        → IsFirstWay t raw j set size (team_from c team) (team_to c team) 0 raw.state None order pair → IsFirstInto t raw team j set order pair
    first_into size order pair none f =
        let is = way_order size order (someone order f.way.long f.ends) f.way in
        let e = ends_to t raw j raw.state None order pair f.ends in
        record {
          ordered = is.0;
          leads = (is.1, pair_whole t raw j order pair.0 pair.1 e.0 e.1);
          has = f.has;
          earlier = λ x o before leads. elim before [
            | inl shorter ↦ none (length x) (omega (arith, shorter, f.way.long)) x o refl leads
            | inr later ↦ f.earlier x (subst (λ (k : ℕ). IsWay (length raw.operations) k (team_from c team) (team_to c team) 0 x) (later.0 ∙ f.way.long) (order_way x o leads.1.0))
                later.1 (hits_from x leads)
          ];
        }
      where
        someone : (order : List ℕ) → length order ≡ size → Ends t raw j raw.state None order pair → 1 ≤ size
        someone [] long ends = absurd (cc ends.0)
        someone (p ∷ ps) long ends = omega (arith, long)
