use Rattle.std.proofs.Common.{◌≡◌, ℕ, ◌∙◌, List, [], ◌∷◌, ◌++◌, inl, inr, ap, arith, sym, subst, None}
use Rattle.cn_choice.specs.TeamOrders.{team_from, team_to}
use Rattle.cn_outcomes.proofs.LastProcess.{same_or_not}
use Rattle.cn_collisions.specs.OutcomeOrders.{NoneOfLength}
use Rattle.cn_collisions.specs.Ways.{IsFirstWay}
use Rattle.cn_collisions.proofs.FirstOrders.{first_into, none_at, none_of_none, team_in}
use Rattle.cn_collisions.proofs.orders.short_order_into.Goals as goal

pub way_of_two-requires-clause-high : goal.way_of_two-requires-clause-high
way_of_two-requires-clause-high c =
    let a = c.args.asked.now in
    omega (arith, c.bounds-low.ensures.high, team_in a.choice.now a.view.raw.now c.requires.asked.same c.args.team)

pub returns-in-Some-clause-first : goal.returns-in-Some-clause-first
returns-in-Some-clause-first c =
    let a = c.args.asked.now in
    let t = a.view.sets.now.table.now in
    let raw = a.view.raw.now in
    let j = a.view.process in
    let set = c.args.target.now in
    let team = c.args.team in
    let start = c.requires.asked.start in
    let last = c.in-Some.last in
    let pair : ℕ × ℕ = (last.response, last.state) in
    let items : c.push.new.self.items ≡ last.process ∷ [] = c.push.ensures.items ∙ ap (λ (xs : List ℕ). xs ++ last.process ∷ []) c.requires.empty in
    let way = rw (c.bounds-low.ensures.low, c.bounds-low.ensures.high, start.used, start.state) at c.in-Some.ensures.first.way in
    first_into t a.choice.now raw c.requires.asked.same team j set 1 c.push.new.self.items pair (λ k l. none_of_none t raw team j set k (omega (arith, l)))
    (subst (λ (xs : List ℕ). IsFirstWay t raw j set 1 (team_from a.choice.now team) (team_to a.choice.now team) 0 raw.state None xs pair) (sym items) way)

pub returns-in-Some-way_of_two-clause-first : goal.returns-in-Some-way_of_two-clause-first
returns-in-Some-way_of_two-clause-first c =
    let a = c.args.asked.now in
    let t = a.view.sets.now.table.now in
    let raw = a.view.raw.now in
    let j = a.view.process in
    let set = c.args.target.now in
    let team = c.args.team in
    let start = c.requires.asked.start in
    let one = rw (c.bounds-low.ensures.low, c.bounds-low.ensures.high, start.used, start.state) at c.in_default.ensures.none in
    let way = rw (c.bounds-low.ensures.low, c.bounds-low.ensures.high, start.used, start.state) at c.in-Some-way_of_two.ensures.first in
    let here : NoneOfLength t raw team j set 1 = none_at t a.choice.now raw c.requires.asked.same team j set 1 one in
    first_into t a.choice.now raw c.requires.asked.same team j set 2 c.way_of_two.new.order.items c.in-Some-way_of_two.pair
    (λ k l. elim (same_or_not k 1) [ inl e ↦ subst (NoneOfLength t raw team j set) (sym e) here | inr n ↦ none_of_none t raw team j set k (omega (arith, l, n)) ])
    way

pub returns-clause-none : goal.returns-clause-none
returns-clause-none c k l =
    let a = c.args.asked.now in
    let t = a.view.sets.now.table.now in
    let raw = a.view.raw.now in
    let j = a.view.process in
    let set = c.args.target.now in
    let team = c.args.team in
    let start = c.requires.asked.start in
    let one = rw (c.bounds-low.ensures.low, c.bounds-low.ensures.high, start.used, start.state) at c.in_default.ensures.none in
    let two = rw (c.bounds-low.ensures.low, c.bounds-low.ensures.high, start.used, start.state) at c.in_default-way_of_two.ensures.none in
    let first : NoneOfLength t raw team j set 1 = none_at t a.choice.now raw c.requires.asked.same team j set 1 one in
    let second : NoneOfLength t raw team j set 2 = none_at t a.choice.now raw c.requires.asked.same team j set 2 two in
    elim (same_or_not k 1) [
      | inl e ↦ subst (NoneOfLength t raw team j set) (sym e) first
      | inr n ↦ elim (same_or_not k 2) [ inl e ↦ subst (NoneOfLength t raw team j set) (sym e) second | inr m ↦ none_of_none t raw team j set k (omega (arith, l, n, m)) ]
    ]
