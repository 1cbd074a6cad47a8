use Rattle.std.proofs.Common.{ℕ, refl}
use Rattle.cn_choice.specs.declared.team.Team.TheVariants.{B}
use Rattle.cn_collisions.proofs.FirstCollisions.{first_collision, first_of_pair, none_collides}
use Rattle.cn_collisions.proofs.collisions.collision_of.Goals as goal

-- some order that begins in B gives the process the pair of the first one
pub unreachable-requires : goal.unreachable-requires
unreachable-requires c =
    let pair : ℕ × ℕ = (c.in-Some.response, c.in-Some.state) in
    let beta = (c.outcomes-pairs.ensures c.in-Some.response c.in-Some.state).0 c.in-Some.ensures.first.has in
    c.in_default-first_order_into.ensures.none beta.0 beta.1 (pair, (beta.2, beta.3), (c.only-pair.ensures c.in-Some.response c.in-Some.state).1 (refl, refl))

pub returns-in_default-clause-none : goal.returns-in_default-clause-none
returns-in_default-clause-none c false =
    let v = c.args.asked.now.view in
    none_collides v.sets.now.table.now v.raw.now v.process c.outcomes-pairs.result c.outcomes-pairs.ensures c.in_default.ensures.none

pub returns-clause-first : goal.returns-clause-first
returns-clause-first c true =
    let v = c.args.asked.now.view in
    let t = v.sets.now.table.now in
    let raw = v.raw.now in
    let pair : ℕ × ℕ = (c.in-Some.response, c.in-Some.state) in
    first_collision t raw v.process c.outcomes-pairs.result (λ r q o. (c.outcomes-pairs.ensures r q).1 o) c.first_order_into.new.order.items pair c.in-Some.ensures.first
    c.first_order_into-2.new.order.items
    (first_of_pair t raw v.process B pair c.only-pair.result c.only-pair.ensures c.first_order_into-2.new.order.items c.in-Some-first_order_into._pair c.in-Some-first_order_into.ensures.first)
