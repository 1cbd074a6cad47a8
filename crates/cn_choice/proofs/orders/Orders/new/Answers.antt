use Rattle.std.proofs.Common.{◌≡◌, ◌+◌, ap, arith, length, map}
use Rattle.cn_choice.specs.Canonical.{Choice}
use Rattle.cn_choice.specs.OrdersLeft.{as_array}
use Rattle.cn_choice.specs.TeamOrders.{taken_of, team_from, team_to}
use Rattle.cn_choice.proofs.OrderLemmas.NextOrders.{orders_all}
use Rattle.cn_choice.proofs.orders.Orders.new.Goals as goal

pub returns : goal.returns
returns c =
    let d = c.args.choice.now in
    let team = c.args.team in
    let n : c.len.result + c.len-2.result ≡ length d.a + length d.b =
    omega (arith, c.len.ensures.value, c.len-2.ensures.value, ap (λ (d : Choice). length d.a) c.choice.view_is, ap (λ (d : Choice). length d.b) c.choice.view_is) in
    rw (c.copies_of.ensures, c.bounds-low.ensures.low, c.bounds-low.ensures.high, n)
    (ap (λ orders. taken_of (team_from d team) (team_to d team) c.args.j (map as_array orders)) (orders_all (length d.a + length d.b) c.requires.some))
