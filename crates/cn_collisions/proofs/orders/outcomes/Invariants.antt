use Rattle.std.proofs.Common.{ℕ, ◌↔◌}
use Rattle.std.specs.Prelude.{IsBitSet}
use Rattle.cn_stocks.specs.Pairs.{Has}
use Rattle.cn_choice.specs.TeamOrders.{team_from}
use Rattle.cn_collisions.specs.Ways.{IsTried}
use Rattle.cn_collisions.proofs.OutcomeLemmas.{IsPairBelow}
use Rattle.cn_collisions.proofs.orders.outcomes.Given as goal

-- the pairs of the ways that begin with a process so far, and the operations tried are of these
abbrev pub invariant-loop-process : goal.invariant-loop-process
invariant-loop-process l =
    let v = l.asked.view in
    let low = team_from l.asked.choice.now l.fn.team in
    record {
      pairs : (r q : ℕ) → Has l.pairs r q ↔ IsPairBelow v low r q l.process;
      tried : (o : ℕ) → IsBitSet l.tried o → IsTried v.raw.now v.process low l.process l.asked.start.used o;
    }
