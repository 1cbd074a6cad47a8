use Rattle.std.proofs.Common.{ap}
use Rattle.cn_choice.specs.Canonical.{raw_choice_of}
use Rattle.cn_choice.specs.Collisions.{Collision}
use Rattle.cn_reasons.proofs.WayLemmas.{process_few}
use Rattle.cn_reasons.proofs.way.way_of.Goals as goal

pub returns-clause-known : goal.returns-clause-known
returns-clause-known c =
    let t = c.args.table.now in
    let e = c.args.entry.now in
    let few = process_few t e c.requires (c.pair_in_order.ensures t (raw_choice_of e.choice) e.alpha e.process _ c.sight_of.ensures.sight.alpha) in record {
      choice = c.choice_groups.ensures.known;
      process = rw (ap (λ (x : Collision). x.process) c.entry.view_is) few;
      sight = c.sight_of.ensures.known;
      runs = c.runs_of.ensures.known;
    }
