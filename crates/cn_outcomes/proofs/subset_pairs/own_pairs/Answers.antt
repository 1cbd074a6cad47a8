use Rattle.std.proofs.Common.{length, arith}
use Rattle.cn_outcomes.specs.PairSets.{Has}
use Rattle.cn_outcomes.proofs.BitSets.{member_below, without_less}
use Rattle.cn_outcomes.proofs.Packing.{rest_less, rest_packed}
use Rattle.cn_outcomes.proofs.Unions.{own_is}
use Rattle.cn_outcomes.proofs.subset_pairs.own_pairs.Goals as goal

pub found_states-from-requires-clause-process : goal.found_states-from-requires-clause-process
found_states-from-requires-clause-process c = member_below
    (length c.args.setting.now.choice.now.operations) c.args.subset c.last_twin-last.result c.requires.rows.inside c.last_twin-last.ensures.member

pub found_states-from-requires-clause-row : goal.found_states-from-requires-clause-row
found_states-from-requires-clause-row c =
    c.requires.rows.before.same c.without-rest.result
    (rest_less c.args.subset c.last_twin-last.result c.without-rest.result
    (without_less c.args.subset c.last_twin-last.result c.without-rest.result c.last_twin-last.ensures.member c.without-rest.ensures))
    (rest_packed c.args.setting.now.links c.args.subset c.last_twin-last.result c.without-rest.result c.requires.rows.packed c.last_twin-last.ensures.mover c.without-rest.ensures)

pub found_states-from-requires-clause-known : goal.found_states-from-requires-clause-known
found_states-from-requires-clause-known c =
    c.requires.rows.before.known c.without-rest.result
    (rest_less c.args.subset c.last_twin-last.result c.without-rest.result
    (without_less c.args.subset c.last_twin-last.result c.without-rest.result c.last_twin-last.ensures.member c.without-rest.ensures))
    (rest_packed c.args.setting.now.links c.args.subset c.last_twin-last.result c.without-rest.result c.requires.rows.packed c.last_twin-last.ensures.mover c.without-rest.ensures)

pub returns : goal.returns
returns c =
    let setting = c.args.setting.now in
    own_is setting.table.now setting.choice.now setting.team setting.links c.requires.setting.linked c.args.j c.args.subset c.last_twin-last.result c.without-rest.result
    c.operation_of.result.0 c.found_states-from.result (Has c.of_answers.result)
    (omega (arith, c.requires.rows.small)) c.last_twin-last.ensures.from c.requires.member c.last_twin-last.ensures.member c.requires.rows.packed c.last_twin-last.ensures.run
    c.without-rest.ensures c.operation_of.ensures c.found_states-from.ensures.same
    c.of_answers.ensures

pub found_states-from-requires-clause-rest : goal.found_states-from-requires-clause-rest
found_states-from-requires-clause-rest c =
    omega (
      arith,
      c.requires.rows.small,
      rest_less c.args.subset c.last_twin-last.result c.without-rest.result
          (without_less c.args.subset c.last_twin-last.result c.without-rest.result c.last_twin-last.ensures.member c.without-rest.ensures),
    )
