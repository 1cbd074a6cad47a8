use Rattle.std.proofs.Common.{arith}
use Rattle.cn_outcomes.specs.PairSets.{Has}
use Rattle.cn_outcomes.proofs.Unions.{pair_all}
use Rattle.cn_outcomes.proofs.subset_pairs.pairs_of.Goals as goal

pub returns : goal.returns
returns c =
    let setting = c.args.setting.now in
    pair_all setting.table.now setting.choice.now setting.team setting.links c.requires.setting.linked c.args.j c.args.subset c.requires.first
    (omega (arith, c.requires.rows.small)) c.requires.rows.inside c.requires.member
    (Has c.own_pairs-own.result) (Has c.others_pairs-others.result) (Has c.union.result) c.own_pairs-own.ensures c.others_pairs-others.ensures c.union.ensures
