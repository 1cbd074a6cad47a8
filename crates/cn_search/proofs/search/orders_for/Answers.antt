use Rattle.std.proofs.Common.{subst}
use Rattle.cn_table.specs.TypeTable.{TypeTable}
use Rattle.cn_choice.specs.Canonical.{raw_choice_of}
use Rattle.cn_choice.specs.Discerning.{IsWitness}
use Rattle.cn_search.proofs.search.orders_for.Goals as goal

pub unreachable-requires : goal.unreachable-requires
unreachable-requires c = c.requires.no_witness (subst (λ (t : TypeTable). IsWitness t (raw_choice_of c.args.choice.now)) c.requires.sets.0 c.in-None.ensures.none)
