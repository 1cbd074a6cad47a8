use Rattle.std.proofs.Common.{◌↔◌, IsTrue, subst}
use Rattle.cn_choice.specs.RawChoices.{RawChoice}
use Rattle.cn_choice.specs.Discerning.{IsWitness}
use Rattle.cn_outcomes.proofs.outcome_sets.is_witness.Goals as goal

pub returns : goal.returns
returns c = subst (λ (raw : RawChoice). IsTrue c.raw_is_witness.result ↔ IsWitness c.args.table.now raw) c.of.ensures c.raw_is_witness.ensures
