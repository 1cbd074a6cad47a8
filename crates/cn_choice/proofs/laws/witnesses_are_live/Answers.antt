use Rattle.cn_choice.proofs.ChoiceLemmas.LiveChoices.{witness_is_live}
use Rattle.cn_choice.proofs.laws.witnesses_are_live.Goals as goal

pub returns : goal.returns
returns c = λ t n d is dead w. dead (witness_is_live t n d is w)
