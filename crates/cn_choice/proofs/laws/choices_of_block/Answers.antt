use Rattle.cn_choice.proofs.ChoiceLemmas.LiveChoices.{live_in_ascends, live_in_listed}
use Rattle.cn_choice.proofs.laws.choices_of_block.Goals as goal

pub returns : goal.returns
returns c = record { listed = live_in_listed; ascending = live_in_ascends }
