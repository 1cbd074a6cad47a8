use Rattle.cn_choice.proofs.ChoiceLemmas.LiveChoices.{live_ascend, live_listed}
use Rattle.cn_choice.proofs.laws.live_list.Goals as goal

pub returns : goal.returns
returns c = record { listed = live_listed; ascending = live_ascend }
