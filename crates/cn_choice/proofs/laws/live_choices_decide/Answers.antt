use Rattle.cn_choice.proofs.ChoiceLemmas.LiveChoices.{live_discerning, live_not_discerning}
use Rattle.cn_choice.proofs.laws.live_choices_decide.Goals as goal

pub returns : goal.returns
returns c = record { refuted = live_not_discerning; shown = live_discerning }
