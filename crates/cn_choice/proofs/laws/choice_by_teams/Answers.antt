use Rattle.cn_choice.proofs.ChoiceLemmas.CanonicalForms.{IsRawChoice-choice, choice-IsRawChoice}
use Rattle.cn_choice.proofs.laws.choice_by_teams.Goals as goal

pub returns : goal.returns
returns c t n choice = (choice-IsRawChoice t n choice, IsRawChoice-choice t n choice)
