use Rattle.cn_meetings.proofs.Renaming.{choice_is_witness}
use Rattle.cn_meetings.proofs.laws.witnesses_of_choices.Goals as goal

pub returns : goal.returns
returns c = λ t d witness. choice_is_witness c.tournaments_are_sound.ensures.outcomes t d witness
