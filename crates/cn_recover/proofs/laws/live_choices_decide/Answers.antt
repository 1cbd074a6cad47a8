use Rattle.cn_recover.proofs.Recordings.{live_not_recording, live_recording}
use Rattle.cn_recover.proofs.laws.live_choices_decide.Goals as goal

pub returns-clause-refuted : goal.returns-clause-refuted
returns-clause-refuted c t n = live_not_recording t n (c.coverage.ensures t n) (c.live_list.ensures.listed t n) (c.witnesses_are_live.ensures t n)

pub returns-clause-shown : goal.returns-clause-shown
returns-clause-shown c t n = live_recording t n (c.coverage.ensures t n) (c.live_list.ensures.listed t n) (c.witnesses_are_live.ensures t n)
