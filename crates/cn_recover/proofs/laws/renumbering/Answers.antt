use Rattle.cn_recover.proofs.Recordings.{recording_embeds, recording_exchanged}
use Rattle.cn_recover.proofs.laws.renumbering.Goals as goal

pub returns : goal.returns
returns c = record { some = recording_embeds; exchanged = recording_exchanged }
