use Rattle.cn_recover.proofs.Recordings.{is_a_witness, recording_discerns}
use Rattle.cn_recover.proofs.laws.recording_witness_is_witness.Goals as goal

pub returns : goal.returns
returns c = record { witness = is_a_witness; discerning = recording_discerns }
