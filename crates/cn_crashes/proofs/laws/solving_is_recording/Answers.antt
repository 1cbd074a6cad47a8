use Rattle.cn_crashes.proofs.Search.{consensus_records}
use Rattle.cn_crashes.proofs.laws.solving_is_recording.Goals as goal

pub returns : goal.returns
returns c t n closed two = (
  λ s. consensus_records t n s.0 closed two s.1 s.2,
  c.recording_is_enough.ensures t n two,
)
