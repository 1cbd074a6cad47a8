use Rattle.cn_crashes.proofs.Search.{consensus_records}
use Rattle.cn_crashes.proofs.laws.recoverable_rounds_are_enough.Goals as goal

pub returns : goal.returns
returns g c t n P closed two known con =
    c.recording_is_enough.ensures t n two (consensus_records t n P closed two known con)
