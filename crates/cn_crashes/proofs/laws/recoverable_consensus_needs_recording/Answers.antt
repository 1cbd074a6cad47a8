use Rattle.cn_crashes.proofs.Search.{consensus_records}
use Rattle.cn_crashes.proofs.laws.recoverable_consensus_needs_recording.Goals as goal

pub returns : goal.returns
returns g c = record {
  recording = consensus_records;
  discerning = λ t n P closed two known con. c.recording_witness_is_witness.ensures.discerning t n
      (consensus_records t n P closed two known con);
}
