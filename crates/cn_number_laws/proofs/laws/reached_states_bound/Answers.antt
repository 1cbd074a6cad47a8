use Rattle.cn_number_laws.proofs.Numbers.{tells_few, witness_few}
use Rattle.cn_number_laws.proofs.Recordings.{recording_few}
use Rattle.cn_number_laws.proofs.laws.reached_states_bound.Goals as goal

pub returns : goal.returns
returns c = record {
  tells = tells_few;
  witness = λ t n d states is w has none.
      witness_few t n d is w states has (c.witnesses_are_live.ensures t n d is) (λ some. (c.starts_of_witnesses.ensures t n d some is w).1) none;
  recording_witness = recording_few;
}
