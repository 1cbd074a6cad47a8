use Rattle.cn_number_laws.proofs.Numbers.{discerning_few, number_few, some_tells_few}
use Rattle.cn_number_laws.proofs.Recordings.{closed_recording_few, recoverable_number_few}
use Rattle.cn_number_laws.proofs.laws.finite_numbers.Goals as goal

pub returns : goal.returns
returns c = record {
  discerning = λ t n closed none d. discerning_few t closed (c.witnesses_are_live.ensures t) (c.starts_of_witnesses.ensures t) n none d;
  number = λ t n closed is. number_few t closed (c.witnesses_are_live.ensures t) (c.starts_of_witnesses.ensures t) n (c.infinite_numbers.ensures.discerning t).0 is;
  tells = some_tells_few;
  recording = closed_recording_few;
  recoverable_number = λ t n closed two is. recoverable_number_few t n (c.infinite_numbers.ensures.discerning t).0 (c.no_greatest_together.ensures t).1 closed two is;
}
