use Rattle.cn_number_laws.proofs.PartLemmas.{discerning_in_type, recording_in_type, recording_of_both, witness_of_both}
use Rattle.cn_number_laws.proofs.laws.parts_of_types.Goals as goal

pub returns : goal.returns
returns c = record {
  witness = λ f part t n d p is. witness_of_both f part t p n d is;
  recording_witness = λ f part t n d p is. recording_of_both f part t p n d is;
  discerning = λ f part t n p d. discerning_in_type f part t p n d;
  recording = λ f part t n p d. recording_in_type f part t p n d;
}
