use Rattle.cn_sentences.proofs.CellLemmas.{pair_cell, single_cell}
use Rattle.cn_sentences.proofs.laws.cells_tell_numbers.Goals as goal

pub returns : goal.returns
returns c = record { alone = single_cell; pairs = pair_cell }
