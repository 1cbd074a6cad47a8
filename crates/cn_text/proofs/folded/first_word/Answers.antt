use Rattle.std.proofs.Common.{◌∙◌, arith, sym}
use Rattle.cn_text.proofs.FoldLemmas.{cut_front, whole_rest}
use Rattle.cn_text.proofs.folded.first_word.Goals as goal

pub returns-then-fits_whole : goal.returns-then-fits_whole
returns-then-fits_whole c = whole_rest c.args.left c.args.gap c.args.rest.now (sym c.fits_whole.ensures ∙ c.if-fits_whole.true)

pub returns-else-fits_whole : goal.returns-else-fits_whole
returns-else-fits_whole c = cut_front c.args.left c.args.gap c.args.rest.now c.split_once.result (c.split_once.ensures.byte (omega arith) (λ w o h. h))
