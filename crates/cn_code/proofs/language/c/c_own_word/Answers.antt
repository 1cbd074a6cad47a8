use Rattle.std.proofs.Common.{◌∙◌, ap, sym}
use Rattle.cn_code.specs.CWords.{c_own_word}
use Rattle.cn_code.specs.declared.language.Form.{Form}
use Rattle.cn_code.proofs.language.c.c_own_word.Goals as goal

pub returns-in-Tournament : goal.returns-in-Tournament
unfolding c_own_word
returns-in-Tournament c = c.c_own_tournament_word.ensures ∙ sym (ap (λ (form : Form). c_own_word form c.args.part) c.in-Tournament.is)

pub returns-in-LookTree : goal.returns-in-LookTree
unfolding c_own_word
returns-in-LookTree c = c.c_look_word.ensures ∙ sym (ap (λ (form : Form). c_own_word form c.args.part) c.in-LookTree.is)

pub returns-in-BlindTree : goal.returns-in-BlindTree
unfolding c_own_word
returns-in-BlindTree c = c.c_blind_word.ensures ∙ sym (ap (λ (form : Form). c_own_word form c.args.part) c.in-BlindTree.is)

pub returns-in-ResponseTree : goal.returns-in-ResponseTree
unfolding c_own_word
returns-in-ResponseTree c = c.c_response_word.ensures ∙ sym (ap (λ (form : Form). c_own_word form c.args.part) c.in-ResponseTree.is)

pub returns-in-MixedTree : goal.returns-in-MixedTree
unfolding c_own_word
returns-in-MixedTree c = c.c_mixed_word.ensures ∙ sym (ap (λ (form : Form). c_own_word form c.args.part) c.in-MixedTree.is)
