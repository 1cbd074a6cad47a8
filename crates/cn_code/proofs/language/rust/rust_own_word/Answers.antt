use Rattle.std.proofs.Common.{◌∙◌, ap, sym}
use Rattle.cn_code.specs.RustWords.{rust_own_word}
use Rattle.cn_code.specs.declared.language.Form.{Form}
use Rattle.cn_code.proofs.language.rust.rust_own_word.Goals as goal

pub returns-in-Tournament : goal.returns-in-Tournament
unfolding rust_own_word
returns-in-Tournament c = c.rust_own_tournament_word.ensures ∙ sym (ap (λ (form : Form). rust_own_word form c.args.part) c.in-Tournament.is)

pub returns-in-LookTree : goal.returns-in-LookTree
unfolding rust_own_word
returns-in-LookTree c = c.rust_look_word.ensures ∙ sym (ap (λ (form : Form). rust_own_word form c.args.part) c.in-LookTree.is)

pub returns-in-BlindTree : goal.returns-in-BlindTree
unfolding rust_own_word
returns-in-BlindTree c = c.rust_blind_word.ensures ∙ sym (ap (λ (form : Form). rust_own_word form c.args.part) c.in-BlindTree.is)

pub returns-in-ResponseTree : goal.returns-in-ResponseTree
unfolding rust_own_word
returns-in-ResponseTree c = c.rust_response_word.ensures ∙ sym (ap (λ (form : Form). rust_own_word form c.args.part) c.in-ResponseTree.is)

pub returns-in-MixedTree : goal.returns-in-MixedTree
unfolding rust_own_word
returns-in-MixedTree c = c.rust_mixed_word.ensures ∙ sym (ap (λ (form : Form). rust_own_word form c.args.part) c.in-MixedTree.is)
