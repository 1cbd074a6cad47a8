use Rattle.std.proofs.Common.{ap, sym}
use Rattle.cn_code.specs.LookRustWords.{rust_mixed_word}
use Rattle.cn_code.proofs.language.rust_looks.rust_mixed_word.Goals as goal

pub returns-in-Meet : goal.returns-in-Meet
unfolding rust_mixed_word
returns-in-Meet c = sym (ap rust_mixed_word c.in-Meet.is)

pub returns-in-Bound : goal.returns-in-Bound
unfolding rust_mixed_word
returns-in-Bound c = sym (ap rust_mixed_word c.in-Bound.is)

pub returns-in-Read : goal.returns-in-Read
unfolding rust_mixed_word
returns-in-Read c = sym (ap rust_mixed_word c.in-Read.is)

pub returns-in-Figure : goal.returns-in-Figure
unfolding rust_mixed_word
returns-in-Figure c = sym (ap rust_mixed_word c.in-Figure.is)

pub returns-in-Place : goal.returns-in-Place
unfolding rust_mixed_word
returns-in-Place c = sym (ap rust_mixed_word c.in-Place.is)

pub returns-in-Judgements : goal.returns-in-Judgements
unfolding rust_mixed_word
returns-in-Judgements c = sym (ap rust_mixed_word c.in-Judgements.is)

pub returns-in-Row : goal.returns-in-Row
unfolding rust_mixed_word
returns-in-Row c = sym (ap rust_mixed_word c.in-Row.is)

pub returns-in-ResponseName : goal.returns-in-ResponseName
unfolding rust_mixed_word
returns-in-ResponseName c = sym (ap rust_mixed_word c.in-ResponseName.is)

pub returns-in-Judge : goal.returns-in-Judge
unfolding rust_mixed_word
returns-in-Judge c = sym (ap rust_mixed_word c.in-Judge.is)

pub returns-in-CheckOperation : goal.returns-in-CheckOperation
unfolding rust_mixed_word
returns-in-CheckOperation c = sym (ap rust_mixed_word c.in-CheckOperation.is)
