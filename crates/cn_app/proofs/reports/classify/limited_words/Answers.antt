use Rattle.std.proofs.Common.{rules, append_assoc}
use Rattle.std.proofs.lemmas.Bool.{lt-ltb}
use Rattle.cn_app.proofs.ReportLemmas.Numbers.{not_below}
use Rattle.cn_app.proofs.reports.classify.limited_words.Goals as goal

pub returns-in-None : goal.returns-in-None
returns-in-None c = rw c.in-None.is (search (rules, append_assoc))

pub returns-in-Some : goal.returns-in-Some
returns-in-Some c = rw (c.in-Some.is, lt-ltb c.in-Some.n c.args.limit c.if-n-limit.true) (search (rules, append_assoc))

pub returns-in-Some-2 : goal.returns-in-Some-2
returns-in-Some-2 c =
    rw (c.in-Some-2.is, not_below c.args.number c.in-Some.n c.in-Some-2.n c.args.limit c.in-Some.is c.in-Some-2.is c.if-n-limit.false) (search (rules, append_assoc))
