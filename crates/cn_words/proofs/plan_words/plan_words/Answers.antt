use Rattle.cn_words.proofs.plan_words.plan_words.Goals as goal

pub returns-in_err-style : goal.returns-in_err-style
returns-in_err-style c = rw c.from_residual.ensures (λ words is. c.in_err-style.ensures words.style is.0)

pub returns-in_err-object : goal.returns-in_err-object
returns-in_err-object c = rw c.from_residual-in_err-object.ensures (λ words is. c.in_err-object.ensures words.object is.1)
