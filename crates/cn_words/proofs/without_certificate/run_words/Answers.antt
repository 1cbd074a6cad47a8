use Rattle.cn_words.proofs.without_certificate.run_words.Goals as goal

pub returns-in_err-list : goal.returns-in_err-list
returns-in_err-list c =
    rw c.from_residual.ensures (λ words is. c.in_err-list.ensures words.inputs is.0)

pub returns-in_err-list-2 : goal.returns-in_err-list-2
returns-in_err-list-2 c =
    rw c.from_residual-in_err-list-2.ensures (λ words is. c.in_err-list-2.ensures words.schedule is.1)

pub returns-in_err-optional_number : goal.returns-in_err-optional_number
returns-in_err-optional_number c = rw c.from_residual-in_err-optional_number.ensures
    (λ words is. c.in_err-optional_number.ensures words.processes is.2)

pub returns-in_err-answer_form : goal.returns-in_err-answer_form
returns-in_err-answer_form c = rw c.from_residual-in_err-answer_form.ensures
    (λ words is. c.in_err-answer_form.ensures words.form is.4)
