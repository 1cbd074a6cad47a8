-- The forms of an answer.
use Rattle.cn_form.specs.declared.answer_form.AnswerForm.{AnswerForm}
use Rattle.cn_form.specs.declared.answer_form.AnswerForm.TheVariants.{Text, Json}

-- the first if JSON is asked for, and else the second
abbrev pub if_json : {X : Type 0} → AnswerForm → X → X → X
if_json Json json text = json
if_json Text json text = text
