-- The forms of answers and of documents.
use Rattle.cn_form.specs.declared.answer_form.AnswerForm.{AnswerForm}
use Rattle.cn_form.specs.declared.answer_form.AnswerForm.TheVariants as answer
use Rattle.cn_form.specs.declared.answer_form.DocumentForm.{DocumentForm}
use Rattle.cn_form.specs.declared.answer_form.DocumentForm.TheVariants as document

-- the form of a document that is this form of an answer
abbrev pub document_form : AnswerForm → DocumentForm
document_form answer.Text = document.Text
document_form answer.Json = document.Json
