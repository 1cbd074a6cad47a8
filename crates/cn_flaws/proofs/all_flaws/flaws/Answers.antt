use Rattle.std.proofs.Common.{arith, refl, inl, inr}
use Rattle.std.proofs.lemmas.Bool.{cases_Bool}
use Rattle.std.proofs.lemmas.Str.{IsUtf8-from_is_utf8, is_utf8-from_IsUtf8}
use Rattle.std.specs.Str.{is_utf8}
use Rattle.cn_flaws.proofs.FlawLaws.{first_in_memory}
use Rattle.cn_flaws.proofs.PlainFlaws.{plain_in_memory}
use Rattle.cn_flaws.proofs.all_flaws.flaws.Goals as goal

pub returns-in-Ok-clause-flaws : goal.returns-in-Ok-clause-flaws
returns-in-Ok-clause-flaws c = rw (is_utf8-from_IsUtf8 _ c.in-Ok.ensures.cases.1) (rw c.in-Ok.ensures.cases.0 at c.text_flaws.ensures)

pub returns-in-Ok-clause-first : goal.returns-in-Ok-clause-first
returns-in-Ok-clause-first c =
    first_in_memory c.text_flaws.result c.args.bytes.now (rw (is_utf8-from_IsUtf8 _ c.in-Ok.ensures.cases.1) (rw c.in-Ok.ensures.cases.0 at c.text_flaws.ensures))

pub returns-in-Err-clause-flaws : goal.returns-in-Err-clause-flaws
returns-in-Err-clause-flaws c = elim (cases_Bool (is_utf8 c.args.bytes.now)) [
  | inl valid ↦ absurd (c.in-Err.ensures.cases.0 (IsUtf8-from_is_utf8 _ valid))
  | inr other ↦ (0, omega arith, rw (other, c.new.ensures.items) refl)
]

pub returns-in-Err-clause-first : goal.returns-in-Err-clause-first
returns-in-Err-clause-first c = λ valid. absurd (c.in-Err.ensures.cases.0 valid)

pub returns-in-Ok-clause-plain : goal.returns-in-Ok-clause-plain
returns-in-Ok-clause-plain c =
    plain_in_memory c.text_flaws.result c.args.bytes.now (rw (is_utf8-from_IsUtf8 _ c.in-Ok.ensures.cases.1) (rw c.in-Ok.ensures.cases.0 at c.text_flaws.ensures))

pub returns-in-Err-clause-plain : goal.returns-in-Err-clause-plain
returns-in-Err-clause-plain c = rw c.new.ensures.items tt
