use Rattle.std.proofs.Common.{◌∙◌, length, sym}
use Rattle.std.proofs.lemmas.Bool.{eqb-true}
use Rattle.cn_check.proofs.EntryTextLemmas.{to_the_end}
use Rattle.cn_check.proofs.one_pass.are_entries.Goals as goal

pub returns-in-Some : goal.returns-in-Some
returns-in-Some c = λ yes. to_the_end c.args.table.now _ c.args.bytes.now c.in-Some.rest.now (eqb-true (length c.in-Some.rest.now) 0 (sym c.is_empty.ensures ∙ yes)) c.in-Some.ensures
