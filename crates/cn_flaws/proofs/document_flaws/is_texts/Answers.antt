use Rattle.std.proofs.Common.{sym, ◌∙◌}
use Rattle.toml.specs.View.{view}
use Rattle.cn_table.specs.Faults.{is_text}
use Rattle.cn_flaws.proofs.FlawLemmas.{items_are}
use Rattle.cn_flaws.proofs.document_flaws.is_texts.Goals as goal

pub returns-in-Some : goal.returns-in-Some
returns-in-Some c = c.all_are_texts.ensures ∙ items_are is_text (view c.args.value.now) c.in-Some.items.now (sym c.in-Some.ensures)
