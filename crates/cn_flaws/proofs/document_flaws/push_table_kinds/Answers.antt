use Rattle.std.proofs.Common.{◌++◌, codes}
use Rattle.toml.specs.View.{table_view}
use Rattle.cn_flaws.specs.Flaws.{flaws_view, wrong_kind}
use Rattle.cn_flaws.specs.declared.document_flaws.Kind.TheVariants.{Text, Texts}
use Rattle.cn_table.proofs.Lists.{two_parts}
use Rattle.cn_flaws.proofs.document_flaws.push_table_kinds.Goals as goal

pub returns : goal.returns
returns c =
    let before = c.args.before.now in
    let table = table_view c.args.table.now in
    let response = wrong_kind Texts c.args.holder before (codes "response") table in
    let next = wrong_kind Texts c.args.holder before (codes "next") table in
    let new = flaws_view c.push_wrong_kind-3.new.flaws in
    two_parts c.push_wrong_kind-3.result (flaws_view c.args.flaws.now) (flaws_view c.push_wrong_kind.new.flaws) new (wrong_kind Text c.args.holder before (codes "name") table) (response ++ next)
    c.in_ok-push_wrong_kind.ensures
    (two_parts c.push_wrong_kind-3.result (flaws_view c.push_wrong_kind.new.flaws) (flaws_view c.push_wrong_kind-2.new.flaws) new response next
    c.in_ok-push_wrong_kind-2.ensures c.push_wrong_kind-3.ensures)
