use Rattle.std.proofs.Common.{◌++◌, codes}
use Rattle.cn_table.specs.Draft.{row_names}
use Rattle.cn_table.specs.DraftView.{draft_view}
use Rattle.cn_flaws.specs.FlawPath.{key_path}
use Rattle.cn_flaws.specs.Flaws.{flaws_view, bad_name, bad_names, name_flaws}
use Rattle.cn_flaws.specs.declared.path.Holder.TheVariants.{Root}
use Rattle.cn_flaws.specs.declared.path.NameList.TheVariants.{States, Responses, Operations}
use Rattle.cn_table.proofs.Lists.{two_parts}
use Rattle.cn_flaws.proofs.draft_flaws.push_name_flaws.Goals as goal

pub returns : goal.returns
unfolding name_flaws
returns c =
    let draft = draft_view c.args.draft.now in
    let name = bad_name (key_path Root (codes "name")) (codes "name") draft.name in
    let states = bad_names States draft.states in
    let responses = bad_names Responses draft.responses in
    let operations = bad_names Operations (row_names draft.operations) in
    let new = flaws_view c.push_bad_names-3.new.flaws in
    two_parts c.push_bad_names-3.result (flaws_view c.args.flaws.now) (flaws_view c.push_bad_type.new.flaws) new name (states ++ (responses ++ operations))
    (rw c.as_str.ensures.value at c.in_ok-push_bad_type.ensures)
    (two_parts c.push_bad_names-3.result (flaws_view c.push_bad_type.new.flaws) (flaws_view c.push_bad_names.new.flaws) new states (responses ++ operations)
    (rw c.deref.ensures.value at c.in_ok-push_bad_names.ensures)
    (two_parts c.push_bad_names-3.result (flaws_view c.push_bad_names.new.flaws) (flaws_view c.push_bad_names-2.new.flaws) new responses operations
    (rw c.deref-2.ensures.value at c.in_ok-push_bad_names-2.ensures)
    (rw (c.deref-4.ensures.value, c.in_ok-operations.ensures, c.deref-3.ensures.value) at c.push_bad_names-3.ensures)))
