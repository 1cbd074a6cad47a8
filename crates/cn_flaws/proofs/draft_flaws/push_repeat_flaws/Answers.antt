use Rattle.std.proofs.Common.{◌++◌}
use Rattle.cn_table.specs.Draft.{row_names}
use Rattle.cn_table.specs.DraftView.{draft_view}
use Rattle.cn_flaws.specs.Flaws.{flaws_view, repeats, repeat_flaws}
use Rattle.cn_flaws.specs.declared.path.NameList.TheVariants.{States, Responses, Operations}
use Rattle.cn_table.proofs.Lists.{two_parts}
use Rattle.cn_flaws.proofs.draft_flaws.push_repeat_flaws.Goals as goal

pub returns : goal.returns
unfolding repeat_flaws
returns c =
    let draft = draft_view c.args.draft.now in
    let states = repeats States draft.states in
    let responses = repeats Responses draft.responses in
    let operations = repeats Operations (row_names draft.operations) in
    let new = flaws_view c.push_repeats-3.new.flaws in
    two_parts c.push_repeats-3.result (flaws_view c.args.flaws.now) (flaws_view c.push_repeats.new.flaws) new states (responses ++ operations)
    (rw c.deref.ensures.value at c.in_ok-push_repeats.ensures)
    (two_parts c.push_repeats-3.result (flaws_view c.push_repeats.new.flaws) (flaws_view c.push_repeats-2.new.flaws) new responses operations
    (rw c.deref-2.ensures.value at c.in_ok-push_repeats-2.ensures)
    (rw (c.deref-4.ensures.value, c.in_ok-operations.ensures, c.deref-3.ensures.value) at c.push_repeats-3.ensures))
