use Rattle.std.proofs.Common.{◌++◌, length, string_bytes}
use Rattle.cn_table.specs.DraftView.{draft_view, row_view}
use Rattle.cn_flaws.specs.Flaws.{flaws_view, bad_count, count_flaws}
use Rattle.cn_flaws.specs.declared.path.NameList.TheVariants.{States, Responses, Operations}
use Rattle.cn_table.specs.declared.limits.TheConstants.{MOST_OPERATIONS, MOST_RESPONSES, MOST_STATES}
use Rattle.std.proofs.lemmas.List.{length-map}
use Rattle.cn_table.proofs.Lists.{two_parts}
use Rattle.cn_flaws.proofs.draft_flaws.push_count_flaws.Goals as goal

pub returns : goal.returns
unfolding count_flaws
returns c =
    let draft = c.args.draft.now in
    let seen = draft_view draft in
    let states = bad_count States MOST_STATES (length seen.states) in
    let responses = bad_count Responses MOST_RESPONSES (length seen.responses) in
    let operations = bad_count Operations MOST_OPERATIONS (length seen.operations) in
    let new = flaws_view c.push_bad_count-3.new.flaws in
    two_parts c.push_bad_count-3.result (flaws_view c.args.flaws.now) (flaws_view c.push_bad_count.new.flaws) new states (responses ++ operations)
    (rw (c.as_slice-states.ensures.value, ← length-map draft.states.items (λ s. string_bytes s)) at c.in_ok-push_bad_count.ensures)
    (two_parts c.push_bad_count-3.result (flaws_view c.push_bad_count.new.flaws) (flaws_view c.push_bad_count-2.new.flaws) new responses operations
    (rw (c.as_slice-responses.ensures.value, ← length-map draft.responses.items (λ s. string_bytes s)) at c.in_ok-push_bad_count-2.ensures)
    (rw (c.as_slice-operations.ensures.value, ← length-map draft.operations.items row_view) at c.push_bad_count-3.ensures))
