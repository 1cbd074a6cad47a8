use Rattle.std.proofs.Common.{◌≤◌, length, sym, ap, ◌∙◌, true}
use Rattle.std.specs.List.{filter}
use Rattle.cn_choice.specs.Canonical.{Choice}
use Rattle.cn_choice.specs.Live.{is_live}
use Rattle.cn_choice.specs.LiveLeft.{live_from}
use Rattle.cn_choice.proofs.ChoiceLemmas.BlockWalk.{block_begins}
use Rattle.cn_choice.proofs.block_choices.BlockChoices.new.Goals as goal

pub returns : goal.returns
returns c =
    let t = c.args.table.now in
    let some_operations : 1 ≤ length t.operations = c.tables_are_valid.ensures.operations.0 in
    sym c.find_live-left.ensures.next
    ∙ (ap (λ (d : Choice). live_from t true d) c.first_of-choice.ensures ∙ ap (filter (is_live t)) (sym (block_begins (length t.operations) c.args.block.now some_operations)))
