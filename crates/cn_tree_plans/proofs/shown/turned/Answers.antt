use Rattle.std.proofs.Common.{List, ap, ℕ, ◌++◌, ◌-◌, ◌∙◌, drop, take}
use Rattle.cn_tree_plans.specs.Plan.{NodeMeeting}
use Rattle.cn_tree_plans.proofs.ShownLemmas.{turned_is}
use Rattle.cn_tree_plans.proofs.shown.turned.Goals as goal

pub returns : goal.returns
returns c =
    turned_is c.args.meeting.now _ c.args.low c.args.high c.size-size.result _ c.push_all-2.new.list.items _
    (ap (λ (m : NodeMeeting). m.start) c.meeting.view_is) c.size-size.ensures
    (c.push_all.ensures ∙ ap (λ (xs : List ℕ). xs ++ take (c.args.high - c.args.low) (drop c.args.low c.args.meeting.now.operations)) c.new-a.ensures)
    (c.push_all-2.ensures ∙ ap (λ (xs : List ℕ). xs ++ take (c.args.low - 0) (drop 0 c.args.meeting.now.operations)) c.new-b.ensures)
    c.push_all-3.ensures
