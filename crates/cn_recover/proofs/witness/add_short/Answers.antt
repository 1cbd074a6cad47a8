use Rattle.std.proofs.Common.{arith, ap, sym, subst, length, ◌<◌, ◌∙◌, ◌≡◌, ◌≢◌}
use Rattle.cn_choice.specs.Moves.{next_of}
use Rattle.cn_choice.specs.RawChoices.{RawChoice}
use Rattle.cn_outcomes.specs.LeftStates.{LeavesIn}
use Rattle.cn_recover.specs.StatesApart.{AreLeft}
use Rattle.cn_recover.proofs.ShortOrders.{alone_leaves, left_more, second_leaves}
use Rattle.cn_recover.proofs.witness.add_short.Goals as goal
use Rattle.cn_recover.proofs.witness.add_short.Goals.{then-second-first, else-second-first}

pub loop-second-init : goal.loop-second-init
loop-second-init c =
    let t = c.args.table.now in
    let raw = c.args.choice.now in
    let start = ap (λ (a : RawChoice). a.state) c.choice.view_is in
    let left : c.state_after_move-left.result.0 ≡ next_of t raw c.args.first raw.state = c.state_after_move-left.ensures.next ∙ ap (next_of t raw c.args.first) start in
    left_more t raw c.args.team c.args.set.now c.insert.new.self c.state_after_move-left.result.0 c.requires.set
    (subst (LeavesIn t raw c.args.team) (sym left) (alone_leaves t raw c.args.team c.args.first c.requires.first c.requires.team)) c.insert.ensures

pub loop-second-preserved : goal.loop-second-preserved
loop-second-preserved c =
    let t = c.args.table.now in
    let raw = c.args.choice.now in
    let seen = ap (λ (a : RawChoice). length a.operations) c.choice.view_is in
    let start = ap (λ (a : RawChoice). a.state) c.choice.view_is in
    let left : c.state_after_move-left.result.0 ≡ next_of t raw c.args.first raw.state = c.state_after_move-left.ensures.next ∙ ap (next_of t raw c.args.first) start in
    let here : c.loop-second.second < length raw.operations = omega (arith, seen, c.len-second-end.ensures.value, c.loop-second-test.true) in
    elim c.if-second-first.branch [
      | then-second-first w ↦ subst (AreLeft t raw c.args.team) (sym w.set-is) (
          let n : c.args.first ≢ c.loop-second.second = omega (arith, w.if-second-first.true) in
          let after = w.state_after_move.ensures.next ∙ ap (next_of t raw c.loop-second.second) left in
          left_more t raw c.args.team c.loop-second.set w.insert-then-second-first.new.self w.state_after_move.result.0 c.loop-second.invariant
          (subst (LeavesIn t raw c.args.team) (sym after) (second_leaves t raw c.args.team c.args.first c.loop-second.second c.requires.first here n c.requires.team))
          w.insert-then-second-first.ensures)
      | else-second-first w ↦ subst (AreLeft t raw c.args.team) (sym w.set-is) c.loop-second.invariant
    ]
