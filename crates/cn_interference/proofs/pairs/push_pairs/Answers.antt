use Rattle.std.proofs.Common.{◌+◌, ◌∙◌, List, ap, arith, subst, sym}
use Rattle.cn_interference.specs.Pairs.{ArePairsBelow}
use Rattle.cn_interference.specs.declared.pairs.OperationPair.{OperationPair}
use Rattle.cn_interference.proofs.PairLists.{pair_left_out, pair_pushed, row_begins, row_ends}
use Rattle.cn_interference.proofs.pairs.push_pairs.Goals as goal
use Rattle.cn_interference.proofs.pairs.push_pairs.Goals.{then-are_apart+in_ok-push, else-are_apart}

pub loop-second-init : goal.loop-second-init
loop-second-init c = row_begins c.args.table.now c.args.first.0 c.args.pairs.now.items c.requires.before

pub loop-second-preserved : goal.loop-second-preserved
loop-second-preserved c =
    let so_far = c.loop-second.pairs.items in
    elim c.if-are_apart.branch [
      | then-are_apart+in_ok-push w ↦ subst
          (λ (pairs : List OperationPair). ArePairsBelow c.args.table.now c.args.first.0 (c.loop-second.second + 1) pairs)
          (sym (ap (λ v. v.items) w.pairs-is ∙ w.in_ok-push.ensures.items))
          (pair_pushed c.args.table.now c.args.first.0 c.loop-second.second so_far (omega arith) (omega arith)
          (c.are_apart.ensures.yes w.if-are_apart.true) c.loop-second.invariant)
      | else-are_apart w ↦ subst
          (λ (pairs : List OperationPair). ArePairsBelow c.args.table.now c.args.first.0 (c.loop-second.second + 1) pairs)
          (sym (ap (λ v. v.items) w.pairs-is))
          (pair_left_out c.args.table.now c.args.first.0 c.loop-second.second so_far
          (λ h. h.2 (c.are_apart.ensures.no w.if-are_apart.false h.0 h.1)) c.loop-second.invariant)
    ]

pub returns : goal.returns
returns c =
    row_ends c.args.table.now c.args.first.0 c.loop-second.second c.loop-second.pairs.items
    (omega (arith, c.loop-second-test.false, c.operations-operations.ensures.number)) c.loop-second.invariant
