use Rattle.std.proofs.Common.{◌<◌, length, arith, ap, sym, subst}
use Rattle.cn_choice.specs.RawChoices.{RawChoice}
use Rattle.cn_outcomes.specs.EarlyPairs.{AreOutcomePairs}
use Rattle.cn_outcomes.proofs.EarlyPairs.{more_given, second_is}
use Rattle.cn_outcomes.proofs.early_pairs.pairs_of_second_move.Goals as goal
use Rattle.cn_outcomes.proofs.early_pairs.pairs_of_second_move.Goals.{then-i-j+then-is_in, else-i-j}

pub loop-i-preserved : goal.loop-i-preserved
loop-i-preserved c =
    let t = c.args.table.now in
    let raw = c.args.choice.now in
    let seen = ap (λ (a : RawChoice). length a.operations) c.choice.view_is in
    let here : c.loop-i.i < length raw.operations = omega (arith, seen, c.len-i-end.ensures.value, c.loop-i-test.true) in
    elim c.if-i-j.branch [
      | then-i-j+then-is_in w ↦ subst (AreOutcomePairs t raw c.args.team c.args.j) (sym w.set-is) (
          more_given t raw c.args.team c.args.j c.requires.j c.loop-i.set w.add.new.self w.apply-then-is_in.result.0.0 w.apply-then-is_in.result.1.0 c.loop-i.invariant
          (second_is t raw c.args.team c.args.j c.requires.j w.operation_of-then-is_in.result.0 c.choice.inside.state.0 w.operation_of-then-is_in.ensures
          (ap (λ (a : RawChoice). a.state) c.choice.view_is)
          c.loop-i.i w.operation_of.result.0 w.apply-then-is_in.result.0.0 w.apply.result.1.0 w.apply.result.0.0 w.apply-then-is_in.result.1.0
          here (omega (arith, w.if-i-j.true)) w.operation_of.ensures w.apply.ensures.value w.apply-then-is_in.ensures.value
          (w.is_in.ensures.0 w.if-is_in.true))
          w.add.ensures)
      | else-i-j w ↦ subst (AreOutcomePairs t raw c.args.team c.args.j) (sym w.set-is) c.loop-i.invariant
    ]
