use Rattle.std.proofs.Common.{◌<◌, length, arith, ap, sym, subst}
use Rattle.cn_choice.specs.RawChoices.{RawChoice}
use Rattle.cn_outcomes.specs.EarlyPairs.{AreOutcomePairs}
use Rattle.cn_outcomes.proofs.EarlyPairs.{alone_is, first_is, more_given, one_given}
use Rattle.cn_outcomes.proofs.early_pairs.pairs_of_first_move.Goals as goal
use Rattle.cn_outcomes.proofs.early_pairs.pairs_of_first_move.Goals.{then-k-j, else-k-j}

pub loop-k-init : goal.loop-k-init
loop-k-init c =
    one_given c.args.table.now c.args.choice.now c.args.team c.args.j c.requires.j c.only-set.result c.apply.result.0.0 c.apply.result.1.0
    (alone_is c.args.table.now c.args.choice.now c.args.team c.args.j c.requires.j c.operation_of.result.0 c.choice.inside.state.0 c.operation_of.ensures
    (ap (λ (a : RawChoice). a.state) c.choice.view_is)
    c.apply.result.0.0 c.apply.result.1.0 c.apply.ensures.value c.requires.team)
    c.only-set.ensures

pub loop-k-preserved : goal.loop-k-preserved
loop-k-preserved c =
    let t = c.args.table.now in
    let raw = c.args.choice.now in
    let seen = ap (λ (a : RawChoice). length a.operations) c.choice.view_is in
    let here : c.loop-k.k < length raw.operations = omega (arith, seen, c.len-k-end.ensures.value, c.loop-k-test.true) in
    elim c.if-k-j.branch [
      | then-k-j w ↦ subst (AreOutcomePairs t raw c.args.team c.args.j) (sym w.set-is) (
          more_given t raw c.args.team c.args.j c.requires.j c.loop-k.set w.add.new.self c.apply.result.0.0 w.apply-then-k-j.result.1.0 c.loop-k.invariant
          (first_is t raw c.args.team c.args.j c.requires.j c.operation_of.result.0 c.choice.inside.state.0 c.operation_of.ensures (ap (λ (a : RawChoice). a.state) c.choice.view_is)
          c.loop-k.k w.operation_of-then-k-j.result.0
          c.apply.result.0.0 c.apply.result.1.0 w.apply-then-k-j.result.0.0 w.apply-then-k-j.result.1.0
          here (omega (arith, w.if-k-j.true)) w.operation_of-then-k-j.ensures c.apply.ensures.value w.apply-then-k-j.ensures.value c.requires.team)
          w.add.ensures)
      | else-k-j w ↦ subst (AreOutcomePairs t raw c.args.team c.args.j) (sym w.set-is) c.loop-k.invariant
    ]
