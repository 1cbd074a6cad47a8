use Rattle.std.proofs.Common.{ap, arith, ◌∙◌}
use Rattle.cn_merging.proofs.Numbers.{with_first, with_later}
use Rattle.cn_merging.proofs.numbering.numbered.Goals as goal
use Rattle.cn_merging.proofs.numbering.numbered.Goals.{then-first-q, else-first-q}

pub loop-q-preserved : goal.loop-q-preserved
loop-q-preserved c =
    let firsts = c.args.firsts.now in
    let i = c.loop-q.invariant in
    elim c.if-first-q.branch [
      | then-first-q w ↦ with_first firsts c.loop-q.q c.loop-q.kept.items c.loop-q.class_of.items i c.if-first-q.kept.items c.if-first-q.class_of.items _ _
          (omega arith) (omega arith) w.len.ensures.value (ap (λ v. v.items) w.kept-is ∙ w.push-then-first-q.ensures.items) (ap (λ v. v.items) w.class_of-is ∙ w.push.ensures.items)
      | else-first-q w ↦ with_later firsts c.loop-q.q c.loop-q.kept.items c.loop-q.class_of.items i c.if-first-q.kept.items c.if-first-q.class_of.items _
          c.requires.own c.loop-q-test.true w.if-first-q.false (cc) (ap (λ v. v.items) w.kept-is) (ap (λ v. v.items) w.class_of-is ∙ w.push-else-first-q.ensures.items)
    ]
