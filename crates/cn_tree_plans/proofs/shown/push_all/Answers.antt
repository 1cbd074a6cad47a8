use Rattle.std.proofs.Common.{ℕ, List, [], ◌-◌, ◌++◌, ◌∷◌, ap, arith, drop, length, length-append, take, ◌∙◌}
use Rattle.std.proofs.lemmas.List.{length-take}
use Rattle.cn_tree_plans.proofs.ShownLemmas.{pushed}
use Rattle.cn_tree_plans.proofs.shown.push_all.Goals as goal

pub push-requires : goal.push-requires
push-requires c =
    let few = c.requires.few in
    let le = c.loop-k.auto.k in
    omega (
      arith,
      ap length c.loop-k.invariant,
      length-append c.args.list.now.items (take (c.loop-k.k - c.args.from) (drop c.args.from c.args.meeting.now.operations)),
      length-take (c.loop-k.k - c.args.from) (drop c.args.from c.args.meeting.now.operations),
    )

pub loop-k-preserved : goal.loop-k-preserved
loop-k-preserved c =
    let le = c.loop-k.auto.k in
    let lt = c.loop-k-test.true in
    let to = c.requires.to in
    pushed c.args.list.now.items _ c.args.meeting.now.operations c.operation.result.0 c.args.from c.loop-k.k le (omega arith)
    c.operation.ensures (c.push.ensures.items ∙ ap (λ (xs : List ℕ). xs ++ c.operation.result.0 ∷ []) c.loop-k.invariant)
