use Rattle.std.proofs.Common.{ℕ, List, [], ◌∷◌, ◌++◌, ◌∙◌, append_assoc, arith, ap, length, length-append, replicate}
use Rattle.std.proofs.lemmas.List.{length-replicate, replicate-append-replicate}
use Rattle.cn_shortest.proofs.building.add_size.Goals as goal

pub push-requires : goal.push-requires
push-requires c =
    let old = c.args.list.now.items in
    let k = c.loop-team._team in
    (omega arith, omega (arith, ap length c.loop-team.invariant, length-append old (replicate k c.args.size), length-replicate k c.args.size, c.loop-team-test.true, c.requires))

pub loop-team-preserved : goal.loop-team-preserved
loop-team-preserved c =
    let old = c.args.list.now.items in
    let k = c.loop-team._team in
    let size = c.args.size in
    c.push.ensures.items ∙ (ap (λ (xs : List ℕ). xs ++ size ∷ []) c.loop-team.invariant
    ∙ (append_assoc old (replicate k size) (size ∷ []) ∙ ap (λ (xs : List ℕ). old ++ xs) (replicate-append-replicate k 1 size)))
