use Rattle.std.proofs.Common.{ℕ, arith, inl, inr}
use Rattle.cn_outcomes.specs.PairSets.{Has}
use Rattle.cn_outcomes.proofs.Unions.{IsOther, from_all, from_first, from_more, from_none, other_differs, other_part}
use Rattle.cn_outcomes.proofs.subset_pairs.others_pairs.Goals as goal

pub without-requires : goal.without-requires
without-requires c = omega (arith, c.requires.j, c.requires.setting.few)

pub loop-process-init : goal.loop-process-init
loop-process-init c =
    let s = c.args.setting.now in
    let listed = c.iter-process-items.ensures.same in
    rw c.into_iter-process-iterator.ensures.into_iter_gives (
    from_none (other_part s.table.now s.choice.now s.team c.args.j c.args.subset) (IsOther s.links c.args.subset c.args.j) c.iter-process-items.result (λ (x : ℕ × ℕ). Has c.none-set.result x.0 x.1)
    (λ p. (
      λ h. (let w = (c.without.ensures p).0 ((listed p).0 h) in ((c.movers.ensures p).0 w.0, w.1)),
      λ m. (listed p).1 ((c.without.ensures p).1 ((c.movers.ensures p).1 m.0, m.1)),
    )) (λ x. c.none-set.ensures x.0 x.1)
    )

pub pairs_before-requires-clause-known : goal.pairs_before-requires-clause-known
pairs_before-requires-clause-known c =
    let p = c.in-Some.process in
    let other = from_first c.loop-process.invariant c.in-Some.ensures.steps in
    c.iter-process-items.ensures.below p ((c.without.ensures p).1 ((c.movers.ensures p).1 other.0, other.1))

pub pairs_before-requires-clause-mover : goal.pairs_before-requires-clause-mover
pairs_before-requires-clause-mover c = (from_first c.loop-process.invariant c.in-Some.ensures.steps).0

pub loop-process-preserved : goal.loop-process-preserved
loop-process-preserved c =
    let s = c.args.setting.now in
    from_more (other_part s.table.now s.choice.now s.team c.args.j c.args.subset) (IsOther s.links c.args.subset c.args.j) c.loop-process.process-iterator c.next.new.self c.in-Some.process
    (λ (x : ℕ × ℕ). Has c.loop-process.set x.0 x.1) (λ (x : ℕ × ℕ). Has c.union-set.result x.0 x.1) c.in-Some.ensures.steps c.loop-process.invariant
    (λ x. (
      λ h. elim ((c.union-set.ensures x.0 x.1).0 h) [ inl a ↦ inl a | inr b ↦ inr ((c.pairs_before.ensures x.0 x.1).0 b) ],
      λ h. (c.union-set.ensures x.0 x.1).1 (elim h [ inl a ↦ inl a | inr b ↦ inr ((c.pairs_before.ensures x.0 x.1).1 b) ]),
    ))

pub returns : goal.returns
returns c r q =
    let s = c.args.setting.now in
    let t = s.table.now in
    let all = from_all (other_part t s.choice.now s.team c.args.j c.args.subset) (IsOther s.links c.args.subset c.args.j) c.loop-process.process-iterator
    (λ (x : ℕ × ℕ). Has c.loop-process.set x.0 x.1)
    c.in-None.ensures.steps.0 c.loop-process.invariant (r, q) in (
      λ h. (let x = all.0 h in (x.0, x.1.0, x.2)),
      λ y. all.1 (y.0, (y.1, other_differs t s.choice.now s.team c.args.j c.args.subset y.0 q r y.2), y.2),
    )
