use Rattle.std.proofs.Common.{ℕ, ◌≡◌, ◌↔◌, inl, inr, length, arith, subst}
use Rattle.std.specs.Prelude.{IsBitSet}
use Rattle.cn_table.specs.TypeTable.{transition}
use Rattle.cn_outcomes.specs.Twins.{IsMover}
use Rattle.cn_outcomes.proofs.BitSets.{member_below}
use Rattle.cn_outcomes.proofs.Packing.{rest_less, rest_packed}
use Rattle.cn_outcomes.proofs.BitSets.{without_less}
use Rattle.cn_outcomes.proofs.Unions.{from_none, from_first, row_part, row_more, row_all}
use Rattle.cn_outcomes.proofs.subset_rows.row.Goals as goal

pub loop-process-init : goal.loop-process-init
loop-process-init c =
    let s = c.args.setting.now in
    let listed = c.iter-process-items.ensures.same in
    rw c.into_iter-process-iterator.ensures.into_iter_gives (
      from_none (row_part s.table.now s.choice.now s.team c.args.subset) (IsMover s.links c.args.subset) c.iter-process-items.result (IsBitSet c.new-set.result)
          (λ p. (λ h. (c.movers.ensures p).0 ((listed p).0 h), λ m. (listed p).1 ((c.movers.ensures p).1 m))) c.new-set.ensures.none,
      λ q b. absurd (c.new-set.ensures.none q b),
    )

pub without-rest-requires : goal.without-rest-requires
without-rest-requires c =
    let mover = from_first c.loop-process.invariant.0 c.in-Some.ensures.steps in
    c.iter-process-items.ensures.below c.in-Some.process ((c.movers.ensures c.in-Some.process).1 mover)

pub found_states-from-requires-clause-process : goal.found_states-from-requires-clause-process
found_states-from-requires-clause-process c =
    member_below (length c.args.setting.now.choice.now.operations) c.args.subset c.in-Some.process c.requires.rows.inside (from_first c.loop-process.invariant.0 c.in-Some.ensures.steps).0

pub found_states-from-requires-clause-rest : goal.found_states-from-requires-clause-rest
found_states-from-requires-clause-rest c =
    let mover = from_first c.loop-process.invariant.0 c.in-Some.ensures.steps in
    omega (
      arith,
      c.requires.rows.small,
      rest_less c.args.subset c.in-Some.process c.without-rest.result (without_less c.args.subset c.in-Some.process c.without-rest.result mover.0 c.without-rest.ensures),
    )

pub found_states-from-requires-clause-row : goal.found_states-from-requires-clause-row
found_states-from-requires-clause-row c =
    let mover = from_first c.loop-process.invariant.0 c.in-Some.ensures.steps in
    let less = rest_less c.args.subset c.in-Some.process c.without-rest.result (without_less c.args.subset c.in-Some.process c.without-rest.result mover.0 c.without-rest.ensures) in
    c.requires.rows.before.same c.without-rest.result less
    (rest_packed c.args.setting.now.links c.args.subset c.in-Some.process c.without-rest.result c.requires.rows.packed mover c.without-rest.ensures)

pub found_states-from-requires-clause-known : goal.found_states-from-requires-clause-known
found_states-from-requires-clause-known c =
    let mover = from_first c.loop-process.invariant.0 c.in-Some.ensures.steps in
    let less = rest_less c.args.subset c.in-Some.process c.without-rest.result (without_less c.args.subset c.in-Some.process c.without-rest.result mover.0 c.without-rest.ensures) in
    c.requires.rows.before.known c.without-rest.result less
    (rest_packed c.args.setting.now.links c.args.subset c.in-Some.process c.without-rest.result c.requires.rows.packed mover c.without-rest.ensures)

pub operation_of-requires : goal.operation_of-requires
operation_of-requires c =
    member_below (length c.args.setting.now.choice.now.operations) c.args.subset c.in-Some.process c.requires.rows.inside (from_first c.loop-process.invariant.0 c.in-Some.ensures.steps).0

pub loop-process-preserved : goal.loop-process-preserved
loop-process-preserved c =
    let s = c.args.setting.now in
    let t = s.table.now in
    let i = c.loop-process.invariant in (
      row_more t s.choice.now s.team s.links c.args.subset c.loop-process.process-iterator c.next.new.self c.in-Some.process c.loop-process.set c.union-set.result
          c.without-rest.result c.found_states-from.result c.image-moved.result
          c.in-Some.ensures.steps i.0 c.without-rest.ensures c.found_states-from.ensures.same
          (subst (λ (o : ℕ). (q : ℕ) → IsBitSet c.image-moved.result q ↔ ((x : ℕ) × IsBitSet c.found_states-from.result x × ((transition t o x).1 ≡ q))) c.operation_of.ensures
          c.image-moved.ensures.same)
          c.union-set.ensures,
      λ q b. elim ((c.union-set.ensures q).0 b) [ inl a ↦ i.1 q a | inr m ↦ c.image-moved.ensures.known q m ],
    )

pub returns-clause-same : goal.returns-clause-same
returns-clause-same c =
    let s = c.args.setting.now in
    row_all s.table.now s.choice.now s.team s.links c.requires.setting.linked c.args.subset c.loop-process.process-iterator c.loop-process.set c.in-None.ensures.steps.0
    (omega (arith, c.requires.rows.small)) c.requires.rows.inside c.loop-process.invariant.0
