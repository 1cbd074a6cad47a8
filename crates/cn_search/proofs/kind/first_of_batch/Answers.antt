use Rattle.std.proofs.Common.{arith, sym, ◌∙◌}
use Rattle.cn_search.proofs.Batches.{join_done, join_found, join_on, join_start, nil_from_length}
use Rattle.cn_search.proofs.kind.first_of_batch.Goals as goal

pub loop-witness-init : goal.loop-witness-init
loop-witness-init g c = rw c.into_iter-witness-iterator.ensures.into_iter_gives.0 (join_start c.args.table.now (g.K.Kind.holds c.args.table.now) c.args.blocks.now _ c.in_ok-witness-items.ensures)

pub returns-then-is_some : goal.returns-then-is_some
returns-then-is_some g c = join_found c.args.table.now (g.K.Kind.holds c.args.table.now) c.args.blocks.now _ _ c.in-Some.witness c.loop-witness.invariant c.in-Some.ensures.steps.0
    (sym c.is_some.ensures ∙ c.if-is_some.true)

pub loop-witness-preserved : goal.loop-witness-preserved
loop-witness-preserved g c = join_on c.args.table.now (g.K.Kind.holds c.args.table.now) c.args.blocks.now _ _ c.in-Some.witness c.loop-witness.invariant c.in-Some.ensures.steps.0
    (sym c.is_some.ensures ∙ c.if-is_some.false)

pub returns : goal.returns
returns g c = join_done c.args.table.now (g.K.Kind.holds c.args.table.now) c.args.blocks.now _ c.loop-witness.invariant
    (nil_from_length _ (omega (arith, c.in-None.ensures.steps.0, c.loop-witness.witness-iterator.rest.ok.0)))
