use Rattle.std.proofs.Common.{◌-◌, ◌^◌, ◌∙◌, inl, inr, length, refl, sym, true≢false}
use Rattle.std.specs.Prelude.{IsBitSet}
use Rattle.std.specs.Int.Bits.{bit_or}
use Rattle.cn_choice.specs.Moves.{answer_of, next_of}
use Rattle.cn_collisions.specs.Ways.{seen_after}
use Rattle.cn_collisions.proofs.WayLemmas.{dead_closed, dead_here, dead_more, no_way, no_way_left, tried_more, tried_next}
use Rattle.cn_collisions.proofs.ways.first_step.Goals as goal

pub loop-process-preserved-then-not-is_open : goal.loop-process-preserved-then-not-is_open
loop-process-preserved-then-not-is_open c =
    let a = c.args in
    let t = a.view.now.sets.now.table.now in
    let raw = a.view.now.raw.now in
    let j = a.view.now.process in
    let set = a.target.now in
    let p = c.loop-process.process in
    let i = c.loop-process.invariant in
    let here = dead_closed t raw j set a.left a.low a.high a.prefix.used a.prefix.state.0 a.prefix.seen p c.loop-process-test.true i.dead
    (elim (c.if-not-is_open.ensures.closed refl) [ inl u ↦ inl u | inr r ↦ inr (r.0, i.tried _ r.1) ]) in
    record {
      dead = dead_more t raw j set a.left a.low a.high a.prefix.used a.prefix.state.0 a.prefix.seen p i.dead here;
      tried = λ o s. tried_more raw j a.low p a.prefix.used o (i.tried o s);
    }

pub loop-process-preserved : goal.loop-process-preserved
loop-process-preserved c =
    let a = c.args in
    let t = a.view.now.sets.now.table.now in
    let raw = a.view.now.raw.now in
    let j = a.view.now.process in
    let set = a.target.now in
    let p = c.loop-process.process in
    let i = c.loop-process.invariant in
    let next = c.after-next.ensures in
    let free : ¬ IsBitSet a.prefix.used p = λ u. c.if-not-is_open.ensures.open refl (inl u) in
    let leads = rw (next.used, next.state, next.seen) at c.leads_into.ensures.1 in
    let none = no_way t raw j set (a.left - 1) (length raw.operations) (bit_or a.prefix.used (2 ^ p)) (next_of t raw p a.prefix.state.0)
    (seen_after j p (answer_of t raw p a.prefix.state.0) a.prefix.seen) refl
    (λ h. true≢false (sym (leads h) ∙ c.if-leads_into.false)) in
    let here = dead_here t raw j set a.left a.low a.high a.prefix.used a.prefix.state.0 a.prefix.seen p (length raw.operations) refl c.requires.some none in
    record {
      dead = dead_more t raw j set a.left a.low a.high a.prefix.used a.prefix.state.0 a.prefix.seen p i.dead here;
      tried = tried_next raw j a.low p a.prefix.used c.loop-process.tried c.tried_after-tried.result c.loop-process.auto.process free i.tried (λ o s. (c.tried_after-tried.ensures o).0 s);
    }

pub returns-clause-none : goal.returns-clause-none
returns-clause-none c =
    let a = c.args in
    let v = a.view.now in
    no_way_left v.sets.now.table.now v.raw.now v.process a.target.now a.left a.low a.high a.prefix.used a.prefix.state.0 a.prefix.seen c.loop-process.process c.requires.some
    c.loop-process-test.false c.loop-process.invariant.dead
