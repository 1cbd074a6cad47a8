use Rattle.std.proofs.Common.{◌<◌, ◌≤◌, arith, inl, length, refl}
use Rattle.cn_outcomes.proofs.LastProcess.{zero_has_none}
use Rattle.cn_stocks.specs.Pairs.{Has}
use Rattle.cn_choice.specs.TeamOrders.{team_from}
use Rattle.cn_collisions.proofs.FirstOrders.{outcome_way, team_in, team_rises, way_outcome}
use Rattle.cn_collisions.proofs.Gathering.{below_more}
use Rattle.cn_collisions.proofs.OutcomeLemmas.{Begins, EndsWith, passed_begins, passed_below, step_begins}
use Rattle.cn_collisions.proofs.WayLemmas.{tried_more, tried_next}
use Rattle.cn_collisions.proofs.orders.outcomes.Goals as goal

pub loop-process-init : goal.loop-process-init
loop-process-init c = record {
  pairs = λ r q. (λ h. absurd (c.none-pairs.ensures r q h), λ h. absurd (omega (arith, h.1, h.2.0, c.bounds-low.ensures.low)));
  tried = λ o s. absurd (zero_has_none o s);
}

pub loop-process-preserved-then-not-is_open : goal.loop-process-preserved-then-not-is_open
loop-process-preserved-then-not-is_open c =
    let a = c.args.asked.now in
    let v = a.view in
    let is = c.requires.asked in
    let low = team_from a.choice.now c.args.team in
    let p = c.loop-process.process in
    let i = c.loop-process.invariant in
    let inside : p < length v.raw.now.operations = omega (arith, c.loop-process-test.true, c.bounds-low.ensures.high, team_in a.choice.now v.raw.now is.same c.args.team) in
    record {
      pairs = λ r q. passed_below v low r q a.start is.start p (Has c.loop-process.pairs r q)
          (passed_begins v low r q a.start is.start p c.loop-process.tried i.tried (c.if-not-is_open.ensures.closed refl) inside) (i.pairs r q);
      tried = λ o s. tried_more v.raw.now v.process low p a.start.used o (i.tried o s);
    }

pub loop-process-preserved : goal.loop-process-preserved
loop-process-preserved c =
    let a = c.args.asked.now in
    let v = a.view in
    let is = c.requires.asked in
    let low = team_from a.choice.now c.args.team in
    let p = c.loop-process.process in
    let i = c.loop-process.invariant in
    let next = c.after-next.ensures in
    let from : low ≤ p = omega (arith, c.loop-process.auto.process, c.bounds-low.ensures.low) in
    record {
      pairs = λ r q. below_more (Begins v low r q) p (Has c.loop-process.pairs r q) (EndsWith v low r q c.after-next.result) (Has c.add_pairs_of_ways.new.pairs r q) (i.pairs r q)
          (c.add_pairs_of_ways.ensures r q) (step_begins v low r q a.start is.start p from c.after-next.result next.used next.state next.seen);
      tried = tried_next v.raw.now v.process low p a.start.used c.loop-process.tried c.tried_after-tried.result from (λ u. c.if-not-is_open.ensures.open refl (inl u)) i.tried
          (λ o s. (c.tried_after-tried.ensures o).0 s);
    }

pub returns : goal.returns
returns c r q =
    let a = c.args.asked.now in
    let v = a.view in
    let t = v.sets.now.table.now in
    let raw = v.raw.now in
    let is = c.requires.asked in
    let team = c.args.team in
    let rises : c.bounds-low.result.0 ≤ c.bounds-low.result.1 = omega (arith, c.bounds-low.ensures.low, c.bounds-low.ensures.high, team_rises a.choice.now team) in
    let i = c.loop-process.invariant.pairs r q in (
      λ h. (let k = i.0 h in
          way_outcome t a.choice.now raw is.same team v.process k.0 r q k.2.0 (omega (arith, k.1, c.bounds-low.ensures.high, c.loop-process.auto.process-end rises)) k.2.1),
      λ h. (let x = outcome_way t a.choice.now raw is.same team v.process r q h in
          i.1 (x.0, omega (arith, x.2, c.bounds-low.ensures.high, c.loop-process-test.false), (x.1, x.3))),
    )
