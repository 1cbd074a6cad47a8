use Rattle.std.proofs.Common.{◌∙◌, arith, below_more, sym, true≢false}
use Rattle.cn_stock_check.proofs.SeenLemmas.{asked_known}
use Rattle.cn_stock_check.proofs.seen.teams_meet.Goals as goal

pub loop-asked-preserved : goal.loop-asked-preserved
loop-asked-preserved c = below_more _ _ c.loop-asked.invariant (λ m. true≢false (sym (c.in_ok-meet.ensures.1 m) ∙ c.if-meet.false))

pub returns : goal.returns
returns c = (
  λ f. absurd (true≢false (sym f)),
  λ m. absurd (c.loop-asked.invariant m.0 (let l = asked_known c.args.table.now c.args.start.0 c.args.teams.now.a.now c.args.counts m.0 m.1.0 m.1.1 c.requires.counts m.1.2 in omega (arith, l, c.operations-asked-end.ensures.number, c.loop-asked-test.false)) m.1),
)
