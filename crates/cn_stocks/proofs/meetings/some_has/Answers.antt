use Rattle.std.proofs.Common.{arith, rules}
use Rattle.std.specs.Prelude.{IsBitSet}
use Rattle.cn_outcomes.proofs.LastProcess.{zero_has_none}
use Rattle.cn_stocks.specs.Meetings.{HasAt}
use Rattle.cn_stocks.proofs.MeetingLemmas.{one_more, place_within}
use Rattle.cn_stocks.proofs.meetings.some_has.Goals as goal

pub loop-operation-init : goal.loop-operation-init
loop-operation-init c = record {
  long = search rules;
  all_is = λ q. (λ h. absurd (zero_has_none q h), λ f. absurd (omega (arith, f.1)));
}

pub loop-operation-preserved : goal.loop-operation-preserved
loop-operation-preserved c = record {
  long = c.loop-operation.invariant.long;
  all_is = λ q. one_more (λ f. HasAt c.args.sets.now f q) c.loop-operation.operation (IsBitSet c.loop-operation.all q) (IsBitSet c.union-all.result q)
      (c.loop-operation.invariant.all_is q) (c.union-all.ensures q);
}

pub returns : goal.returns
returns c =
    let i = c.loop-operation.invariant in (
      λ h. (let f = (i.all_is c.args.state).0 (c.contains.ensures.0 h) in (f.0, f.2)),
      λ f. c.contains.ensures.1 ((i.all_is c.args.state).1 (f.0, omega (arith, place_within 8 c.args.sets.now f.0 c.args.state i.long f.1, c.loop-operation-test.false), f.1)),
    )
