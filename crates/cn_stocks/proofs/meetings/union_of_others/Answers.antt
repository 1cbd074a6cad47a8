use Rattle.std.proofs.Common.{arith, rules}
use Rattle.cn_outcomes.proofs.LastProcess.{zero_has_none}
use Rattle.cn_stocks.proofs.MeetingLemmas.{place_within}
use Rattle.cn_stocks.proofs.meetings.union_of_others.Goals as goal

pub loop-other-init : goal.loop-other-init
loop-other-init c = record {
  long = search rules;
  others_is = λ q. (λ h. absurd (zero_has_none q h), λ g. absurd (omega (arith, g.1)));
}

pub returns : goal.returns
returns c q =
    let i = c.loop-other.invariant in (
      λ h. (let g = (i.others_is q).0 h in (g.0, g.2, g.3)),
      λ g. (i.others_is q).1 (g.0, omega (arith, place_within 8 c.args.sets.now g.0 q i.long g.2, c.loop-other-test.false), g.1, g.2),
    )
