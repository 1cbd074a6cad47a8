use Rattle.std.proofs.Common.{arith}
use Rattle.cn_tree_plans.proofs.ListingLemmas.{AreListed-end, AreListed-push, AreListed-without}
use Rattle.cn_tree_plans.proofs.shown.push_entries.Goals as goal
use Rattle.cn_tree_plans.proofs.shown.push_entries.Goals.{in-None, in-Some+in_ok-push-in-Some}

pub loop-saw-preserved : goal.loop-saw-preserved
loop-saw-preserved c =
    elim c.match-team_of.branch [
      | in-Some+in_ok-push-in-Some w ↦ rw (w.judged-is, w.in_ok-push-in-Some.ensures.items) (AreListed-push _ _ _ _ _ c.loop-saw.invariant _ w.in-Some.ensures.some.0 w.in-Some.ensures.some.1 c.loop-saw-test.true c.requires.apart)
      | in-None w ↦ rw w.judged-is (AreListed-without _ _ _ _ _ c.loop-saw.invariant w.in-None.ensures.none)
    ]

pub returns : goal.returns
returns c = AreListed-end _ _ _ _ _ (omega (arith, c.loop-saw-test.false, c.loop-saw.auto.saw-end)) c.loop-saw.invariant
