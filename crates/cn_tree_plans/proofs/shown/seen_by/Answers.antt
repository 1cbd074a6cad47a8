use Rattle.std.proofs.Common.{arith}
use Rattle.cn_meetings.specs.Meeting.{sees}
use Rattle.cn_meetings.specs.Sights.{sight_of}
use Rattle.cn_tree_plans.proofs.ShownLemmas.{seen_next}
use Rattle.cn_tree_plans.proofs.shown.seen_by.Goals as goal

pub add_seen-requires-clause-known : goal.add_seen-requires-clause-known
add_seen-requires-clause-known c = λ r h.
    let known = (c.requires.known r c.loop-state.state h).0 in omega (arith, c.responses-responses.ensures.number)

pub loop-state-preserved : goal.loop-state-preserved
loop-state-preserved c =
    seen_next c.args.set.now _ _ (sees c.args.table.now (sight_of c.args.sight)) c.loop-state.state c.see-saw.result c.see-saw.ensures.value c.loop-state.invariant c.add_seen.ensures

pub returns : goal.returns
returns c = λ r saw. (
  λ h. (let e = (c.loop-state.invariant r saw).0 h in (e.0, e.2, e.3)),
  λ h. (let known = (c.requires.known r h.0 h.1).1 in
      (c.loop-state.invariant r saw).1 (h.0, omega (arith, c.loop-state-test.false, c.loop-state.auto.state-end, c.states-state-end.ensures.number), h.1, h.2)),
)
