use Rattle.std.proofs.Common.{arith}
use Rattle.cn_tree_plans.specs.Plan.{tree_of}
use Rattle.cn_tree_plans.proofs.PlanLemmas.{few_nodes, place_is, steps_next}
use Rattle.cn_tree_plans.proofs.plan.TreePlan.steps.Goals as goal

pub overflow_add-steps : goal.overflow_add-steps
overflow_add-steps c =
    let few = few_nodes c.args.self.now c.is_plan.ensures in
    let most = c.loop-place.invariant.most in
    let range = c.path-place-items.ensures.range.1 in
    omega arith

pub loop-place-preserved : goal.loop-place-preserved
loop-place-preserved c =
    let i = c.loop-place.invariant in
    let least = i.least in
    let most = i.most in
    let exact = i.exact in
    let next = steps_next (tree_of c.args.self.now) c.args.process c.loop-place.place-index _ c.steps_at-steps.result
    (place_is (tree_of c.args.self.now) c.args.process c.path-place-items.result.now c.path-place-items.ensures.places c.loop-place.place-index (record { node = 0; team = 0 }) c.loop-place-test.true)
    (c.steps_at-steps.ensures.number c.args.process) in
    record {
      exact = omega arith;
      least = omega arith;
      most = omega arith;
    }

pub returns-clause-range : goal.returns-clause-range
returns-clause-range c =
    let few = few_nodes c.args.self.now c.is_plan.ensures in
    let least = c.loop-place.invariant.least in
    let most = c.loop-place.invariant.most in
    let some = c.path-place-items.ensures.range.0 in
    let range = c.path-place-items.ensures.range.1 in
    (omega arith, omega arith)
