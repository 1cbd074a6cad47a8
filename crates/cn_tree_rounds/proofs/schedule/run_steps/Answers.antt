use Rattle.std.proofs.Common.{ℕ, List, Option, ap, sym, subst, ◌∙◌}
use Rattle.cn_agree.proofs.Running.{no_stranger, right_count}
use Rattle.cn_trees.specs.Steps.{after_schedule}
use Rattle.cn_trees.specs.Tree.{processes_of}
use Rattle.cn_tree_plans.specs.Plan.{tree_of}
use Rattle.cn_tree_rounds.specs.Actions.{records_from}
use Rattle.cn_tree_rounds.specs.Consensus.{IsConsensus}
use Rattle.cn_tree_rounds.specs.Schedules.{decisions_of}
use Rattle.cn_tree_rounds.proofs.Deciding.{decisions_are}
use Rattle.cn_tree_rounds.proofs.schedule.run_steps.Goals as goal

pub record_all-requires-clause-schedule : goal.record_all-requires-clause-schedule
record_all-requires-clause-schedule c = no_stranger (processes_of (tree_of c.args.plan.now)) c.args.inputs.now c.args.schedule.now c.in_ok-world.ensures.run

pub returns-clause-decisions : goal.returns-clause-decisions
returns-clause-decisions c =
    let n : ℕ = processes_of (tree_of c.args.plan.now) in
    c.in_ok-decisions.ensures ∙ decisions_are c.args.plan.now c.record_all.new.world.nodes.items c.record_all.new.world.locals.items n c.in_ok-records.ensures.of_plan.process_count
    ∙ ap (decisions_of n) (c.in_ok-records.ensures.world ∙ ap (after_schedule (tree_of c.args.plan.now) c.args.schedule.now) c.in_ok-world.ensures.world)

pub returns-clause-consensus : goal.returns-clause-consensus
returns-clause-consensus c =
    let n : ℕ = processes_of (tree_of c.args.plan.now) in
    let none = c.in_ok-world.ensures.run in
    let Q : List (Option ℕ) → Type 0 = IsConsensus c.args.plan.now c.args.inputs.now c.args.schedule.now in
    subst Q (sym (returns-clause-decisions c))
    (c.schedules_agree.ensures c.args.plan.now c.tree_plans_are_right.ensures.right c.args.inputs.now c.args.schedule.now (right_count n c.args.inputs.now c.args.schedule.now none)
    (no_stranger n c.args.inputs.now c.args.schedule.now none))

pub returns-clause-records : goal.returns-clause-records
returns-clause-records c = c.in_ok-records.ensures.records ∙ ap (records_from (tree_of c.args.plan.now) c.args.schedule.now) c.in_ok-world.ensures.world
