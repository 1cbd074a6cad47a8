use Rattle.std.proofs.Common.{◌≡◌, ◌≤◌, ◌-◌, ◌==◌, ℕ, Bool, true, false, arith, ◌∙◌}
use Rattle.std.proofs.lemmas.Bool.Decides.{nat_tests}
use Rattle.cn_trees.specs.Tree.{team_in}
use Rattle.cn_json.proofs.Counts.{count_elsewhere, count_few, count_here}
use Rattle.cn_json.proofs.tree_plan.team_size.Goals.{else-team, then-team}
use Rattle.cn_json.proofs.tree_plan.team_size.Goals as goal

pub overflow_add-size : goal.overflow_add-size
overflow_add-size c =
    let few = count_few (λ p. team_in c.args.plan.now.teams c.args.node p == c.args.team) c.first-first.result (c.loop-process.process - c.first-first.result) in
    omega (arith, few, c.loop-process.invariant, c.loop-process-test.true, c.processes-most.ensures.number, c.processes-most.ensures.range.1, c.size.ensures.range.1, c.first-first.ensures)

pub loop-process-preserved : goal.loop-process-preserved
loop-process-preserved c =
    let f : ℕ → Bool = λ p. team_in c.args.plan.now.teams c.args.node p == c.args.team in
    let process = c.loop-process.process in
    let behind : c.first-first.result ≤ process = omega (arith, c.loop-process.auto.process) in
    elim c.if-team.branch [
      | then-team w ↦
          let here : f process ≡ true = grind (arith, nat_tests, w.if-team, c.team.ensures.number) in
          w.size-is ∙ count_here f c.first-first.result process c.loop-process.size behind here c.loop-process.invariant
      | else-team w ↦
          let elsewhere : f process ≡ false = grind (arith, nat_tests, w.if-team, c.team.ensures.number) in
          w.size-is ∙ count_elsewhere f c.first-first.result process c.loop-process.size behind elsewhere c.loop-process.invariant
    ]
