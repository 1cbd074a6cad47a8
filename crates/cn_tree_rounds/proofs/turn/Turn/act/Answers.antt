use Rattle.std.proofs.Common.{ℕ, ap, sym, ◌∙◌}
use Rattle.cn_trees.specs.Steps.{Local}
use Rattle.cn_trees.specs.Steps.Local.{Active}
use Rattle.cn_trees.specs.Steps.Stage.{Take}
use Rattle.cn_tree_plans.specs.Paths.{place_of}
use Rattle.cn_tree_plans.specs.Plan.{tree_of}
use Rattle.cn_tree_rounds.specs.Turns.{local_at}
use Rattle.cn_tree_rounds.specs.Worlds.{local_of, stage_of}
use Rattle.cn_tree_rounds.specs.declared.local.Stage.{Stage}
use Rattle.cn_tree_rounds.proofs.TeamCounts.{few_teams}
use Rattle.cn_tree_rounds.proofs.turn.Turn.act.Goals as goal

pub write-requires : goal.write-requires
write-requires c = few_teams c.args.plan.now c.tree_plans_are_right.ensures.plan c.args.self.here.node c.args.self.here.team c.requires.turn.known.inside

pub register-requires : goal.register-requires
register-requires c = few_teams c.args.plan.now c.tree_plans_are_right.ensures.plan c.args.self.here.node c.judge-first.result c.judge-first.ensures.range

pub returns-in-Look-clause-local : goal.returns-in-Look-clause-local
returns-in-Look-clause-local c =
    let turn = c.args.self in
    let after : ℕ → Local ℕ = λ saw. Active turn.place turn.value (Take c.in-Look.response.0 saw) in
    ap local_of c.goes_on-in-Look.ensures ∙ ap after (sym (c.see-saw.ensures.value turn.process))
    ∙ sym (ap (λ (s : Stage). local_at (tree_of c.args.plan.now) turn.process turn.place (place_of turn.here) turn.value (stage_of s) c.args.node.now) c.in-Look.is)
