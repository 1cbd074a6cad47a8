use Rattle.std.proofs.Common.{ℕ, ◌*◌, length, refl, ap, ◌∙◌, arith}
use Rattle.cn_meetings.specs.Choices.{choice_meeting, choice_processes, choice_team}
use Rattle.cn_trees.specs.Seats.{pair_role, pair_room, tournament_teams, tournament_tree}
use Rattle.cn_trees.proofs.Tournaments.{pair_roles, paths_are, seated_witnesses, tournament_is, tournament_of}
use Rattle.cn_trees.proofs.laws.tournaments_are_trees_of_witnesses.Goals as goal

pub returns-clause-one_witness : goal.returns-clause-one_witness
returns-clause-one_witness c = λ t s M processes team room role roles fits witness. seated_witnesses c.witnesses_are_kept.ensures.other_names t s M processes team room role roles fits witness

pub returns-clause-tournament : goal.returns-clause-tournament
returns-clause-tournament c = λ t d la lb witness.
    seated_witnesses c.witnesses_are_kept.ensures.other_names t (tournament_teams (length d.a) (length d.b)) (choice_meeting d) (choice_processes d) (choice_team d)
    (pair_room (length d.a) (length d.b)) (pair_role (length d.a)) (pair_roles (length d.a) (length d.b)) (tournament_is (length d.a) (length d.b) la lb).0
    (c.witnesses_of_choices.ensures t d witness)

pub returns-clause-processes : goal.returns-clause-processes
returns-clause-processes c = λ t d la lb. (tournament_is (length d.a) (length d.b) la lb).1

pub returns-clause-levels : goal.returns-clause-levels
returns-clause-levels c = λ a b la lb. (tournament_is a b la lb).2

pub returns-clause-paths : goal.returns-clause-paths
returns-clause-paths c = λ t d p la lb lp. paths_are (length d.a) (length d.b) p la lb lp

pub returns-clause-of_type : goal.returns-clause-of_type
returns-clause-of_type c = λ t n d la lb is. tournament_of t n d c.witnesses_are_kept.ensures.other_names la lb is

pub returns-clause-steps : goal.returns-clause-steps
returns-clause-steps c = λ t d p la lb lp.
    c.steps_of_plan_trees.ensures.four (tournament_tree t d) p (λ node. refl) ∙ ap (λ (n : ℕ). 4 * n) (paths_are (length d.a) (length d.b) p la lb lp)

pub returns-clause-bound : goal.returns-clause-bound
returns-clause-bound c = λ t d p la lb. (
    let m = c.steps_of_plan_trees.ensures.most (tournament_tree t d) p in
    let l = c.steps_of_plan_trees.ensures.levels (tournament_tree t d) p in
    let n = (tournament_is (length d.a) (length d.b) la lb).2 in omega arith)
