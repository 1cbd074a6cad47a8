use Rattle.cn_check.proofs.choice.is_choice_for.Goals as goal

pub returns-then-has_processes : goal.returns-then-has_processes
returns-then-has_processes c = (
  λ h.
      let known = c.is_of_table.ensures.0 h in
      let teams = c.has_processes.ensures.0 c.if-has_processes.true in
      (c.choice_by_teams.ensures c.args.table.now c.args.n c.args.choice.now).1
      (record { known_state = known.0; a_known = known.1; b_known = known.2; someone_in_a = teams.0; someone_in_b = teams.1; all = teams.2 }),
  λ is. let parts = (c.choice_by_teams.ensures c.args.table.now c.args.n c.args.choice.now).0 is in c.is_of_table.ensures.1 (parts.known_state, parts.a_known, parts.b_known),
)
