-- The names of the teams.
use Rattle.std.specs.Prelude.{ℕ, List, codes}
use Rattle.cn_choice.specs.declared.team.Team.{Team}
use Rattle.cn_choice.specs.declared.team.Team.TheVariants.{A, B}

abbrev pub team_name : Team → List ℕ
team_name A = codes "A"
team_name B = codes "B"
