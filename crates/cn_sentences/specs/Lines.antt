-- Whole lines.
use Rattle.std.specs.Prelude.{ℕ, List, [], ◌++◌, codes}
use Rattle.std.specs.Fmt.{decimal}
use Rattle.cn_choice.specs.TeamNames.{team_name}
use Rattle.cn_reasons.specs.declared.recording.Reader.{Reader}

-- why a number is at least 1
abbrev pub alone_line : List ℕ
alone_line = codes "One process alone agrees with itself, so the number is at least 1.\n"

-- that a search had a limit
unfoldable pub limit_line : ℕ → List ℕ
limit_line limit =
    codes "More than " ++ (decimal limit ++ (codes " processes were not looked for.\n" ++ []))

-- what the process does that is alone in its team
unfoldable pub reader_line : Reader → List ℕ
reader_line r =
    codes "p" ++ (decimal r.process ++ (codes ", alone in team " ++ (team_name r.team
    ++ (codes ", reads the register of team " ++ (team_name r.other
    ++ (codes " before it moves.\n" ++ []))))))
