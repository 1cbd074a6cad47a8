use Rattle.std.proofs.Common.{◌≡◌, map, string_bytes, take}
use Rattle.cn_flaws.specs.Flaws.{flaw_view}
use Rattle.cn_app.specs.Commands.Lint.{flaw_lines}
use Rattle.cn_app.proofs.reports.lint.lines_of.Given as goal

-- the lines so far
abbrev pub invariant-loop-flaw : goal.invariant-loop-flaw
invariant-loop-flaw l = string_bytes l.lines ≡ flaw_lines (map flaw_view (take l.flaw-index l.flaws))
