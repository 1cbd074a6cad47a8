use Rattle.std.proofs.Common.{◌≡◌, ◌≤◌, ◌+◌, drop}
use Rattle.cn_flaws.specs.FlawText.{place_after}
use Rattle.cn_flaws.proofs.flaw_text.place_after.Given as goal

-- the rest of the bytes goes on from this line and column
abbrev pub invariant-loop-b : goal.invariant-loop-b
invariant-loop-b l = record {
  rest : place_after l.line l.column (drop l.b-index l.before) ≡ place_after 1 1 l.before;
  line : l.line ≤ l.b-index + 1;
  column : l.column ≤ l.b-index + 1;
}
