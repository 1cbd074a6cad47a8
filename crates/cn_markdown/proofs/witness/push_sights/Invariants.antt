use Rattle.std.proofs.Common.{◌≡◌, ◌++◌, string_bytes, take}
use Rattle.cn_markdown.specs.Witness.{sights}
use Rattle.cn_markdown.proofs.witness.push_sights.Given as goal

-- what is written so far
abbrev pub invariant-loop-sight : goal.invariant-loop-sight
invariant-loop-sight l = string_bytes l.text ≡ string_bytes l.initial.text ++ sights l.table (take l.sight-index l.seen)
