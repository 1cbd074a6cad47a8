use Rattle.std.proofs.Common.{◌≡◌, ◌++◌, drop, string_bytes}
use Rattle.cn_text.specs.Plays.{play_text}
use Rattle.cn_text.specs.Ways.{numbered}
use Rattle.cn_text.proofs.plays.push_plays.Given as goal

-- the plays so far, and the others
abbrev pub invariant-loop-place : goal.invariant-loop-place
invariant-loop-place l = string_bytes l.text ++ numbered (play_text l.table) l.place (drop l.place l.plays) ≡ string_bytes l.initial.text ++ numbered (play_text l.table) 0 l.plays
