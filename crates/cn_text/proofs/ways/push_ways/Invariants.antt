use Rattle.std.proofs.Common.{◌≡◌, ◌++◌, List, ℕ, drop, string_bytes}
use Rattle.cn_text.specs.Folded.{folded}
use Rattle.cn_text.specs.Ways.{numbered, way_text}
use Rattle.cn_text.proofs.ways.push_ways.Given as goal

-- the ways so far, and the others
abbrev pub invariant-loop-place : goal.invariant-loop-place
invariant-loop-place l =
    (rest : List ℕ) → string_bytes l.text ++ folded (string_bytes l.lines ++ (numbered (way_text l.table) l.place (drop l.place l.ways) ++ rest))
    ≡ string_bytes l.initial.text ++ folded (string_bytes l.initial.lines ++ (numbered (way_text l.table) 0 l.ways ++ rest))
