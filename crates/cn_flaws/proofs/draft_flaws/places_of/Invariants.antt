use Rattle.std.proofs.Common.{◌≡◌, ◌++◌, drop, map, string_bytes}
use Rattle.cn_flaws.specs.Flaws.{places_of}
use Rattle.cn_flaws.proofs.draft_flaws.places_of.Given as goal

-- the places so far and those of the rest are all places
abbrev pub invariant-loop-i : goal.invariant-loop-i
invariant-loop-i l = l.places.items ++ places_of l.name l.i (map (λ s. string_bytes s) (drop l.i l.names)) ≡ places_of l.name 0 (map (λ s. string_bytes s) l.names)
