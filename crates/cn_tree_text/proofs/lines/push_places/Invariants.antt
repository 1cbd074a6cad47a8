use Rattle.std.proofs.Common.{◌≡◌, ◌++◌, codes, flat_map, map, string_bytes, take}
use Rattle.cn_tree_plans.specs.Paths.{places_of}
use Rattle.cn_tree_text.specs.Text.{place_text}
use Rattle.cn_tree_text.proofs.lines.push_places.Given as goal

-- the places so far, each after a comma and a space
abbrev pub invariant-loop-place : goal.invariant-loop-place
invariant-loop-place l = string_bytes l.text ≡ string_bytes l.initial.text ++ flat_map (λ t. codes ", " ++ t) (map place_text (places_of (take l.place-index l.rest)))
