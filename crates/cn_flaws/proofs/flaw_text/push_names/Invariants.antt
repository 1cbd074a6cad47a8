use Rattle.std.proofs.Common.{◌≡◌, ◌++◌, codes, flat_map, map, string_bytes, take}
use Rattle.cn_flaws.proofs.flaw_text.push_names.Given as goal

-- the names so far, each after a comma and a space
abbrev pub invariant-loop-name : goal.invariant-loop-name
invariant-loop-name l =
    string_bytes l.text ≡ string_bytes l.initial.text ++ flat_map (λ t. codes ", " ++ t) (map (λ s. string_bytes s) (take l.name-index l.rest))
