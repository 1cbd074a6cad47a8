use Rattle.std.proofs.Common.{◌≡◌, ◌++◌, drop, map, string_bytes}
use Rattle.cn_flaws.specs.Flaws.{flaws_view, each, repeat_at}
use Rattle.cn_flaws.proofs.draft_flaws.push_repeats.Given as goal

-- the flaws so far and those of the rest are all flaws
abbrev pub invariant-loop-i : goal.invariant-loop-i
invariant-loop-i l =
    let find = repeat_at l.list (map (λ s. string_bytes s) l.names) in
    flaws_view l.flaws ++ each find l.i (map (λ s. string_bytes s) (drop l.i l.names)) ≡ flaws_view l.initial.flaws ++ each find 0 (map (λ s. string_bytes s) l.names)
