use Rattle.std.proofs.Common.{◌≡◌, ◌++◌, drop, map, string_bytes}
use Rattle.cn_flaws.specs.FlawPath.{name_path}
use Rattle.cn_flaws.specs.Flaws.{flaws_view, each, list_word, bad_name, bad_names}
use Rattle.cn_flaws.proofs.draft_flaws.push_bad_names.Given as goal

-- the flaws so far and those of the rest are all flaws
abbrev pub invariant-loop-i : goal.invariant-loop-i
invariant-loop-i l =
    flaws_view l.flaws ++ each (λ i. bad_name (name_path l.list i) (list_word l.list)) l.i (map (λ s. string_bytes s) (drop l.i l.names))
    ≡ flaws_view l.initial.flaws ++ bad_names l.list (map (λ s. string_bytes s) l.names)
