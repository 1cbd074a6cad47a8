use Rattle.std.proofs.Common.{◌≡◌, ◌++◌, drop, map}
use Rattle.toml.specs.View.{view}
use Rattle.cn_flaws.specs.Flaws.{flaws_view, each, item_flaws}
use Rattle.cn_flaws.proofs.document_flaws.push_items_flaws.Given as goal

-- the flaws so far and those of the rest are all flaws
abbrev pub invariant-loop-i : goal.invariant-loop-i
invariant-loop-i l =
    flaws_view l.flaws ++ each (item_flaws l.flaw_class) l.i (map view (drop l.i l.values)) ≡ flaws_view l.initial.flaws ++ each (item_flaws l.flaw_class) 0 (map view l.values)
