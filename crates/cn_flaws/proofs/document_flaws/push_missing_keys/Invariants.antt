use Rattle.std.proofs.Common.{◌≡◌, ◌++◌, map, take}
use Rattle.toml.specs.View.{table_view}
use Rattle.cn_flaws.specs.Flaws.{flaws_view, missing_keys}
use Rattle.cn_flaws.proofs.document_flaws.push_missing_keys.Given as goal

abbrev pub invariant-loop-key : goal.invariant-loop-key
invariant-loop-key l =
    flaws_view l.flaws ≡ flaws_view l.initial.flaws ++ missing_keys l.holder l.place (map (λ k. k.now) (take l.key-index l.known)) (table_view l.table)
