use Rattle.std.proofs.Common.{◌≡◌, ◌++◌, map, string_bytes}
use Rattle.toml.specs.View.{table_view}
use Rattle.cn_table.specs.Document.{keys_in}
use Rattle.cn_flaws.specs.Flaws.{flaws_view, other_keys}
use Rattle.cn_flaws.proofs.document_flaws.push_other_keys.Given as goal

-- the flaws so far and those of the rest are all flaws
abbrev pub invariant-loop-key : goal.invariant-loop-key
invariant-loop-key l =
    flaws_view l.flaws ++ other_keys l.holder l.before l.after (map (λ k. k.now) l.known) (map (λ k. string_bytes k) l.key-iterator)
    ≡ flaws_view l.initial.flaws ++ other_keys l.holder l.before l.after (map (λ k. k.now) l.known) (keys_in (table_view l.table))
