use Rattle.std.proofs.Common.{◌≡◌, ◌++◌, flat_map, string_bytes, take}
use Rattle.cn_sentences.specs.Changes.{raise_line}
use Rattle.cn_sentences.proofs.changes.push_each_raise.Given as goal

-- the lines so far
abbrev pub invariant-loop-raise : goal.invariant-loop-raise
invariant-loop-raise l =
    string_bytes l.text ≡ string_bytes l.initial.text ++ flat_map (raise_line l.mark l.table) (take l.raise-index l.raises)
