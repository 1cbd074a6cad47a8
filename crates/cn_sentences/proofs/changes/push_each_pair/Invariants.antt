use Rattle.std.proofs.Common.{◌≡◌, ◌++◌, flat_map, string_bytes, take}
use Rattle.cn_sentences.specs.Changes.{pair_line}
use Rattle.cn_sentences.proofs.changes.push_each_pair.Given as goal

-- the lines so far
abbrev pub invariant-loop-told : goal.invariant-loop-told
invariant-loop-told l =
    string_bytes l.text ≡ string_bytes l.initial.text ++ flat_map (pair_line l.mark l.table) (take l.told-index l.pairs)
