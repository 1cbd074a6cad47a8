use Rattle.std.proofs.Common.{◌≡◌, ◌++◌, flat_map, string_bytes}
use Rattle.std.specs.List.{range_with_len}
use Rattle.cn_pairs.specs.SetNumbers.{numbers}
use Rattle.cn_sentences.specs.Smallest.{listed_name}
use Rattle.cn_sentences.proofs.smallest.push_names.Given as goal

-- the names so far
abbrev pub invariant-loop-place : goal.invariant-loop-place
invariant-loop-place l = string_bytes l.text ≡ string_bytes l.initial.text ++ flat_map (listed_name l.table (numbers l.set)) (range_with_len 0 l.place)
