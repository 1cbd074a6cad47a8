use Rattle.std.proofs.Common.{◌≡◌, ◌++◌, codes, flat_map, string_bytes, take}
use Rattle.cn_text.specs.Explanation.{exception}
use Rattle.cn_text.proofs.explanation.push_other_exceptions.Given as goal

-- the pairs so far
abbrev pub invariant-loop-pair : goal.invariant-loop-pair
invariant-loop-pair l = string_bytes l.text ≡ string_bytes l.initial.text ++ flat_map (exception l.table (codes ", nor ")) (take l.pair-index l.pairs)
