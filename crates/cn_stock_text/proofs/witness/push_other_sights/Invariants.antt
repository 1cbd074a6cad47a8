use Rattle.std.proofs.Common.{◌≡◌, ◌++◌, codes, flat_map, string_bytes, take}
use Rattle.cn_stock_text.specs.Witness.{sight_text}
use Rattle.cn_stock_text.proofs.witness.push_other_sights.Given as goal

-- the sights so far
abbrev pub invariant-loop-sight : goal.invariant-loop-sight
invariant-loop-sight l = string_bytes l.text ≡ string_bytes l.initial.text ++ flat_map (sight_text l.table (codes "; ")) (take l.sight-index l.sights)
