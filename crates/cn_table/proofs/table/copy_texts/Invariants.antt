use Rattle.std.proofs.Common.{◌≡◌, map, take, string_bytes}
use Rattle.cn_table.specs.DraftView.{texts_view}
use Rattle.cn_table.proofs.table.copy_texts.Given as goal

-- the texts so far
abbrev pub invariant-loop-text : goal.invariant-loop-text
invariant-loop-text l = texts_view l.copy ≡ map (λ s. string_bytes s) (take l.text-index l.texts)
