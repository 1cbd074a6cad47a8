use Rattle.std.proofs.Common.{◌≡◌, ◌++◌, codes, flat_map, string_bytes, take}
use Rattle.cn_sentences.specs.Unread.{answer_text}
use Rattle.cn_sentences.proofs.unread.push_other_answers.Given as goal

-- the answers so far
abbrev pub invariant-loop-answer : goal.invariant-loop-answer
invariant-loop-answer l = string_bytes l.text ≡ string_bytes l.initial.text ++ flat_map (answer_text l.table (codes ", ")) (take l.answer-index l.answers)
