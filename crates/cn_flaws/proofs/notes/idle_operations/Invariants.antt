use Rattle.std.proofs.Common.{◌↔◌, All, IsTrue, map}
use Rattle.cn_flaws.specs.Notes.{AnswersDiffer, IsIdle}
use Rattle.cn_flaws.proofs.NoteLemmas.{AreThoseBelow}
use Rattle.cn_flaws.proofs.notes.idle_operations.Given as goal

-- the operations so far that change nothing
abbrev pub invariant-loop-number : goal.invariant-loop-number
invariant-loop-number l = record {
  operations : AreThoseBelow (IsIdle l.table) l.number (map (λ i. i.operation.0) l.idle.items);
  answers : All (λ i. IsTrue i.answers ↔ AnswersDiffer l.table i.operation.0) l.idle.items;
}
