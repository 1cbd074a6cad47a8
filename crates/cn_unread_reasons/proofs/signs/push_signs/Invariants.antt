use Rattle.std.proofs.Common.{List, ℕ, All, Contains}
use Rattle.std.specs.Prelude.{AllPairs}
use Rattle.cn_unread_reasons.specs.Known.{IsKnownAnswer}
use Rattle.cn_unread_reasons.specs.SignWitnesses.{ComesFirst, IsBefore}
use Rattle.cn_unread_reasons.specs.declared.sight.Answer.{Answer}
use Rattle.cn_unread_reasons.proofs.SignsTold.{HasBelow}
use Rattle.cn_unread_reasons.proofs.signs.push_signs.Given as goal

-- so it is of the responses so far
abbrev pub invariant-loop-number : goal.invariant-loop-number
invariant-loop-number l = record {
  same : HasBelow l.table l.fn.own l.fn.others l.fn.operation l.initial.signs.items l.number l.signs.items;
  order : (further : List ℕ) → AllPairs (IsBefore further) l.initial.signs.items
      → ((a : Answer) → Contains l.initial.signs.items a → ComesFirst further a.operation.0 l.fn.operation.0) → AllPairs (IsBefore further) l.signs.items;
  known : All (IsKnownAnswer l.table) l.initial.signs.items → All (IsKnownAnswer l.table) l.signs.items;
}
