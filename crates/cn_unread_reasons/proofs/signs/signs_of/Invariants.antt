use Rattle.std.proofs.Common.{All, take}
use Rattle.std.specs.Prelude.{AllPairs}
use Rattle.cn_unread_reasons.specs.Known.{IsKnownAnswer}
use Rattle.cn_unread_reasons.specs.SignWitnesses.{IsBefore}
use Rattle.cn_unread_reasons.proofs.SignsTold.{HasFor}
use Rattle.cn_unread_reasons.proofs.signs.signs_of.Given as goal

-- so it is of the operations so far
abbrev pub invariant-loop-place : goal.invariant-loop-place
invariant-loop-place l = record {
  same : HasFor l.table l.fn.own l.fn.others (take l.place l.further) l.signs.items;
  order : AllPairs (IsBefore l.further) l.signs.items;
  known : All (IsKnownAnswer l.table) l.signs.items;
}
