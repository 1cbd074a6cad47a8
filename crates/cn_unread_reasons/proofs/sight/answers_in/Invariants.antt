use Rattle.std.proofs.Common.{◌≡◌, All, length, map, take}
use Rattle.cn_unread_reasons.specs.Known.{IsKnownAnswer}
use Rattle.cn_unread_reasons.specs.UnreadSights.{answer_in}
use Rattle.cn_unread_reasons.proofs.sight.answers_in.Given as goal

-- the answers so far
abbrev pub invariant-loop-look : goal.invariant-loop-look
invariant-loop-look l = record {
  answers : l.answers.items ≡ map (answer_in l.table l.fn.state.0) (take l.look-index l.looks);
  known : All (IsKnownAnswer l.table) l.answers.items;
  count : length l.answers.items ≡ l.look-index;
}
