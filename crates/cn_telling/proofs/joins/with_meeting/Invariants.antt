use Rattle.std.proofs.Common.{◌≡◌, ◌<◌, ◌≤◌, ◌⊎◌, ◌↔◌, ℕ, length}
use Rattle.cn_stocks.specs.Meetings.{HasAt}
use Rattle.cn_stocks.specs.Pairs.{set_at}
use Rattle.cn_telling.specs.Joined.{HaveCommonPair}
use Rattle.cn_telling.proofs.joins.with_meeting.Given as goal

-- the sets so far have more, the others not yet
abbrev pub invariant-loop-first : goal.invariant-loop-first
invariant-loop-first l = record {
  long : length l.more ≡ 8;
  pairs_long : length l.pairs ≡ 8;
  done : (f g : ℕ) → f < l.first → HasAt l.more f g ↔ (HasAt l.joined f g ⊎ HaveCommonPair (set_at l.pairs f) (set_at l.pairs g));
  left : (f g : ℕ) → l.first ≤ f → HasAt l.more f g ↔ HasAt l.joined f g;
}
