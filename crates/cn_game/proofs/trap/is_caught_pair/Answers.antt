use Rattle.std.proofs.Common.{◌<◌, ℕ, sym, subst}
use Rattle.cn_game.proofs.Starts.{caught_same}
use Rattle.cn_game.proofs.trap.is_caught_pair.Goals as goal

pub returns-then-plays_for : goal.returns-then-plays_for
returns-then-plays_for c = (
  λ h. (
    c.plays_for.ensures.0 c.if-plays_for.true,
    caught_same _ _ _ _ _ c.start.ensures.processes c.start.ensures.first c.start.ensures.second c.start.ensures.statuses (c.catches.ensures.0 h),
  ),
  λ p. c.catches.ensures.1 (caught_same _ _ _ _ _ (sym c.start.ensures.processes) (sym c.start.ensures.first) (sym c.start.ensures.second)
      (λ j l. sym (c.start.ensures.statuses j (subst (λ (k : ℕ). j < k) c.start.ensures.processes l))) p.1),
)
