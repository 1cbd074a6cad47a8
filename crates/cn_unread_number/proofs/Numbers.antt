-- What evidence shows of a type holds of it.
use Rattle.std.proofs.Common.{ℕ, ◌+◌, ◌≤◌, inl, inr, arith, List}
use Rattle.cn_table.specs.TypeTable.{IsClosed, TypeTable}
use Rattle.cn_choice.specs.Canonical.{raw_choice_of}
use Rattle.cn_choice.specs.Discerning.{IsDiscerning}
use Rattle.cn_game.specs.TrapLists.{IsTrapList}
use Rattle.cn_game.specs.declared.trap.Turn.{Turn}
use Rattle.cn_signs.specs.SignChoices.{signs_with}
use Rattle.cn_unread.specs.Collects.{AreLooks, IsVisibleFor}
use Rattle.cn_unread.specs.Defended.{IsDefendedFor}
use Rattle.cn_unread.specs.Enough.{IsEnoughFor}
use Rattle.cn_unread.specs.Telling.{LooksTellStates, ResponsesTellStates}
use Rattle.cn_unread.specs.Undisturbed.{IsUnreadDiscerning}
use Rattle.cn_unread_number.specs.Bounds.{AreBounds, IsMost}
use Rattle.cn_unread_number.specs.Evidence.{AreShown, ShowsLeast, ShowsMost, TellsBy}
use Rattle.cn_unread_number.specs.declared.bounds.NumberBounds.{NumberBounds}
use Rattle.cn_unread_number.specs.declared.bounds.NumberBounds.TheVariants.{AtLeast, Between, Exactly}
use Rattle.cn_unread_number.specs.declared.bounds.NumberBounds.TheVariants.{Infinite}
use Rattle.cn_unread_number.specs.declared.evidence.LeastEvidence.{LeastEvidence}
use Rattle.cn_unread_number.specs.declared.evidence.LeastEvidence.TheVariants as least
use Rattle.cn_unread_number.specs.declared.evidence.MostEvidence.{MostEvidence}
use Rattle.cn_unread_number.specs.declared.evidence.MostEvidence.TheVariants as most
use Rattle.cn_unread_number.specs.declared.telling.Telling.{Telling}
use Rattle.cn_unread_number.specs.declared.telling.Telling.TheVariants as by
use Rattle.cn_unread_number.proofs.Steps.{node_for}

-- what laws say of defended types, of listed traps, and of types that tell their states
pub record Laws : Type 0 where
  pub discerning : (t : TypeTable) (n : ℕ) → IsDefendedFor t n
      → IsUnreadDiscerning t n × IsDiscerning t n
  pub traps : (t : TypeTable) (n : ℕ) (trap : List Turn) → IsTrapList t n trap → ¬ IsDefendedFor t n
  pub responses : (t : TypeTable) (n : ℕ) → IsClosed t → ResponsesTellStates t → IsDiscerning t n
      → IsVisibleFor t n
  pub looks : (t : TypeTable) (n : ℕ) (looks : List ℕ) → IsClosed t → AreLooks t looks
      → LooksTellStates t looks → IsDiscerning t n → IsVisibleFor t n

module _ (laws : Laws) (t : TypeTable) (closed : IsClosed t) where
  is_visible : (how : Telling) (n : ℕ) → TellsBy t how → IsDiscerning t n → IsVisibleFor t n
  is_visible by.Responses n tells d = laws.responses t n closed tells d
  is_visible by.Looks n tells d = laws.looks t n tells.0 closed tells.1 tells.2 d

  is_enough : (low : LeastEvidence) (n : ℕ) → 2 ≤ n → ShowsLeast t low n → IsEnoughFor t n
  is_enough least.Alone n two shows = absurd (omega (arith, two, shows))
  is_enough (least.Telling how) n two shows = inl (is_visible how n shows.0 (shows.1 two))
  is_enough (least.Visible c) n two shows =
      inl (shows.1.0, shows.1.1, raw_choice_of c, shows.0, shows.1.2)
  is_enough (least.Further further) n two shows = inr (inl (node_for t n further shows))
  is_enough (least.Signs signs) n two shows =
      inr (inr (signs_with signs shows.0 shows.1 shows.2, shows.3))

  is_most : (high : MostEvidence) (n : ℕ) → ShowsMost t high n → IsMost t n
  is_most most.Open n shows = absurd shows
  is_most most.WithReads n shows =
      λ d. shows (n + 1) (omega arith) (laws.discerning t (n + 1) d).1
  is_most (most.Trap trap) n shows = laws.traps t (n + 1) trap.turns.items shows

  pub are_bounds : (low : LeastEvidence) (high : MostEvidence) (bounds : NumberBounds)
      → AreShown t low high bounds → AreBounds t bounds
  are_bounds low high (Exactly n) s =
      ((s.0, λ two. is_enough low n two s.1), is_most high n s.2)
  are_bounds low high Infinite s = λ n two. is_enough low n two (s n two)
  are_bounds low high (Between n m) s =
      ((s.0, λ two. is_enough low n two s.1), is_most high m s.2, s.3)
  are_bounds low high (AtLeast n) s = (s.0, λ two. is_enough low n two s.1)
