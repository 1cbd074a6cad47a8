-- Why a number without reads is no less.
use Rattle.std.specs.Prelude.{ℕ, IfSome}
use Rattle.cn_table.specs.TypeTable.{TypeTable}
use Rattle.cn_unread_number.specs.Evidence.{TellsBy}
use Rattle.cn_unread_reasons.specs.Known.{IsKnownSigns, IsKnownUnreadWitness}
use Rattle.cn_unread_reasons.specs.SignWitnesses.{IsSignWitness}
use Rattle.cn_unread_reasons.specs.UnreadExplanations.{IsWitnessFor}
use Rattle.cn_unread_reasons.specs.declared.low.Low.{Low}

-- each reason is one, for n processes or for as many as the limit
pub record IsLowFor (t : TypeTable) (n limit : ℕ) (low : Low) : Type 0 where
  pub telling : IfSome low.telling (TellsBy t)
  pub witness : IfSome low.witness (IsWitnessFor t n limit)
  pub signs : IfSome low.signs (IsSignWitness t)

pub record IsKnownLow (t : TypeTable) (low : Low) : Type 0 where
  pub witness : IfSome low.witness (IsKnownUnreadWitness t)
  pub signs : IfSome low.signs (IsKnownSigns t)
