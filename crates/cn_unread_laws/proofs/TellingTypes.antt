-- Types that tell their states have one number, with reads and without.
use Rattle.std.proofs.Common.{ℕ, zero, suc, ◌≤◌, inl, inr, List, arith, Bool, Option}
use Rattle.cn_table.specs.TypeTable.{IsClosed, TypeTable}
use Rattle.cn_choice.specs.Discerning.{IsDiscerning}
use Rattle.cn_agree.specs.declared.local.Local.{Local}
use Rattle.cn_consensus.specs.Consensus.{IsConsensusProtocol}
use Rattle.cn_consensus.specs.Protocol.{IsProtocolOf, Protocol}
use Rattle.cn_consensus.specs.Types.{all_of}
use Rattle.cn_solvable.specs.Solving.{IsConsensusNumber, SolvesConsensus}
use Rattle.cn_unread.specs.Collects.{AreLooks, IsVisibleFor}
use Rattle.cn_unread.specs.Telling.{LooksTellStates, ResponsesTellStates}
use Rattle.cn_unread_number.specs.Evidence.{TellsItsStates}
use Rattle.cn_unread_laws.specs.Solving.{IsUnreadNumber, SolvesWithoutReads}
use Rattle.cn_unread_laws.proofs.OneProcess.{one_alone}

-- what the laws `telling_types_need_no_reads` and `collects_are_enough` say
pub record Laws : Type 0 where
  pub responses : (t : TypeTable) (n : ℕ) → IsClosed t → ResponsesTellStates t → IsDiscerning t n
      → IsVisibleFor t n
  pub looks : (t : TypeTable) (n : ℕ) (looks : List ℕ) → IsClosed t → AreLooks t looks
      → LooksTellStates t looks → IsDiscerning t n → IsVisibleFor t n
  pub collects : (t : TypeTable) (n : ℕ) → IsClosed t → 2 ≤ n → IsVisibleFor t n
      → SolvesWithoutReads t n

pub discerning_solves : Laws → (t : TypeTable) → IsClosed t → TellsItsStates t → (n : ℕ) → 2 ≤ n
    → IsDiscerning t n → SolvesWithoutReads t n
discerning_solves laws t closed (inl tells) n two d =
    laws.collects t n closed two (laws.responses t n closed tells d)
discerning_solves laws t closed (inr looks) n two d =
    laws.collects t n closed two (laws.looks t n looks.0 closed looks.1 looks.2 d)

-- where a protocol with reads solves it for two or more, some protocol without reads does; so it is for
-- fewer too
module _ (t : TypeTable)
    (solving : (n : ℕ) → 2 ≤ n → SolvesConsensus t n → SolvesWithoutReads t n) where
  pub to_unread : (n : ℕ) → SolvesConsensus t n → SolvesWithoutReads t n
  to_unread zero s = (s.0, s.1, λ p l lp. absurd (omega (arith, lp)), s.2)
  to_unread (suc zero) s = one_alone t (omega (arith, s.1.states_known 0))
  to_unread (suc (suc n)) s = solving (suc (suc n)) (omega arith) s

pub from_unread : (t : TypeTable) (n : ℕ) → SolvesWithoutReads t n → SolvesConsensus t n
from_unread t n s = (s.0, s.1, s.3)

module _ {L V : Type 0} (t : TypeTable)
    (solving : (n : ℕ) → 2 ≤ n → SolvesConsensus t n → SolvesWithoutReads t n)
    (any : (n : ℕ) (P : Protocol L V) → 2 ≤ n → IsProtocolOf (all_of t) n P
    → IsConsensusProtocol (all_of t) n P → SolvesWithoutReads t n) where
  by_any : (n : ℕ) (P : Protocol L V) → 1 ≤ n → IsProtocolOf (all_of t) n P
      → IsConsensusProtocol (all_of t) n P → SolvesWithoutReads t n
  by_any zero P one known con = absurd (omega (arith, one))
  by_any (suc zero) P one known con = one_alone t (omega (arith, known.states_known 0))
  by_any (suc (suc n)) P one known con = any (suc (suc n)) P (omega arith) known con

  pub without_reads : (n : ℕ) → IsConsensusNumber (Local Bool) (Option Bool) t n
      → IsUnreadNumber L V t n
  without_reads n h = record {
    solves = to_unread t solving n h.solves;
    no_more = λ m l P known unread con. (let s = by_any m P (omega (arith, l)) known con in
        h.no_more m l s.0 s.1 s.3);
  }

  pub with_reads : (n : ℕ) → IsUnreadNumber (Local Bool) (Option Bool) t n
      → IsConsensusNumber L V t n
  with_reads n h = record {
    solves = from_unread t n h.solves;
    no_more = λ m l P known con. (let s = by_any m P (omega (arith, l)) known con in
        h.no_more m l s.0 s.1 s.2 s.3);
  }
