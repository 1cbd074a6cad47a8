-- The number of a type, with reads, is the number without reads of the type with a read added.
use Rattle.std.proofs.Common.{◌≡◌, ℕ, zero, suc, ◌≤◌, length, arith, Bool, Option}
use Rattle.cn_table.specs.TypeTable.{TypeTable}
use Rattle.cn_agree.specs.declared.local.Local.{Local}
use Rattle.cn_consensus.specs.Consensus.{IsConsensusProtocol}
use Rattle.cn_consensus.specs.Protocol.{IsProtocolOf, Protocol}
use Rattle.cn_consensus.specs.Types.{all_of}
use Rattle.cn_solvable.specs.Solving.{IsConsensusNumber, SolvesConsensus}
use Rattle.cn_unread_laws.specs.Solving.{IsUnreadNumber, SolvesWithoutReads}
use Rattle.cn_unread_laws.proofs.OneProcess.{one_alone}

module _ {L V : Type 0} (t u : TypeTable) (same_states : length u.states ≡ length t.states)
    (up : (n : ℕ) → 2 ≤ n → SolvesConsensus t n → SolvesWithoutReads u n)
    (down : (n : ℕ) (P : Protocol L V) → 2 ≤ n → IsProtocolOf (all_of u) n P
    → IsConsensusProtocol (all_of u) n P → SolvesConsensus t n) where
  pub number_with_reads : (n : ℕ) → 1 ≤ n → IsConsensusNumber (Local Bool) (Option Bool) t n
      → IsUnreadNumber L V u n
  number_with_reads n some h = record {
    solves = by_number n some h.solves;
    no_more = λ m l P known unread con. (let s = down m P (omega (arith, some, l)) known con in
        h.no_more m l s.0 s.1 s.2);
  }
    where
      by_number : (n : ℕ) → 1 ≤ n → SolvesConsensus t n → SolvesWithoutReads u n
      by_number zero l s = absurd (omega (arith, l))
      by_number (suc zero) l s = one_alone u (omega (arith, s.1.states_known 0, same_states))
      by_number (suc (suc n)) l s = up (suc (suc n)) (omega arith) s
