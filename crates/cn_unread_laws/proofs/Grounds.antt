-- What is enough in a table, and what bounds it, hold of each type whose states are merged to those of
-- the table.
use Rattle.std.proofs.Common.{ℕ, zero, suc, ◌+◌, ◌<◌, ◌≤◌, inl, inr, length, arith}
use Rattle.cn_table.specs.TypeTable.{IsClosed, TypeTable}
use Rattle.cn_consensus.specs.Consensus.{IsConsensusProtocol}
use Rattle.cn_consensus.specs.Protocol.{IsProtocolOf, Protocol}
use Rattle.cn_consensus.specs.Types.{all_of}
use Rattle.cn_unread.specs.Collects.{IsVisibleFor}
use Rattle.cn_unread.specs.Defended.{IsDefendedFor}
use Rattle.cn_unread.specs.Enough.{IsEnoughFor}
use Rattle.cn_unread.specs.Merging.{IsMerged}
use Rattle.cn_unread.specs.Nodes.{IsNode, Node}
use Rattle.cn_unread.specs.Signs.{AreSigns, Signs}
use Rattle.cn_unread_laws.specs.Merging.{merged}
use Rattle.cn_unread_laws.specs.Reads.{IsWithoutReads}
use Rattle.cn_unread_laws.specs.Solving.{IsUnreadNumber, SolvesWithoutReads}
use Rattle.cn_unread_laws.proofs.Bounds.{none_from}
use Rattle.cn_unread_laws.proofs.MergedTypes.{merged_of_type, to_merged}
use Rattle.cn_unread_laws.proofs.OneProcess.{one_alone}
use Rattle.cn_unread_laws.proofs.UnreadNumbers.{from_u}

-- what the laws `collects_are_enough`, `nodes_are_enough` and `signs_are_enough` say
pub record Laws : Type 0 where
  pub collects : (t : TypeTable) (n : ℕ) → IsClosed t → 2 ≤ n → IsVisibleFor t n
      → SolvesWithoutReads t n
  pub nodes : (t : TypeTable) (a b : ℕ) (node : Node) (n : ℕ) → IsClosed t → 1 ≤ a → 1 ≤ b
      → IsNode t a b node → 1 ≤ n → n ≤ a + b → SolvesWithoutReads t n
  pub signs : (t : TypeTable) (w : Signs) → IsClosed t → AreSigns t w → (n : ℕ) → 1 ≤ n
      → SolvesWithoutReads t n

module _ (laws : Laws) where
  pub enough_solves : (u : TypeTable) (n : ℕ) → IsClosed u → 2 ≤ n → IsEnoughFor u n
      → SolvesWithoutReads u n
  enough_solves u n closed two e = elim e [
    | inl visible ↦ laws.collects u n closed two visible
    | inr other ↦ elim other [
      | inl node ↦ laws.nodes u node.0 node.1 node.2 n closed node.3 node.4 node.6
          (omega (arith, two)) (omega (arith, node.5))
      | inr signs ↦ laws.signs u signs.0 closed signs.1 n (omega (arith, two))
    ]
  ]

  module _ (h : ℕ → ℕ) (t u : TypeTable) (closed : IsClosed t) (closed_u : IsClosed u)
      (is : IsMerged h t u) where
    pub merged_solves : (n : ℕ) → 2 ≤ n → IsEnoughFor u n → SolvesWithoutReads t n
    merged_solves n two e = from_u h t u closed is n (enough_solves u n closed_u two e)

    pub some_solves : (n : ℕ) → 0 < length t.states → 1 ≤ n → (2 ≤ n → IsEnoughFor u n)
        → SolvesWithoutReads t n
    some_solves zero some one e = absurd (omega (arith, one))
    some_solves (suc zero) some one e = one_alone t some
    some_solves (suc (suc n)) some one e =
        merged_solves (suc (suc n)) (omega arith) (e (omega arith))

    pub merged_no_more : {L V : Type 0} (n m : ℕ) (P : Protocol L V) → 1 ≤ n → n < m
        → (IsDefendedFor u (n + 1) → ⊥) → IsProtocolOf (all_of t) m P → IsWithoutReads m P
        → IsConsensusProtocol (all_of t) m P → ⊥
    merged_no_more n m P one more not known unread con =
        none_from u (n + 1) m (merged (λ i. h) P) closed_u (omega (arith, one))
        (omega (arith, more)) not
        (merged_of_type (λ i. h) (all_of t) (all_of u) (λ i. closed) (λ i. is.merges) m P known unread)
        unread
        (to_merged (λ i. h) (all_of t) (all_of u) (λ i. closed) (λ i. is.merges) m P known unread con)

    pub merged_number : {L V : Type 0} (n : ℕ) → 0 < length t.states → 1 ≤ n
        → (2 ≤ n → IsEnoughFor u n) → (IsDefendedFor u (n + 1) → ⊥) → IsUnreadNumber L V t n
    merged_number n some one e not = record {
      solves = some_solves n some one e;
      no_more = λ m more P known unread con. merged_no_more n m P one more not known unread con;
    }
