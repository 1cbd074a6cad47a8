-- Consensus numbers without reads: by a choice told apart by views, and a bound; of a type, and of
-- one to which its states are merged.
use Rattle.std.proofs.lemmas.Bool.{cases_eq, cases_lt}
use Rattle.std.proofs.Common.{◌≡◌, ℕ, ◌<◌, ◌≤◌, inl, inr, sym, ap, subst, arith, Bool}
use Rattle.std.proofs.Common.{◌+◌, length, Option, Some, None}
use Rattle.std.proofs.Math.Path.{fun_ext}
use Rattle.cn_table.specs.TypeTable.{IsClosed, TypeTable}
use Rattle.cn_choice.specs.Discerning.{IsDiscerning, IsNumberUpTo}
use Rattle.cn_choice.specs.GreatestNumbers.{IsGreatestUpTo}
use Rattle.cn_choice.proofs.NumberLemmas.FewerProcesses.{discerning_below}
use Rattle.cn_choice.proofs.NumberLemmas.GreatestNumbers as greatest
use Rattle.cn_agree.specs.declared.local.Local.{Local}
use Rattle.cn_consensus.specs.Consensus.{IsConsensusProtocol}
use Rattle.cn_consensus.specs.Protocol.{Action, IsActionOf, IsProtocolOf, Protocol}
use Rattle.cn_consensus.specs.Protocol.Action.{Decide, ReadRegister, WriteRegister, ApplyOperation}
use Rattle.cn_consensus.specs.Protocol.Action.{ReadObject}
use Rattle.cn_consensus.specs.Types.{all_of}
use Rattle.cn_unread_laws.specs.Reads.{IsWithoutReads}
use Rattle.cn_unread.specs.Defended.{IsDefendedFor}
use Rattle.cn_unread.specs.Merging.{IsMerged, Merges}
use Rattle.cn_unread_laws.specs.Merging.{merged}
use Rattle.cn_unread.specs.Views.{IsViewDiscerning}
use Rattle.cn_unread_laws.proofs.Bounds.{above, none_from}
use Rattle.cn_unread_laws.proofs.MergedTypes.{from_merged, merged_bound, merged_of_type, to_merged}
use Rattle.cn_unread_laws.specs.Solving.{IsUnreadNumber, SolvesWithoutReads}
use Rattle.cn_unread_laws.proofs.OneProcess.{one_alone}

-- what the law `views_are_enough` says
abbrev pub ViewsAreEnough : Type 0
ViewsAreEnough = (t : TypeTable) (n : ℕ) → IsClosed t → 2 ≤ n → IsViewDiscerning t n
    → SolvesWithoutReads t n

-- ---- merged types

module _ (h : ℕ → ℕ) (t u : TypeTable) (closed : IsClosed t) (is : IsMerged h t u) (n : ℕ) where
  pub to_u : SolvesWithoutReads t n → SolvesWithoutReads u n
  to_u s = (
    merged (λ i. h) s.0,
    merged_of_type (λ i. h) (all_of t) (all_of u) (λ i. closed) (λ i. is.merges) n s.0 s.1 s.2,
    s.2,
    to_merged (λ i. h) (all_of t) (all_of u) (λ i. closed) (λ i. is.merges) n s.0 s.1 s.2 s.3,
  )

  module _ (P : Protocol (Local Bool) (Option Bool)) (known : IsProtocolOf (all_of u) n P)
      (unread : IsWithoutReads n P) (con : IsConsensusProtocol (all_of u) n P) where
    -- the protocol over t: each object starts in a state that is merged to its own
    abbrev Q : Protocol (Local Bool) (Option Bool)
    Q = record {
      start = P.start;
      action = P.action;
      registers = P.registers;
      objects = λ i. (is.reached (P.objects i) (known.states_known i)).0;
    }

    back : merged (λ i. h) Q ≡ P
    back = ap (λ (f : ℕ → ℕ). let R : Protocol (Local Bool) (Option Bool) = record {
      start = P.start;
      action = P.action;
      registers = P.registers;
      objects = f;
    } in R) (fun_ext (λ i. (is.reached (P.objects i) (known.states_known i)).2))

    of_t : IsProtocolOf (all_of t) n Q
    of_t = record {
      states_known = λ i. (is.reached (P.objects i) (known.states_known i)).1;
      operations_known = λ p l lp. by_action (P.action p l) (known.operations_known p l lp);
    }
      where
        by_action : (a : Action (Local Bool) (Option Bool)) → IsActionOf (all_of u) a
            → IsActionOf (all_of t) a
        by_action (Decide x) k = tt
        by_action (ReadRegister i f) k = tt
        by_action (WriteRegister i v x) k = tt
        by_action (ApplyOperation i o f) k =
            subst (λ (m : ℕ). o < m) (sym is.merges.same_operations) k
        by_action (ReadObject i f) k = tt

    solves_t : IsConsensusProtocol (all_of t) n Q
    solves_t = from_merged (λ i. h) (all_of t) (all_of u) (λ i. closed) (λ i. is.merges) n Q of_t
        unread (subst (IsConsensusProtocol (all_of u) n) (sym back) con)

    lifted : SolvesWithoutReads t n
    lifted = (Q, of_t, unread, solves_t)

  pub from_u : SolvesWithoutReads u n → SolvesWithoutReads t n
  from_u s = lifted s.0 s.1 s.2 s.3

-- ---- numbers

module _ (enough : ViewsAreEnough) where
  pub number_by_defence : {L V : Type 0} (t : TypeTable) (limit n : ℕ) → IsClosed t
      → IsViewDiscerning t n → IsGreatestUpTo (IsDefendedFor t) limit (Some n) → n < limit
      → IsUnreadNumber L V t n
  number_by_defence t limit n closed views number l = record {
    solves = enough t n closed number.0 views;
    no_more = λ m u P known unread con. above t limit n m P closed number l u known unread con;
  }

  pub number_by_next : {L V : Type 0} (t : TypeTable) (n : ℕ) → IsClosed t → 2 ≤ n
      → IsViewDiscerning t n → (IsDefendedFor t (n + 1) → ⊥) → IsUnreadNumber L V t n
  number_by_next t n closed two views not = record {
    solves = enough t n closed two views;
    no_more = λ m u P known unread con. none_from t (n + 1) m P closed (omega arith)
        (omega (arith, u)) not known unread con;
  }

  pub number_by_merging : {L V : Type 0} (h : ℕ → ℕ) (t u : TypeTable) (limit n : ℕ) → IsClosed t
      → IsClosed u → IsMerged h t u → IsViewDiscerning u n → IsNumberUpTo u limit (Some n)
      → n < limit → IsUnreadNumber L V t n
  number_by_merging h t u limit n closed closed_u is views number l = record {
    solves = from_u h t u closed is n (enough u n closed_u number.0 views);
    no_more = λ m more P known unread con.
        (let two : 2 ≤ m = omega (arith, more, number.0) in
        greatest.none_above (IsDiscerning u) (discerning_below u) limit n m number l more
        (merged_bound h t u m P closed closed_u is.merges two known unread con).0);
  }

-- a type that is not defended for two has number 1
pub number_one : {L V : Type 0} (t : TypeTable) → IsClosed t → 0 < length t.states
    → (IsDefendedFor t 2 → ⊥) → IsUnreadNumber L V t 1
number_one t closed some not = record {
  solves = one_alone t some;
  no_more = λ m more P known unread con.
      none_from t 2 m P closed (omega arith) (omega (arith, more)) not known unread con;
}

-- so has a type whose states are merged to those of a type with no number
pub merged_one : {L V : Type 0} (h : ℕ → ℕ) (t u : TypeTable) (limit : ℕ) → IsClosed t → IsClosed u
    → 0 < length t.states → Merges h t u → 2 ≤ limit → IsNumberUpTo u limit None
    → IsUnreadNumber L V t 1
merged_one h t u limit closed closed_u some merges l none = record {
  solves = one_alone t some;
  no_more = λ m more P known unread con. (let two : 2 ≤ m = omega (arith, more) in
      greatest.none_at_all (IsDiscerning u) (discerning_below u) limit m none l two
      (merged_bound h t u m P closed closed_u merges two known unread con).0);
}

-- ---- one number

pub unique : (t : TypeTable) (m n : ℕ) → IsUnreadNumber (Local Bool) (Option Bool) t m
    → IsUnreadNumber (Local Bool) (Option Bool) t n → m ≡ n
unique t m n h k = elim (cases_eq m n) [
  | inl same ↦ same
  | inr apart ↦ elim (cases_lt m n) [
    | inl less ↦ absurd (h.no_more n less k.solves.0 k.solves.1 k.solves.2 k.solves.3)
    | inr more ↦ absurd (k.no_more m (omega (arith, more, apart)) h.solves.0 h.solves.1 h.solves.2
        h.solves.3)
  ]
]
