-- A protocol that reads no object decides over merged types what it decides over its own.
use Rattle.std.proofs.Common.{◌≡◌, ℕ, ◌<◌, ◌≤◌, inl, inr, List, [], ◌∷◌, length, refl, sym}
use Rattle.std.proofs.Common.{ap, ◌∙◌, subst, Bool}
use Rattle.std.proofs.lemmas.Bool.{cases_eq}
use Rattle.cn_table.specs.TypeTable.{IsClosed, TypeTable, transition}
use Rattle.cn_choice.specs.Discerning.{IsDiscerning}
use Rattle.cn_consensus.specs.Protocol.{Action, IsActionOf, IsProtocolOf, Protocol}
use Rattle.cn_consensus.specs.Protocol.Action.{Decide, ReadRegister, WriteRegister, ApplyOperation}
use Rattle.cn_consensus.specs.Protocol.Action.{ReadObject}
use Rattle.cn_consensus.specs.Configuration.{Configuration, after, decided_by, decision, initial}
use Rattle.cn_consensus.specs.Configuration.{perform, put, step}
use Rattle.cn_consensus.specs.Consensus.{IsConsensusProtocol, IsSchedule}
use Rattle.cn_consensus.specs.Types.{all_of}
use Rattle.cn_consensus.proofs.Alike.{put-alike, put-other, put-same}
use Rattle.cn_consensus.proofs.FirstConfiguration.{states_performed}
use Rattle.cn_consensus.proofs.Theorem.{consensus_discerns}
use Rattle.cn_unread_laws.specs.Reads.{IsWithoutReads, ReadsNoObject}
use Rattle.cn_unread.specs.Defended.{IsDefendedFor}
use Rattle.cn_unread.specs.Merging.{Merges}
use Rattle.cn_unread_laws.specs.Merging.{merged}
use Rattle.cn_unread_laws.proofs.Bounds.{is_defended_for}

module _ {L V : Type 0} (h : ℕ → ℕ → ℕ) (t u : ℕ → TypeTable) (closed : (i : ℕ) → IsClosed (t i))
    (merges : (i : ℕ) → Merges (h i) (t i) (u i)) (n : ℕ) (P : Protocol L V)
    (known : IsProtocolOf t n P) (unread : IsWithoutReads n P) where
  record Merged (d e : Configuration L V) : Type 0 where
    pub locals : (p : ℕ) → e.locals p ≡ d.locals p
    pub registers : (i : ℕ) → e.registers i ≡ d.registers i
    pub objects : (i : ℕ) → e.objects i ≡ h i (d.objects i)
    pub states_known : (i : ℕ) → d.objects i < length (t i).states

  put_merged : (d e : Configuration L V) (i p q : ℕ) → q ≡ h i p → Merged d e → (j : ℕ)
      → put e.objects i q j ≡ h j (put d.objects i p j)
  put_merged d e i p q f m j = elim (cases_eq j i) [
    | inl s ↦ ap (put e.objects i q) s ∙ (put-same e.objects i q ∙ (f
        ∙ (sym (ap (h i) (put-same d.objects i p))
        ∙ ap (λ (z : ℕ). h z (put d.objects i p z)) (sym s))))
    | inr a ↦ put-other e.objects i q j a ∙ (m.objects j
        ∙ ap (h j) (sym (put-other d.objects i p j a)))
  ]

  performed : (d e : Configuration L V) (p : ℕ) → (a : Action L V) → IsActionOf t a
      → ReadsNoObject a → Merged d e → Merged (perform t d p a) (perform u e p a)
  performed d e p a k b m = by_action a k b (states_performed t closed p d a k m.states_known)
    where
      by_action : (a : Action L V) → IsActionOf t a → ReadsNoObject a
          → ((i : ℕ) → (perform t d p a).objects i < length (t i).states)
          → Merged (perform t d p a) (perform u e p a)
      by_action (Decide x) k b s = m
      by_action (ReadRegister i f) k b s = record {
        locals = put-alike e.locals d.locals p _ _ m.locals (ap f (m.registers i));
        registers = m.registers;
        objects = m.objects;
        states_known = s;
      }
      by_action (WriteRegister i v x) k b s = record {
        locals = put-alike e.locals d.locals p x x m.locals refl;
        registers = put-alike e.registers d.registers i v v m.registers refl;
        objects = m.objects;
        states_known = s;
      }
      by_action (ApplyOperation i o f) k b s = record {
        locals = put-alike e.locals d.locals p _ _ m.locals (ap f
            (ap (λ (q : ℕ). (transition (u i) o q).0) (m.objects i)
            ∙ (merges i).same_response o (d.objects i) k (m.states_known i)));
        registers = m.registers;
        objects = put_merged d e i _ _ (ap (λ (q : ℕ). (transition (u i) o q).1) (m.objects i)
            ∙ (merges i).same_next o (d.objects i) k (m.states_known i)) m;
        states_known = s;
      }
      by_action (ReadObject i f) k b s = absurd b

  stepped : (d e : Configuration L V) (p : ℕ) → p < n → Merged d e
      → Merged (step t P d p) (step u (merged h P) e p)
  stepped d e p l m = subst (λ (x : L). Merged (step t P d p) (perform u e p (P.action p x)))
      (sym (m.locals p)) (performed d e p (P.action p (d.locals p))
      (known.operations_known p (d.locals p) l) (unread p (d.locals p) l) m)

  merged_after : (s : List ℕ) (d e : Configuration L V) → IsSchedule n s → Merged d e
      → Merged (after t P d s) (after u (merged h P) e s)
  merged_after [] d e g m = m
  merged_after (p ∷ s) d e g m = merged_after s (step t P d p) (step u (merged h P) e p) g.1
      (stepped d e p g.0 m)

  same_decision : (inputs : ℕ → Bool) (s : List ℕ) → IsSchedule n s → (p : ℕ)
      → decision (merged h P) (after u (merged h P) (initial (merged h P) inputs) s) p
      ≡ decision P (after t P (initial P inputs) s) p
  same_decision inputs s g p = ap (λ (x : L). decided_by (P.action p x))
      ((merged_after s (initial P inputs) (initial (merged h P) inputs) g (record {
        locals = λ q. refl;
        registers = λ i. refl;
        objects = λ i. refl;
        states_known = known.states_known;
      })).locals p)

  pub to_merged : IsConsensusProtocol t n P → IsConsensusProtocol u n (merged h P)
  to_merged con = record {
    agreement = λ inputs s g p q x y lp lq e f. con.agreement inputs s g p q x y lp lq
        (sym (same_decision inputs s g p) ∙ e) (sym (same_decision inputs s g q) ∙ f);
    validity = λ inputs s g p x l e. con.validity inputs s g p x l
        (sym (same_decision inputs s g p) ∙ e);
    wait_freedom = λ inputs. (let w = con.wait_freedom inputs in (
      w.0,
      λ s g p l often. (let r = w.1 s g p l often in (r.0, same_decision inputs s g p ∙ r.1)),
    ));
  }

  pub from_merged : IsConsensusProtocol u n (merged h P) → IsConsensusProtocol t n P
  from_merged con = record {
    agreement = λ inputs s g p q x y lp lq e f. con.agreement inputs s g p q x y lp lq
        (same_decision inputs s g p ∙ e) (same_decision inputs s g q ∙ f);
    validity = λ inputs s g p x l e. con.validity inputs s g p x l (same_decision inputs s g p ∙ e);
    wait_freedom = λ inputs. (let w = con.wait_freedom inputs in (
      w.0,
      λ s g p l often. (let r = w.1 s g p l often in
          (r.0, sym (same_decision inputs s g p) ∙ r.1)),
    ));
  }

  pub merged_of_type : IsProtocolOf u n (merged h P)
  merged_of_type = record {
    states_known = λ i. (merges i).known (P.objects i) (known.states_known i);
    operations_known = λ p l lp. by_action (P.action p l) (known.operations_known p l lp);
  }
    where
      by_action : (a : Action L V) → IsActionOf t a → IsActionOf u a
      by_action (Decide x) k = tt
      by_action (ReadRegister i f) k = tt
      by_action (WriteRegister i v x) k = tt
      by_action (ApplyOperation i o f) k =
          subst (λ (m : ℕ). o < m) (merges i).same_operations k
      by_action (ReadObject i f) k = tt

-- the merged type needs a witness
pub merged_bound : {L V : Type 0} (h : ℕ → ℕ) (t u : TypeTable) (n : ℕ) (P : Protocol L V)
    → IsClosed t → IsClosed u → Merges h t u → 2 ≤ n → IsProtocolOf (all_of t) n P → IsWithoutReads n P
    → IsConsensusProtocol (all_of t) n P → IsDiscerning u n × IsDefendedFor u n
merged_bound h t u n P closed closed_u merges two known unread con =
    let Q = merged (λ i. h) P in
    let of_u : IsProtocolOf (all_of u) n Q = merged_of_type (λ i. h) (all_of t) (all_of u)
    (λ i. closed) (λ i. merges) n P known unread in
    let solves : IsConsensusProtocol (all_of u) n Q = to_merged (λ i. h) (all_of t) (all_of u)
    (λ i. closed) (λ i. merges) n P known unread con in (
      consensus_discerns u n Q closed_u two of_u solves,
      is_defended_for u n Q closed_u two of_u unread solves,
    )
