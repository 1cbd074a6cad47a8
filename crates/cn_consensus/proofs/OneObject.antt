-- Processes that are about to apply operations to one object, each moving once, in some order: a
-- run of their operations on the object.
use Rattle.std.proofs.Common.{◌≡◌, ◌≢◌, ℕ, ◌<◌, inl, inr, List, [], ◌∷◌, map, refl, sym, ap, ◌∙◌}
use Rattle.std.proofs.Common.{subst, Bool, true, false, cond, nat_eq, Some}
use Rattle.std.proofs.lemmas.Bool.{eqb-true}
use Rattle.cn_table.specs.Run.{responses_along, state_after}
use Rattle.cn_table.specs.TypeTable.{TypeTable, transition}
use Rattle.cn_choice.specs.OutcomeSets.{response_of}
use Rattle.cn_choice.proofs.ListLemmas.Arrangements.{Differ}
use Rattle.cn_choice.proofs.ListLemmas.Members.{IsIn, each_at}
use Rattle.cn_consensus.specs.Protocol.{Protocol}
use Rattle.cn_consensus.specs.Protocol.Action.{ApplyOperation}
use Rattle.cn_consensus.specs.Configuration.{Configuration, perform, step, after}
use Rattle.cn_consensus.specs.Consensus.{IsSchedule}
use Rattle.cn_consensus.proofs.Alike.{others_stepped, put-other, put-same}

module _ {L V : Type 0} (t : ℕ → TypeTable) (P : Protocol L V) where
  -- a process that does not occur in a schedule keeps its local state
  pub unmoved : (j : ℕ) (s : List ℕ) (d : Configuration L V) → (IsIn j s → ⊥)
      → (after t P d s).locals j ≡ d.locals j
  unmoved j [] d h = refl
  unmoved j (p ∷ s) d h = unmoved j s (step t P d p) (λ i. h (inr i))
      ∙ others_stepped t P p j d (λ e. h (inl (sym e)))

  -- process p is about to apply its operation to the object, and has this next local state for each
  -- response
  abbrev pub IsAbout : (ℕ → ℕ) → ℕ → Configuration L V → ℕ → (ℕ → L) → Type 0
  IsAbout op object c p k = P.action p (c.locals p) ≡ ApplyOperation object (op p) k

  -- after each process of the order has moved once, from d: the object is in the last state of the
  -- run, and each process has its response
  pub record Ran (op : ℕ → ℕ) (object : ℕ) (c d : Configuration L V) (order : List ℕ) : Type 0 where
    pub last : (after t P d order).objects object ≡ state_after (t object) (d.objects object)
        (map op order)
    pub others : (i : ℕ) → i ≢ object → (after t P d order).objects i ≡ d.objects i
    pub registers : (i : ℕ) → (after t P d order).registers i ≡ d.registers i
    pub told : (j r : ℕ) → response_of j order
        (responses_along (t object) (d.objects object) (map op order)) ≡ Some r
        → (k : ℕ → L) → IsAbout op object c j k → (after t P d order).locals j ≡ k r

  module _ (n : ℕ) (op : ℕ → ℕ) (object : ℕ) (c : Configuration L V) (about : (p : ℕ) → p < n
      → (k : ℕ → L) × IsAbout op object c p k) where
    one_reply : (p : ℕ) (k m : ℕ → L) → IsAbout op object c p k → IsAbout op object c p m → k ≡ m
    one_reply p k m e f = cc (e, f)

    pub ran : (order : List ℕ) (d : Configuration L V) → Differ order → IsSchedule n order
        → ((p : ℕ) → IsIn p order → d.locals p ≡ c.locals p) → Ran op object c d order
    ran [] d apart h same = record {
      last = refl;
      others = λ i n. refl;
      registers = λ i.
          refl;
      told = λ j r e k a. absurd (cc e);
    }
    ran (p ∷ ps) d apart h same =
        let a = about p h.0 in
        let start = d.objects object in
        let is : P.action p (d.locals p) ≡ ApplyOperation object (op p) a.0 =
        ap (P.action p) (same p (inl refl)) ∙ a.1 in
        let stepped : step t P d p ≡ perform t d p (ApplyOperation object (op p) a.0) =
        ap (perform t d p) is in
        let next : (step t P d p).objects object ≡ (transition (t object) (op p) start).1 =
        ap (λ (z : Configuration L V). z.objects object) stepped ∙ put-same d.objects object _ in
        let local : (step t P d p).locals p ≡ a.0 (transition (t object) (op p) start).0 =
        ap (λ (z : Configuration L V). z.locals p) stepped ∙ put-same d.locals p _ in
        let rest = ran ps (step t P d p) apart.1 h.1 (λ q i.
        others_stepped t P p q d (λ e. each_at (λ y. p ≢ y) ps q apart.0 i (sym e))
        ∙ same q (inr i)) in
        let here : (k : ℕ → L) → IsAbout op object c p k
        → (after t P (step t P d p) ps).locals p ≡ k (transition (t object) (op p) start).0 =
        λ k e.
        unmoved p ps (step t P d p) (λ i. each_at (λ y. p ≢ y) ps p apart.0 i refl)
        ∙ (local ∙ ap (λ (f : ℕ → L). f (transition (t object) (op p) start).0)
        (one_reply p a.0 k a.1 e)) in
        record {
          last = rest.last ∙ ap (λ (s : ℕ). state_after (t object) s (map op ps)) next;
          others = λ i n. rest.others i n ∙ (ap (λ (z : Configuration L V). z.objects i) stepped
              ∙ put-other d.objects object _ i n);
          registers = λ i. rest.registers i ∙ ap (λ (z : Configuration L V). z.registers i) stepped;
          told = λ j r e k f. by_test j r k f here (λ g.
              rest.told j r g k f) next (nat_eq p j) refl e;
        }
      where
        by_test : (j r : ℕ) (k : ℕ → L) → IsAbout op object c j k
            → ((m : ℕ → L) → IsAbout op object c p m
            → (after t P (step t P d p) ps).locals p ≡ m
            (transition (t object) (op p) (d.objects object)).0)
            → (response_of j ps (responses_along (t object) ((step t P d p).objects object)
            (map op ps)) ≡ Some r → (after t P (step t P d p) ps).locals j ≡ k r)
            → (step t P d p).objects object ≡ (transition (t object) (op p) (d.objects object)).1
            → (b : Bool) → nat_eq p j ≡ b
            → cond b (Some (transition (t object) (op p) (d.objects object)).0)
            (response_of j ps (responses_along (t object)
            (transition (t object) (op p) (d.objects object)).1 (map op ps))) ≡ Some r
            → (after t P (step t P d p) ps).locals j ≡ k r
        by_test j r k f here later next true e g =
            let same_process : p ≡ j = eqb-true p j e in
            let response : (transition (t object) (op p) (d.objects object)).0 ≡ r = cc g in
            (subst (λ (q : ℕ). (m : ℕ → L) → IsAbout op object c q m
            → (after t P (step t P d p) ps).locals q ≡ m
            (transition (t object) (op p) (d.objects object)).0) same_process here) k f
            ∙ ap k response
        by_test j r k f here later next false e g =
            later (ap (λ (s : ℕ). response_of j ps (responses_along (t object) s (map op ps))) next
            ∙ g)
