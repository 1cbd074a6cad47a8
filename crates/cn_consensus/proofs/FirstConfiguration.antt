-- The first configuration of a consensus protocol with two inputs is not univalent: so some
-- schedule leads to a critical one.
use Rattle.std.proofs.Common.{◌≡◌, ℕ, ◌*◌, ◌<◌, ◌≤◌, inl, inr, List, [], ◌∷◌, ◌++◌, length, refl}
use Rattle.std.proofs.Common.{sym, ap, ◌∙◌, subst, arith, Bool, true, false, cond, nat_eq, Some}
use Rattle.std.proofs.Common.{replicate, true≢false}
use Rattle.std.proofs.lemmas.Bool.{cases_eq, eq-eqb}
use Rattle.cn_table.specs.TypeTable.{IsClosed, TypeTable, transition}
use Rattle.cn_consensus.specs.Protocol.{Action, IsActionOf, IsProtocolOf, Protocol}
use Rattle.cn_consensus.specs.Protocol.Action.{Decide, ReadRegister, WriteRegister, ApplyOperation}
use Rattle.cn_consensus.specs.Protocol.Action.{ReadObject}
use Rattle.cn_consensus.specs.Configuration.{Configuration, put, perform, step, after, decision}
use Rattle.cn_consensus.specs.Configuration.{initial}
use Rattle.cn_consensus.specs.Consensus.{IsConsensusProtocol, IsSchedule}
use Rattle.cn_consensus.specs.Valence.{DecidesAlone, IsValent}
use Rattle.cn_consensus.proofs.Alike.{Alike, after-append, alike_alone, alike_decided, put-other}
use Rattle.cn_consensus.proofs.Counting.{frequent, occurrences-alone, occurrences-append}
use Rattle.cn_consensus.proofs.Counting.{schedule-alone, schedule-append}
use Rattle.cn_consensus.proofs.CriticalSearch.{IsLive, IsUnivalent, LeadsToCritical}
use Rattle.cn_consensus.proofs.CriticalSearch.{critical_or_univalent}

-- ---- objects stay in states of the type

module _ {L V : Type 0} (t : ℕ → TypeTable) (closed : (i : ℕ) → IsClosed (t i)) where
  pub states_performed : (p : ℕ) (c : Configuration L V) (a : Action L V) → IsActionOf t a
      → ((i : ℕ) → c.objects i < length (t i).states)
      → (i : ℕ) → (perform t c p a).objects i < length (t i).states
  states_performed p c (Decide x) h s i = s i
  states_performed p c (ReadRegister j k) h s i = s i
  states_performed p c (WriteRegister j v l) h s i = s i
  states_performed p c (ApplyOperation j o k) h s i = elim (cases_eq i j) [
    | inl e ↦ subst (λ (q : ℕ). q < length (t i).states) (sym (at_place e)) (subst (λ (k : ℕ).
        (transition (t j) o (c.objects j)).1 < length (t k).states) (sym e)
        (closed j o (c.objects j) h (s j)))
    | inr d ↦ subst (λ (q : ℕ). q < length (t i).states) (sym (put-other c.objects j _ i d)) (s i)
  ]
    where
      at_place : i ≡ j → put c.objects j (transition (t j) o (c.objects j)).1 i ≡
          (transition (t j) o (c.objects j)).1
      at_place e = rw (eq-eqb i j e) refl
  states_performed p c (ReadObject j k) h s i = s i

  states_after : (n : ℕ) (P : Protocol L V) → IsProtocolOf t n P
      → (s : List ℕ) (c : Configuration L V) → IsSchedule n s
      → ((i : ℕ) → c.objects i < length (t i).states)
      → (i : ℕ) → (after t P c s).objects i < length (t i).states
  states_after n P known [] c h k = k
  states_after n P known (p ∷ s) c h k =
      states_after n P known s (step t P c p) h.1
      (states_performed p c (P.action p (c.locals p))
      (known.operations_known p (c.locals p) h.0) k)

module _ {L V : Type 0} (t : ℕ → TypeTable) (n : ℕ) (P : Protocol L V)
    (con : IsConsensusProtocol t n P) where
  finishes_after : (inputs : ℕ → Bool) (s : List ℕ) → IsSchedule n s
      → DecidesAlone t n P (after t P (initial P inputs) s)
  finishes_after inputs s h p l =
      let w = con.wait_freedom inputs in
      let r = w.1 (s ++ replicate w.0 p) (schedule-append n s (replicate w.0 p) h
      (schedule-alone n p w.0 l)) p l
      (omega (arith, occurrences-append s (replicate w.0 p) p, occurrences-alone w.0 p)) in (
        w.0,
        r.0,
        ap (λ (d : Configuration L V).
            decision P d p) (sym (after-append t P (initial P inputs) s (replicate w.0 p))) ∙ r.1,
      )

  -- a process that runs alone decides its own input
  valence_is : (inputs : ℕ → Bool) (v x : Bool) (p : ℕ) → p < n → inputs p ≡ x
      → IsValent t n P v (initial P inputs) → v ≡ x
  valence_is inputs v x p l e h =
      let same : ℕ → Bool = λ q. x in
      let r = finishes_after inputs [] tt p l in
      let alone = schedule-alone n p r.0 l in
      let alike : Alike p (initial P inputs) (initial P same) =
      record { local = ap (P.start p) e; registers = λ i. refl; objects = λ i. refl } in
      let there : decision P (after t P (initial P same) (replicate r.0 p)) p ≡ Some r.1 =
      sym (alike_decided t P p _ _ (alike_alone t P p r.0 (initial P inputs) (initial P same)
      alike)) ∙ r.2 in
      sym (h (replicate r.0 p) alone p l r.1 r.2)
      ∙ sym (con.validity same (replicate r.0 p) alone p r.1 l there).2

  -- process 0 has input false, all others have input true
  abbrev pub two_inputs : ℕ → Bool
  two_inputs p = cond (nat_eq p 0) false true

  not_univalent : 2 ≤ n → IsUnivalent t n P (initial P two_inputs) → ⊥
  not_univalent two u = true≢false (sym (valence_is two_inputs u.0 true 1 (omega arith) refl u.1)
      ∙ valence_is two_inputs u.0 false 0 (omega arith) refl u.1)

  module _ (closed : (i : ℕ) → IsClosed (t i)) (known : IsProtocolOf t n P) (two : 2 ≤ n) where
    abbrev pub long : ℕ
    long = n * (con.wait_freedom two_inputs).0

    pub live : IsLive t n P (initial P two_inputs) long
    live = record {
      finishes = finishes_after two_inputs;
      ends = λ s h l.
          let w = con.wait_freedom two_inputs in
          let r = frequent n w.0 s h (omega arith) l in
          let d = w.1 s h r.0 r.1 r.2 in
          (r.0, r.1, d.0, d.1);
      agree = con.agreement two_inputs;
      states_known = λ s h. states_after t closed n P known s (initial P two_inputs) h
          known.states_known;
    }

    pub critical : LeadsToCritical t n P (initial P two_inputs) long live
    critical = elim (critical_or_univalent t n P (initial P two_inputs) long live)
        [ inl u ↦ absurd (not_univalent two u) | inr found ↦ found ]
