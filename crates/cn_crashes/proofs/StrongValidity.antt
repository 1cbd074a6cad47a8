-- Validity is strong: what a process decides is the input of one that has taken a step, or its own.
use Rattle.std.proofs.Common.{◌≡◌, ℕ, ◌≤◌, ◌⊎◌, inl, inr, List, [], ◌∷◌, refl, sym, ap, ◌∙◌, arith}
use Rattle.std.proofs.Common.{Bool, true, false, cond, nat_eq, nat_lt, not}
use Rattle.std.proofs.lemmas.Bool.{cases_eq, eq-eqb, eqb-true, lt-ltb, ltb-true}
use Rattle.cn_table.specs.TypeTable.{TypeTable}
use Rattle.cn_consensus.specs.Protocol.{Protocol}
use Rattle.cn_consensus.specs.Configuration.{Configuration, initial, put, step}
use Rattle.cn_consensus.proofs.Alike.{Alike, alike_decided, alike_stepped, others_stepped}
use Rattle.cn_consensus.proofs.Alike.{put-other, put-same}
use Rattle.cn_consensus.proofs.Counting.{hit}
use Rattle.cn_crashes.specs.Execution.{Event, HasDecidedIn, after_execution, after_crash, steps_of}
use Rattle.cn_crashes.specs.Execution.Event.{Step, Crash}
use Rattle.cn_crashes.specs.RecoverableConsensus.{HasRecoverableValidity}
use Rattle.cn_crashes.specs.RecoverableConsensus.{HasStrongRecoverableValidity}

module _ {L V : Type 0} (t : ℕ → TypeTable) (P : Protocol L V) (inputs others : ℕ → Bool) where
  -- all is the same, but the local states of processes with other inputs
  record Same (c d : Configuration L V) : Type 0 where
    pub registers : (i : ℕ) → c.registers i ≡ d.registers i
    pub objects : (i : ℕ) → c.objects i ≡ d.objects i
    pub locals : (q : ℕ) → inputs q ≡ others q → c.locals q ≡ d.locals q

  alike : (c d : Configuration L V) (q : ℕ) → inputs q ≡ others q → Same c d → Alike q c d
  alike c d q e s = record { local = s.locals q e; registers = s.registers; objects = s.objects }

  same_step : (c d : Configuration L V) (q : ℕ) → inputs q ≡ others q → Same c d
      → Same (step t P c q) (step t P d q)
  same_step c d q e s =
      let m = alike_stepped t P q c d (alike c d q e s) in
      record {
        registers = m.registers;
        objects = m.objects;
        locals = λ r f. elim (cases_eq r q) [
          | inl k ↦ ap (step t P c q).locals k ∙ (m.local ∙ ap (step t P d q).locals (sym k))
          | inr a ↦ others_stepped t P q r c a ∙ (s.locals r f ∙ sym (others_stepped t P q r d a))
        ];
      }

  same_crash : (c d : Configuration L V) (q : ℕ) → Same c d
      → Same (after_crash P inputs c q) (after_crash P others d q)
  same_crash c d q s = record {
    registers = s.registers;
    objects = s.objects;
    locals = λ r f. elim (cases_eq r q) [
      | inl k ↦ ap (put c.locals q (P.start q (inputs q))) k
          ∙ (put-same c.locals q (P.start q (inputs q))
          ∙ (ap (P.start q) (ap inputs (sym k) ∙ (f ∙ ap others k))
          ∙ (sym (put-same d.locals q (P.start q (others q)))
          ∙ ap (put d.locals q (P.start q (others q))) (sym k))))
      | inr a ↦ put-other c.locals q (P.start q (inputs q)) r a
          ∙ (s.locals r f ∙ sym (put-other d.locals q (P.start q (others q)) r a))
    ];
  }

  same_after : (es : List Event) (c d : Configuration L V)
      → ((q : ℕ) → 1 ≤ steps_of q es → inputs q ≡ others q) → Same c d
      → Same (after_execution t P inputs c es) (after_execution t P others d es)
  same_after [] c d h s = s
  same_after (Step q ∷ es) c d h s =
      let one : hit q q ≡ 1 = rw (eq-eqb q q refl) refl in
      same_after es (step t P c q) (step t P d q) (λ r m.
      h r (omega (arith, m))) (same_step c d q (h q (omega (arith, one))) s)
  same_after (Crash q ∷ es) c d h s = same_after es (after_crash P inputs c q)
      (after_crash P others d q) h (same_crash c d q s)

  same_first : Same (initial P inputs) (initial P others)
  same_first = record {
    registers = λ i. refl;
    objects = λ i. refl;
    locals = λ q e.
        ap (P.start q) e;
  }

pub strongly_valid : {L V : Type 0} (t : ℕ → TypeTable) (n : ℕ) (P : Protocol L V)
    → HasRecoverableValidity t n P
    → HasStrongRecoverableValidity t n P
strongly_valid {L = L} {V = V} t n P validity inputs es h p x l e =
    let s = same_after t P inputs others es (initial P inputs) (initial P others) (λ q m.
    when_moved q m) (same_first t P inputs others) in
    let there : HasDecidedIn t P others es p x =
    sym (alike_decided t P p (after_execution t P inputs (initial P inputs) es)
    (after_execution t P others (initial P others) es)
    (alike t P inputs others (after_execution t P inputs (initial P inputs) es)
    (after_execution t P others (initial P others) es) p own s)) ∙ e in
    let v = validity others es h p x l there in
    let r = by_tests v.0 (nat_eq v.0 p) (nat_lt 0 (steps_of v.0 es)) refl refl v.2 in
    (v.0, v.1, r.0, r.1)
  where
    others : ℕ → Bool
    others q = cond (nat_eq q p) (inputs q) (cond (nat_lt 0 (steps_of q es)) (inputs q) (not x))

    both : (q : ℕ) (a : Bool) → inputs q ≡ cond a (inputs q) (inputs q)
    both q true = refl
    both q false = refl

    when_moved : (q : ℕ) → 1 ≤ steps_of q es → inputs q ≡ others q
    when_moved q m =
        let f : nat_lt 0 (steps_of q es) ≡ true = lt-ltb 0 (steps_of q es) (omega (arith, m)) in
        both q (nat_eq q p) ∙ ap (λ (b : Bool).
        cond (nat_eq q p) (inputs q) (cond b (inputs q) (not x))) (sym f)

    own : inputs p ≡ others p
    own = let f : nat_eq p p ≡ true = eq-eqb p p refl in ap (λ (b : Bool).
        cond b (inputs p) (cond (nat_lt 0 (steps_of p es)) (inputs p) (not x))) (sym f)

    not_self : (x : Bool) → not x ≡ x → ⊥
    not_self true e = absurd (cc e)
    not_self false e = absurd (cc e)

    by_tests : (q : ℕ) (a b : Bool) → nat_eq q p ≡ a → nat_lt 0 (steps_of q es) ≡ b
        → cond a (inputs q) (cond b (inputs q) (not x)) ≡ x
        → (inputs q ≡ x) × ((q ≡ p) ⊎ (1 ≤ steps_of q es))
    by_tests q true b f g e = (e, inl (eqb-true q p f))
    by_tests q false true f g e = (
      e,
      inr (let k =
          ltb-true 0 (steps_of q es) g in omega (arith, k)),
    )
    by_tests q false false f g e = absurd (not_self x e)
