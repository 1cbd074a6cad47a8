-- Configurations that look alike to a process: it does the same from both if it runs alone.
use Rattle.std.proofs.Common.{◌≡◌, ◌≢◌, ℕ, zero, suc, inl, inr, List, [], ◌∷◌, ◌++◌, refl, sym, ap}
use Rattle.std.proofs.Common.{◌∙◌, subst, Bool, true, false, cond, nat_eq, Some, replicate}
use Rattle.std.proofs.lemmas.Bool.{eq-eqb, eqb-true, ne_eqb, cases_eq}
use Rattle.cn_table.specs.TypeTable.{TypeTable, transition}
use Rattle.cn_consensus.specs.Protocol.{Action, Protocol}
use Rattle.cn_consensus.specs.Protocol.Action.{Decide, ReadRegister, WriteRegister, ApplyOperation}
use Rattle.cn_consensus.specs.Protocol.Action.{ReadObject}
use Rattle.cn_consensus.specs.Configuration.{Configuration, put, perform, step, after, decided_by}
use Rattle.cn_consensus.specs.Configuration.{decision}

-- ---- functions with another value at one place

pub put-same : {X : Type 0} (f : ℕ → X) (i : ℕ) (x : X) → put f i x i ≡ x
put-same f i x = rw (eq-eqb i i refl) refl

pub put-other : {X : Type 0} (f : ℕ → X) (i : ℕ) (x : X) (j : ℕ) → j ≢ i → put f i x j ≡ f j
put-other f i x j h = rw (ne_eqb j i h) refl

pub put-alike : {X : Type 0} (f g : ℕ → X) (i : ℕ) (x y : X) → ((j : ℕ) → f j ≡ g j) → x ≡ y
    → (j : ℕ) → put f i x j ≡ put g i y j
put-alike f g i x y h e j = by_test (nat_eq j i)
  where
    by_test : (b : Bool) → cond b x (f j) ≡ cond b y (g j)
    by_test true = e
    by_test false = h j

pub put-twice : {X : Type 0} (f : ℕ → X) (i : ℕ) (x y : X) (j : ℕ)
    → put (put f i x) i y j ≡ put f i y j
put-twice f i x y j = by_test (nat_eq j i)
  where
    by_test : (b : Bool) → cond b y (cond b x (f j)) ≡ cond b y (f j)
    by_test true = refl
    by_test false = refl

pub put-commute : {X : Type 0} (f : ℕ → X) (i k : ℕ) (x y : X) → i ≢ k → (j : ℕ)
    → put (put f i x) k y j ≡ put (put f k y) i x j
put-commute f i k x y h j = by_test (nat_eq j i) (nat_eq j k) refl refl
  where
    by_test : (a b : Bool) → nat_eq j i ≡ a → nat_eq j k ≡ b
        → cond b y (cond a x (f j)) ≡ cond a x (cond b y (f j))
    by_test true true d e = absurd (h (sym (eqb-true j i d) ∙ eqb-true j k e))
    by_test true false d e = refl
    by_test false true d e = refl
    by_test false false d e = refl

-- ---- configurations

pub record Alike {L V : Type 0} (p : ℕ) (c d : Configuration L V) : Type 0 where
  pub local : c.locals p ≡ d.locals p
  pub registers : (i : ℕ) → c.registers i ≡ d.registers i
  pub objects : (i : ℕ) → c.objects i ≡ d.objects i

module _ {L V : Type 0} (t : ℕ → TypeTable) (P : Protocol L V) where
  alike_performed : (p : ℕ) (c d : Configuration L V) (a : Action L V) → Alike p c d
      → Alike p (perform t c p a) (perform t d p a)
  alike_performed p c d (Decide x) h = h
  alike_performed p c d (ReadRegister i k) h = record {
    local = put-same c.locals p _ ∙ (ap k (h.registers i) ∙ sym (put-same d.locals p _));
    registers = h.registers;
    objects = h.objects;
  }
  alike_performed p c d (WriteRegister i v l) h = record {
    local = put-same c.locals p l ∙ sym (put-same d.locals p l);
    registers = put-alike c.registers d.registers i v v h.registers refl;
    objects = h.objects;
  }
  alike_performed p c d (ApplyOperation i o k) h = record {
    local = put-same c.locals p _ ∙ (ap (λ (q : ℕ). k (transition (t i) o q).0) (h.objects i)
        ∙ sym (put-same d.locals p _));
    registers = h.registers;
    objects = put-alike c.objects d.objects i _ _ h.objects (ap (λ (q : ℕ).
        (transition (t i) o q).1) (h.objects i));
  }
  alike_performed p c d (ReadObject i k) h = record {
    local = put-same c.locals p _ ∙ (ap k (h.objects i) ∙ sym (put-same d.locals p _));
    registers = h.registers;
    objects = h.objects;
  }

  pub alike_stepped : (p : ℕ) (c d : Configuration L V) → Alike p c d
      → Alike p (step t P c p) (step t P d p)
  alike_stepped p c d h = subst (λ (a : Action L V).
      Alike p (step t P c p) (perform t d p a)) (ap (P.action p) h.local)
      (alike_performed p c d (P.action p (c.locals p)) h)

  pub alike_alone : (p steps : ℕ) (c d : Configuration L V) → Alike p c d
      → Alike p (after t P c (replicate steps p)) (after t P d (replicate steps p))
  alike_alone p zero c d h = h
  alike_alone p (suc steps) c d h = alike_alone p steps (step t P c p) (step t P d p)
      (alike_stepped p c d h)

  pub alike_decided : (p : ℕ) (c d : Configuration L V) → Alike p c d
      → decision P c p ≡ decision P d p
  alike_decided p c d h = ap (λ (l : L). decided_by (P.action p l)) h.local

  -- ---- what a step leaves as it was

  pub others_performed : (p q : ℕ) (c : Configuration L V) (a : Action L V) → q ≢ p
      → (perform t c p a).locals q ≡ c.locals q
  others_performed p q c (Decide x) n = refl
  others_performed p q c (ReadRegister i k) n = put-other c.locals p _ q n
  others_performed p q c (WriteRegister i v l) n = put-other c.locals p _ q n
  others_performed p q c (ApplyOperation i o k) n = put-other c.locals p _ q n
  others_performed p q c (ReadObject i k) n = put-other c.locals p _ q n

  pub others_stepped : (p q : ℕ) (c : Configuration L V) → q ≢ p
      → (step t P c p).locals q ≡ c.locals q
  others_stepped p q c n = others_performed p q c (P.action p (c.locals p)) n

  -- a process that has decided takes no step
  pub stands : (p : ℕ) (c : Configuration L V) (x : Bool) → decision P c p ≡ Some x
      → step t P c p ≡ c
  stands p c x e = by_action (P.action p (c.locals p)) e
    where
      by_action : (a : Action L V) → decided_by a ≡ Some x → perform t c p a ≡ c
      by_action (Decide y) e = refl
      by_action (ReadRegister i k) e = absurd (cc e)
      by_action (WriteRegister i v l) e = absurd (cc e)
      by_action (ApplyOperation i o k) e = absurd (cc e)
      by_action (ReadObject i k) e = absurd (cc e)

  pub stays_by_step : (p q : ℕ) (c : Configuration L V) (x : Bool) → decision P c p ≡ Some x
      → decision P (step t P c q) p ≡ Some x
  stays_by_step p q c x e = elim (cases_eq p q) [
    | inl s ↦ ap (λ (d : Configuration L V). decision P d p) (ap (step t P c) (sym s)
        ∙ stands p c x e) ∙ e
    | inr n ↦ ap (λ (l : L). decided_by (P.action p l)) (others_stepped q p c n) ∙ e
  ]

  -- a decision stays
  pub stays : (p : ℕ) (schedule : List ℕ) (c : Configuration L V) (x : Bool)
      → decision P c p ≡ Some x → decision P (after t P c schedule) p ≡ Some x
  stays p [] c x e = e
  stays p (q ∷ schedule) c x e = stays p schedule (step t P c q) x (stays_by_step p q c x e)

  pub after-append : (c : Configuration L V) (s u : List ℕ)
      → after t P c (s ++ u) ≡ after t P (after t P c s) u
  after-append c [] u = refl
  after-append c (p ∷ s) u = after-append (step t P c p) s u
