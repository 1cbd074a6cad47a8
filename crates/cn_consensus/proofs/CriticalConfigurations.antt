-- A critical configuration: each process is about to apply an operation to one and the same object.
use Rattle.std.proofs.Common.{◌≡◌, ◌≢◌, ℕ, ◌<◌, inl, inr, List, [], ◌∷◌, ◌++◌, refl, sym, ap, ◌∙◌}
use Rattle.std.proofs.Common.{subst, Bool, true, false, Some, replicate, true≢false}
use Rattle.std.proofs.lemmas.Bool.{cases_eq}
use Rattle.cn_table.specs.TypeTable.{TypeTable}
use Rattle.cn_consensus.specs.Protocol.{Action, Protocol}
use Rattle.cn_consensus.specs.Protocol.Action.{Decide, ReadRegister, WriteRegister, ApplyOperation}
use Rattle.cn_consensus.specs.Protocol.Action.{ReadObject}
use Rattle.cn_consensus.specs.Configuration.{Configuration, perform, step, after, decided_by}
use Rattle.cn_consensus.specs.Configuration.{decision}
use Rattle.cn_consensus.specs.Consensus.{IsSchedule}
use Rattle.cn_consensus.specs.Valence.{DecidesAlone, IsCritical, IsValent}
use Rattle.cn_consensus.proofs.Alike.{Alike, after-append, alike_alone, alike_decided}
use Rattle.cn_consensus.proofs.Alike.{alike_stepped, stays_by_step}
use Rattle.cn_consensus.proofs.Counting.{schedule-alone, schedule-append}
use Rattle.cn_consensus.proofs.TwoSteps.{applies_commute, apply_write_commute, look_unseen}
use Rattle.cn_consensus.proofs.TwoSteps.{overwritten, read_unseen, two_steps, write_apply_commute}
use Rattle.cn_consensus.proofs.TwoSteps.{writes_commute}

-- process p is about to apply an operation to object i
abbrev pub Applies : {L V : Type 0} → Protocol L V → Configuration L V → ℕ → ℕ → Type 0
Applies {L = L} P c p i = (o : ℕ) × (k : ℕ → L) × (P.action p (c.locals p) ≡ ApplyOperation i o k)

module _ {L V : Type 0} (t : ℕ → TypeTable) (n : ℕ) (P : Protocol L V) where
  pub valent_later : (x : Bool) (c : Configuration L V) (s : List ℕ) → IsSchedule n s
      → IsValent t n P x c → IsValent t n P x (after t P c s)
  valent_later x c s k h u ku p l y e = h (s ++ u) (schedule-append n s u k ku) p l y
      (ap (λ (d : Configuration L V). decision P d p) (after-append t P c s u) ∙ e)

  -- configurations that look alike to some process have one valence
  pub clash : (p : ℕ) (c d : Configuration L V) (x y : Bool) → p < n → DecidesAlone t n P c
      → Alike p c d → IsValent t n P x c → IsValent t n P y d → x ≡ y
  clash p c d x y l f a h k =
      let r = f p l in
      let alone = schedule-alone n p r.0 l in
      sym (h (replicate r.0 p) alone p l r.1 r.2)
      ∙ k (replicate r.0 p) alone p l r.1 (sym
      (alike_decided t P p _ _ (alike_alone t P p r.0 c d a)) ∙ r.2)

  module _ (c : Configuration L V) (w : IsCritical t n P c) where
    undecided : (p : ℕ) → p < n → (x : Bool) → decision P c p ≡ Some x → ⊥
    undecided p l x e =
        let at : (q : ℕ) → q < n → x ≡ w.valence q = λ q m.
        w.valent q m [] tt p l x (stays_by_step t P p q c x e) in
        true≢false (sym w.high_valence ∙ (sym (at w.high w.high_known)
        ∙ (at w.low w.low_known ∙ w.low_valence)))

    no_trace : (p q : ℕ) → p < n → q < n → w.valence p ≢ w.valence q
        → Alike q (step t P (step t P c p) q) (step t P c q) → ⊥
    no_trace p q l m d a =
        d (clash q (step t P (step t P c p) q) (step t P c q) (w.valence p) (w.valence q) m
        (w.finishes (p ∷ q ∷ []) (l, (m, tt))) a
        (valent_later (w.valence p) (step t P c p) (q ∷ []) (m, tt) (w.valent p l)) (w.valent q m))

    no_order : (p q : ℕ) → p < n → q < n → w.valence p ≢ w.valence q
        → Alike q (step t P (step t P c p) q) (step t P (step t P c q) p) → ⊥
    no_order p q l m d a =
        d (clash q (step t P (step t P c p) q) (step t P (step t P c q) p) (w.valence p)
        (w.valence q) m (w.finishes (p ∷ q ∷ []) (l, (m, tt))) a
        (valent_later (w.valence p) (step t P c p) (q ∷ []) (m, tt) (w.valent p l))
        (valent_later (w.valence q) (step t P c q) (p ∷ []) (l, tt) (w.valent q m)))

    -- p does not read
    seen : (p q : ℕ) → p < n → q < n → w.valence p ≢ w.valence q → Alike q (step t P c p) c → ⊥
    seen p q l m d a = no_trace p q l m d (alike_stepped t P q (step t P c p) c a)

    module _ (p q : ℕ) (l : p < n) (m : q < n) (d : w.valence p ≢ w.valence q) where
      apart : q ≢ p
      apart e = d (ap w.valence (sym e))

      back : w.valence q ≢ w.valence p
      back e = d (sym e)

      by_order : (a b : Action L V) → P.action p (c.locals p) ≡ a → P.action q (c.locals q) ≡ b
          → Alike q (perform t (perform t c p a) q b) (perform t (perform t c q b) p a) → ⊥
      by_order a b e f h =
          no_order p q l m d (subst (λ (z : Configuration L V).
          Alike q z (step t P (step t P c q) p)) (sym (two_steps t p q apart c P a b e f))
          (subst (λ (z : Configuration L V). Alike q (perform t (perform t c p a) q b) z)
          (sym (two_steps t q p (λ e. apart (sym e)) c P b a f e)) h))

      by_trace : (a b : Action L V) → P.action p (c.locals p) ≡ a → P.action q (c.locals q) ≡ b
          → Alike q (perform t (perform t c p a) q b) (perform t c q b) → ⊥
      by_trace a b e f h =
          no_trace p q l m d (subst (λ (z : Configuration L V).
          Alike q z (step t P c q)) (sym (two_steps t p q apart c P a b e f))
          (subst (λ (z : Configuration L V). Alike q (perform t (perform t c p a) q b) z)
          (sym (ap (perform t c q) f)) h))

      first_reads : (a : Action L V) → P.action p (c.locals p) ≡ a → Alike q (perform t c p a) c → ⊥
      first_reads a e h = seen p q l m d (subst (λ (z : Configuration L V).
          Alike q z c) (sym (ap (perform t c p) e)) h)

      second_reads : (b : Action L V) → P.action q (c.locals q) ≡ b → Alike p (perform t c q b) c
          → ⊥
      second_reads b f h = seen q p m l back (subst (λ (z : Configuration L V).
          Alike p z c) (sym (ap (perform t c q) f)) h)

      abbrev Meet : Type 0
      Meet = (i : ℕ) × Applies P c p i × Applies P c q i

      -- two processes of different valences are about to apply operations to one object
      by_actions : (a b : Action L V) → P.action p (c.locals p) ≡ a → P.action q (c.locals q) ≡ b
          → Meet
      by_actions (Decide x) b e f = absurd (undecided p l x (ap decided_by e))
      by_actions (ReadRegister i k) b e f = absurd
          (first_reads (ReadRegister i k) e (read_unseen t p q apart c i k))
      by_actions (ReadObject i k) b e f = absurd
          (first_reads (ReadObject i k) e (look_unseen t p q apart c i k))
      by_actions (WriteRegister i v x) (Decide y) e f = absurd (undecided q m y (ap decided_by f))
      by_actions (WriteRegister i v x) (ReadRegister j k) e f =
          absurd (second_reads (ReadRegister j k) f (read_unseen t q p (λ z. apart (sym z)) c j k))
      by_actions (WriteRegister i v x) (ReadObject j k) e f =
          absurd (second_reads (ReadObject j k) f (look_unseen t q p (λ z. apart (sym z)) c j k))
      by_actions (WriteRegister i v x) (WriteRegister j u y) e f = absurd (elim (cases_eq i j) [
        | inl s ↦ by_trace (WriteRegister i v x) (WriteRegister i u y) e (f
            ∙ ap (λ (z : ℕ). WriteRegister z u y) (sym s)) (overwritten t p q apart c i v u x y)
        | inr s ↦ by_order (WriteRegister i v x) (WriteRegister j u y) e f
            (writes_commute t p q apart c i j v u x y s)
      ])
      by_actions (WriteRegister i v x) (ApplyOperation j o k) e f =
          absurd (by_order (WriteRegister i v x) (ApplyOperation j o k) e f
          (write_apply_commute t p q apart c i j o v x k))
      by_actions (ApplyOperation i o k) (Decide y) e f = absurd (undecided q m y (ap decided_by f))
      by_actions (ApplyOperation i o k) (ReadRegister j h) e f =
          absurd (second_reads (ReadRegister j h) f (read_unseen t q p (λ z. apart (sym z)) c j h))
      by_actions (ApplyOperation i o k) (ReadObject j h) e f =
          absurd (second_reads (ReadObject j h) f (look_unseen t q p (λ z. apart (sym z)) c j h))
      by_actions (ApplyOperation i o k) (WriteRegister j v x) e f =
          absurd (by_order (ApplyOperation i o k) (WriteRegister j v x) e f
          (apply_write_commute t p q apart c i j o v x k))
      by_actions (ApplyOperation i o k) (ApplyOperation j r h) e f = elim (cases_eq i j) [
        | inl s ↦ (i, (o, k, e), (r, h, f ∙ ap (λ (z : ℕ). ApplyOperation z r h) (sym s)))
        | inr s ↦ absurd (by_order (ApplyOperation i o k) (ApplyOperation j r h) e f
            (applies_commute t p q apart c i j o r k h s))
      ]

      meet : Meet
      meet = by_actions (P.action p (c.locals p)) (P.action q (c.locals q)) refl refl

    -- the object of the two processes whose valences are known
    pub meeting : (i : ℕ) × Applies P c w.low i × Applies P c w.high i
    meeting = meet w.low w.high w.low_known w.high_known (λ e.
        true≢false (sym w.high_valence ∙ (sym e ∙ w.low_valence)))

    same_object : (p i j : ℕ) → Applies P c p i → Applies P c p j → i ≡ j
    same_object p i j a b = object_of (P.action p (c.locals p)) (ApplyOperation i a.0 a.1)
        (ApplyOperation j b.0 b.1) a.2 b.2
      where
        object_of : (z x y : Action L V) → z ≡ ApplyOperation i a.0 a.1
            → z ≡ ApplyOperation j b.0 b.1 → i ≡ j
        object_of z x y e f = cc (e, f)

    -- each process is about to apply an operation to that object
    pub all_meet : (p : ℕ) → p < n → Applies P c p meeting.0
    all_meet p l = by_valence (w.valence p) refl
      where
        by_valence : (x : Bool) → w.valence p ≡ x → Applies P c p meeting.0
        by_valence true e =
            let r = meet w.low p w.low_known l (λ f.
            true≢false (sym e ∙ (sym f ∙ w.low_valence))) in
            subst (Applies P c p) (same_object w.low r.0 meeting.0 r.1 meeting.1) r.2
        by_valence false e =
            let r = meet w.high p w.high_known l (λ f. true≢false (sym w.high_valence ∙ (f ∙ e))) in
            subst (Applies P c p) (same_object w.high r.0 meeting.0 r.1 meeting.2) r.2
