-- Two actions, one after the other: where process q sees nothing of the first, and where it does
-- not see their order.
use Rattle.std.proofs.Common.{◌≡◌, ◌≢◌, ℕ, refl, sym, ap, ◌∙◌}
use Rattle.cn_table.specs.TypeTable.{TypeTable, transition}
use Rattle.cn_consensus.specs.Protocol.{Action, Protocol}
use Rattle.cn_consensus.specs.Protocol.Action.{ReadRegister, WriteRegister, ApplyOperation}
use Rattle.cn_consensus.specs.Protocol.Action.{ReadObject}
use Rattle.cn_consensus.specs.Configuration.{Configuration, put, perform, step}
use Rattle.cn_consensus.proofs.Alike.{Alike, put-same, put-other, put-alike, put-twice, put-commute}
use Rattle.cn_consensus.proofs.Alike.{others_stepped}

module _ {L V : Type 0} (t : ℕ → TypeTable) (p q : ℕ) (n : q ≢ p) (c : Configuration L V) where
  -- q does not see that p has read
  pub read_unseen : (i : ℕ) (k : V → L) → Alike q (perform t c p (ReadRegister i k)) c
  read_unseen i k = record {
    local = put-other c.locals p _ q n;
    registers = λ j. refl;
    objects =
        λ j. refl;
  }

  pub look_unseen : (i : ℕ) (k : ℕ → L) → Alike q (perform t c p (ReadObject i k)) c
  look_unseen i k = record {
    local = put-other c.locals p _ q n;
    registers = λ j. refl;
    objects =
        λ j. refl;
  }

  -- q overwrites what p has written
  pub overwritten : (i : ℕ) (v u : V) (l m : L)
      → Alike q (perform t (perform t c p (WriteRegister i v l)) q (WriteRegister i u m))
      (perform t c q (WriteRegister i u m))
  overwritten i v u l m = record {
    local = put-same (put c.locals p l) q m ∙ sym (put-same c.locals q m);
    registers = put-twice c.registers i v u;
    objects = λ j. refl;
  }

  -- q sees its own local state, and not that of p
  own : (x y z : L) → y ≡ z → put (put c.locals p x) q y q ≡ put (put c.locals q z) p x q
  own x y z e = put-same (put c.locals p x) q y
      ∙ (e ∙ (sym (put-same c.locals q z) ∙ sym (put-other (put c.locals q z) p x q n)))

  pub writes_commute : (i j : ℕ) (v u : V) (l m : L) → i ≢ j
      → Alike q (perform t (perform t c p (WriteRegister i v l)) q (WriteRegister j u m))
      (perform t (perform t c q (WriteRegister j u m)) p (WriteRegister i v l))
  writes_commute i j v u l m d = record {
    local = own l m m refl;
    registers =
        put-commute c.registers i j v u d;
    objects = λ k. refl;
  }

  pub write_apply_commute : (i j o : ℕ) (v : V) (l : L) (k : ℕ → L)
      → Alike q (perform t (perform t c p (WriteRegister i v l)) q (ApplyOperation j o k))
      (perform t (perform t c q (ApplyOperation j o k)) p (WriteRegister i v l))
  write_apply_commute i j o v l k = record {
    local = own l _ _ refl;
    registers = λ x.
        refl;
    objects = λ x. refl;
  }

  pub apply_write_commute : (i j o : ℕ) (v : V) (l : L) (k : ℕ → L)
      → Alike q (perform t (perform t c p (ApplyOperation i o k)) q (WriteRegister j v l))
      (perform t (perform t c q (WriteRegister j v l)) p (ApplyOperation i o k))
  apply_write_commute i j o v l k = record {
    local = own _ l l refl;
    registers = λ x.
        refl;
    objects = λ x. refl;
  }

  pub applies_commute : (i j o r : ℕ) (k m : ℕ → L) → i ≢ j
      → Alike q (perform t (perform t c p (ApplyOperation i o k)) q (ApplyOperation j r m))
      (perform t (perform t c q (ApplyOperation j r m)) p (ApplyOperation i o k))
  applies_commute i j o r k m d =
      let at_j : put c.objects i (transition (t i) o (c.objects i)).1 j ≡ c.objects j =
      put-other c.objects i _ j (λ e. d (sym e)) in
      let at_i : put c.objects j (transition (t j) r (c.objects j)).1 i ≡ c.objects i =
      put-other c.objects j _ i d in
      record {
        local =
            put-same (put c.locals p _) q _ ∙ (ap (λ (s : ℕ). m (transition (t j) r s).0) at_j
            ∙ (sym (put-same c.locals q _) ∙ sym (put-other (put c.locals q _) p _ q n)));
        registers = λ x. refl;
        objects = λ x.
            put-alike (put c.objects i _) (put c.objects i _) j _ _ (λ y.
            refl) (ap (λ (s : ℕ). (transition (t j) r s).1) at_j) x
            ∙ (put-commute c.objects i j _ _ d x
            ∙ put-alike (put c.objects j _) (put c.objects j _) i _ _ (λ y.
            refl) (sym (ap (λ (s : ℕ). (transition (t i) o s).1) at_i)) x);
      }

  -- two steps, by their actions
  pub two_steps : (P : Protocol L V) (a b : Action L V) → P.action p (c.locals p) ≡ a
      → P.action q (c.locals q) ≡ b → step t P (step t P c p) q ≡ perform t (perform t c p a) q b
  two_steps P a b e f =
      ap (perform t (step t P c p) q) (ap (P.action q) (others_stepped t P p q c n) ∙ f)
      ∙ ap (λ (d : Configuration L V). perform t d q b) (ap (perform t c p) e)
