-- Two configurations that differ in the state of one object, after an action in both or in one.
use Rattle.std.proofs.Common.{◌≡◌, ◌≢◌, ℕ, inl, inr, refl, sym, ap, ◌∙◌, subst}
use Rattle.std.proofs.lemmas.Bool.{cases_eq}
use Rattle.cn_table.specs.TypeTable.{TypeTable, transition}
use Rattle.cn_consensus.specs.Protocol.Action.{ReadRegister, WriteRegister, ApplyOperation}
use Rattle.cn_consensus.specs.Protocol.Action.{ReadObject}
use Rattle.cn_consensus.specs.Configuration.{Configuration, perform, put}
use Rattle.cn_consensus.proofs.Alike.{put-alike, put-other, put-same}

-- all registers and all other objects are the same; this object is in the states r and s
pub record Split {L V : Type 0} (object r s : ℕ) (d e : Configuration L V) : Type 0 where
  pub registers : (i : ℕ) → d.registers i ≡ e.registers i
  pub others : (i : ℕ) → i ≢ object → d.objects i ≡ e.objects i
  pub here : d.objects object ≡ r
  pub there : e.objects object ≡ s

module _ {L V : Type 0} (t : ℕ → TypeTable) (object : ℕ) where
  -- an action that does not touch the object
  module _ (r s : ℕ) (d e : Configuration L V) (h : Split object r s d e) (j : ℕ) where
    pub split_read : (i : ℕ) (k : V → L)
        → Split object r s (perform t d j (ReadRegister i k)) (perform t e j (ReadRegister i k))
    split_read i k = record {
      registers = h.registers;
      others = h.others;
      here = h.here;
      there = h.there;
    }

    pub split_look : (i : ℕ) (k : ℕ → L)
        → Split object r s (perform t d j (ReadObject i k)) (perform t e j (ReadObject i k))
    split_look i k = record {
      registers = h.registers;
      others = h.others;
      here = h.here;
      there = h.there;
    }

    pub split_write : (i : ℕ) (v : V) (l : L)
        → Split object r s (perform t d j (WriteRegister i v l))
        (perform t e j (WriteRegister i v l))
    split_write i v l = record {
      registers = put-alike d.registers e.registers i v v h.registers refl;
      others = h.others;
      here = h.here;
      there = h.there;
    }

    pub split_elsewhere : (i o : ℕ) (k : ℕ → L) → i ≢ object
        → Split object r s (perform t d j (ApplyOperation i o k))
        (perform t e j (ApplyOperation i o k))
    split_elsewhere i o k n = record {
      registers = h.registers;
      others = λ x m. elim (cases_eq x i) [
        | inl same ↦ subst (λ (y : ℕ). put d.objects i (transition (t i) o (d.objects i)).1 y
            ≡ put e.objects i (transition (t i) o (e.objects i)).1 y) (sym same)
            (put-same d.objects i _ ∙ (ap (λ (q : ℕ). (transition (t i) o q).1) (h.others i n)
            ∙ sym (put-same e.objects i _)))
        | inr apart ↦ put-other d.objects i _ x apart
            ∙ (h.others x m ∙ sym (put-other e.objects i _ x apart))
      ];
      here = put-other d.objects i _ object (λ z. n (sym z)) ∙ h.here;
      there = put-other e.objects i _ object (λ z. n (sym z)) ∙ h.there;
    }

    -- an operation on the object, in one of them
    pub split_here : (o : ℕ) (k : ℕ → L)
        → Split object (transition (t object) o r).1 s
        (perform t d j (ApplyOperation object o k)) e
    split_here o k = record {
      registers = h.registers;
      others = λ x m. put-other d.objects object _ x m ∙ h.others x m;
      here = put-same d.objects object _ ∙ ap (λ (q : ℕ). (transition (t object) o q).1) h.here;
      there = h.there;
    }

    pub split_there : (o : ℕ) (k : ℕ → L)
        → Split object r (transition (t object) o s).1
        d (perform t e j (ApplyOperation object o k))
    split_there o k = record {
      registers = h.registers;
      others = λ x m. h.others x m ∙ sym (put-other e.objects object _ x m);
      here = h.here;
      there = put-same e.objects object _ ∙ ap (λ (q : ℕ). (transition (t object) o q).1) h.there;
    }
