-- A step touches one register alone, or one object alone.
use Rattle.std.proofs.Common.{◌≡◌, ◌≢◌, ℕ, inl, inr, refl, sym, ap, ◌∙◌}
use Rattle.std.proofs.lemmas.Bool.{eq-eqb, ne_eqb}
use Rattle.cn_table.specs.TypeTable.{TypeTable, transition}
use Rattle.cn_consensus.specs.Protocol.{Action}
use Rattle.cn_consensus.specs.Protocol.Action.{Decide, ReadRegister, WriteRegister, ApplyOperation}
use Rattle.cn_consensus.specs.Protocol.Action.{ReadObject}
use Rattle.cn_consensus.specs.Configuration.{put}
use Rattle.cn_runs.specs.Steps.{TouchesOne}

put-same : {X : Type 0} (f : ℕ → X) (i : ℕ) (x : X) → put f i x i ≡ x
put-same f i x = rw (eq-eqb i i refl) refl

put-other : {X : Type 0} (f : ℕ → X) (i : ℕ) (x : X) (j : ℕ) → j ≢ i → put f i x j ≡ f j
put-other f i x j h = rw (ne_eqb j i h) refl

same : {X : Type 0} (f g : ℕ → X) (p : ℕ) (x y : X) → x ≡ y → put f p x p ≡ put g p y p
same f g p x y e = put-same f p x ∙ (e ∙ sym (put-same g p y))

pub touches_one : {L V : Type 0} (t : ℕ → TypeTable) (p : ℕ) (a : Action L V) → TouchesOne t p a
touches_one t p (Decide x) = inl (
  0,
  record {
    answer = λ c d l e. l;
    registers = λ c j h. refl;
    objects = λ c j. refl;
  },
)
touches_one t p (ReadRegister i k) = inl (
  i,
  record {
    answer = λ c d l e. same c.locals d.locals p (k (c.registers i)) (k (d.registers i)) (ap k e);
    registers = λ c j h. refl;
    objects = λ c j. refl;
  },
)
touches_one t p (WriteRegister i v l) = inl (
  i,
  record {
    answer = λ c d m e. same c.locals d.locals p l l refl;
    registers = λ c j h. put-other c.registers i v j h;
    objects = λ c j. refl;
  },
)
touches_one t p (ApplyOperation i operation k) = inr (
  i,
  record {
    answer = λ c d l e. same c.locals d.locals p _ _
        (ap (λ q. k (transition (t i) operation q).0) e);
    registers = λ c j. refl;
    objects = λ c j h. put-other c.objects i _ j h;
  },
)
touches_one t p (ReadObject i k) = inr (
  i,
  record {
    answer = λ c d l e. same c.locals d.locals p (k (c.objects i)) (k (d.objects i)) (ap k e);
    registers = λ c j. refl;
    objects = λ c j h. refl;
  },
)
