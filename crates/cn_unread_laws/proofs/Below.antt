-- A step of the protocol below, as a step of the with_node protocol.
use Rattle.std.proofs.Common.{◌≡◌, ◌≢◌, ℕ, suc, inl, inr, refl, sym, ap, ◌∙◌, arith, Bool, Option}
use Rattle.std.proofs.Common.{None}
use Rattle.std.proofs.lemmas.Bool.{cases_eq}
use Rattle.cn_table.specs.TypeTable.{TypeTable, transition}
use Rattle.cn_choice.specs.declared.team.Team.{Team}
use Rattle.cn_choice.specs.declared.team.Team.TheVariants.{A, B}
use Rattle.cn_consensus.specs.Configuration.{Configuration, decided_by, perform, put}
use Rattle.cn_consensus.specs.Protocol.{Action}
use Rattle.cn_consensus.specs.Protocol.Action.{Decide, ReadRegister, WriteRegister, ApplyOperation}
use Rattle.cn_consensus.specs.Protocol.Action.{ReadObject}
use Rattle.cn_consensus.specs.Types.{all_of}
use Rattle.cn_consensus.proofs.Alike.{put-other, put-same}
use Rattle.cn_unread_laws.proofs.Groups.{Loc, raised, register_of}
use Rattle.cn_unread_laws.proofs.Groups.Loc.{Lower}
use Rattle.cn_unread.specs.Nodes.{Node}

pub put_up : {X : Type 0} (f k : ℕ → X) (i : ℕ) (x : X) → ((j : ℕ) → f (suc j) ≡ k j) → (j : ℕ)
    → put f (suc i) x (suc j) ≡ put k i x j
put_up f k i x e j = elim (cases_eq j i) [
  | inl s ↦ ap (λ (m : ℕ). put f (suc i) x (suc m)) s ∙ (put-same f (suc i) x
      ∙ (sym (put-same k i x) ∙ ap (put k i x) (sym s)))
  | inr m ↦ put-other f (suc i) x (suc j) (λ z. m (omega (arith, z))) ∙ (e j
      ∙ sym (put-other k i x j m))
]

pub put_up_twice : {X : Type 0} (f k : ℕ → X) (i : ℕ) (x : X)
    → ((j : ℕ) → f (suc (suc j)) ≡ k j) → (j : ℕ)
    → put f (suc (suc i)) x (suc (suc j)) ≡ put k i x j
put_up_twice f k i x e j = put_up f (λ m. f (suc m)) (suc i) x (λ m. refl) (suc j)
    ∙ put_up (λ m. f (suc m)) k i x e j

pub first_two : (side : Team) (i : ℕ) → register_of side ≢ suc (suc i)
first_two A i e = omega (arith, e)
first_two B i e = omega (arith, e)

-- the registers and objects of the protocol below are those of the with_node one behind its own
pub record Below (d e : Configuration Loc (Option Bool)) : Type 0 where
  pub registers : (i : ℕ) → e.registers (suc (suc i)) ≡ d.registers i
  pub objects : (i : ℕ) → e.objects (suc i) ≡ d.objects i

-- what a step below does to the with_node configuration
pub record Carried (p : ℕ) (d e f : Configuration Loc (Option Bool)) : Type 0 where
  pub below : Below d f
  pub own : f.locals p ≡ Lower (d.locals p)
  pub front : (side : Team) → f.registers (register_of side) ≡ e.registers (register_of side)
  pub object : f.objects 0 ≡ e.objects 0

module _ (t : TypeTable) (node : Node) (team : ℕ → Team) (seat : Option ℕ) (p : ℕ)
    (d e : Configuration Loc (Option Bool)) (m : Below d e) where
  own_local : (x : Loc) (y : Loc) → x ≡ y
      → put e.locals p (Lower x) p ≡ Lower (put d.locals p y p)
  own_local x y s = put-same e.locals p (Lower x) ∙ (ap Lower s
      ∙ ap Lower (sym (put-same d.locals p y)))

  pub carried : (c : Action Loc (Option Bool)) → decided_by c ≡ None
      → Carried p (perform (all_of t) d p c) e (perform (all_of t) e p (raised node team seat c))
  carried (Decide x) f = absurd (cc f)
  carried (ReadRegister i k) f = record {
    below = record { registers = m.registers; objects = m.objects };
    own = own_local _ _ (ap k (m.registers i));
    front = λ side. refl;
    object = refl;
  }
  carried (WriteRegister i v l) f = record {
    below = record {
      registers = put_up_twice e.registers d.registers i v m.registers;
      objects = m.objects;
    };
    own = own_local _ _ refl;
    front = λ side. put-other e.registers (suc (suc i)) v (register_of side) (first_two side i);
    object = refl;
  }
  carried (ApplyOperation i o k) f = record {
    below = record {
      registers = m.registers;
      objects = λ j. put_up e.objects d.objects i _ m.objects j
          ∙ ap (λ (q : ℕ). put d.objects i (transition t o q).1 j) (m.objects i);
    };
    own = own_local _ _ (ap (λ (q : ℕ). k (transition t o q).0) (m.objects i));
    front = λ side. refl;
    object = put-other e.objects (suc i) _ 0 (λ z. omega (arith, z));
  }
  carried (ReadObject i k) f = record {
    below = record { registers = m.registers; objects = m.objects };
    own = own_local _ _ (ap k (m.objects i));
    front = λ side. refl;
    object = refl;
  }
