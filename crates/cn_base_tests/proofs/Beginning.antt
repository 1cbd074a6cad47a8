-- A round while its processes begin.
use Rattle.std.proofs.Common.{ℕ, zero, suc, ◌≡◌, ◌≢◌, ◌+◌, ◌<◌, ◌≤◌, [], replicate, slice_index_or, refl, sym, ap, ◌∙◌, arith, length, get_or-set_same, get_or-set_other}
use Rattle.std.proofs.Math.Logic.{⊎_elim}
use Rattle.std.proofs.lemmas.Bool.{cases_eq}
use Rattle.cn_proto.specs.Plan.{Plan, protocol_of, processes_of, nodes_of}
use Rattle.cn_agree.specs.declared.local.Stage.TheVariants.{Write}
use Rattle.cn_agree.specs.declared.local.Local.{Local}
use Rattle.cn_agree.specs.declared.local.Local.TheVariants.{NotBegun, Active}
use Rattle.cn_agree.specs.World.{World, local_at}
use Rattle.cn_agree.specs.Steps.{after_begin}
use Rattle.cn_agree.specs.Reached.{first_world, HasBegun}
use Rattle.cn_agree.specs.Rounds.{IsRoundOf}
use Rattle.cn_agree.specs.Beginning.{AllHaveBegun}

-- a round without steps in which the first i processes have begun, and no other
pub record HasBegunTo {V : Type 0} (plan : Plan) (i : ℕ) (w : World V) : Type 0 where
  pub round : IsRoundOf plan [] w
  pub begun : AllHaveBegun i w
  pub waiting : (p : ℕ) → i ≤ p → local_at w p ≡ NotBegun

pub none_begun : {V : Type 0} (plan : Plan) (w : World V) → w ≡ first_world (protocol_of plan) (processes_of plan) (nodes_of plan) → IsRoundOf plan [] w → HasBegunTo plan 0 w
none_begun {V = V} plan w is r = record {
  round = r;
  begun = λ p lt. absurd (omega arith);
  waiting = λ p le. ap (λ (u : World V). local_at u p) is ∙ waits (processes_of plan) p;
}
  where
    idle : Local V
    idle = NotBegun

    waits : (n p : ℕ) → slice_index_or (replicate n idle) p idle ≡ idle
    waits zero p = refl
    waits (suc n) zero = refl
    waits (suc n) (suc p) = waits n p

pub one_more_begun : {V : Type 0} (plan : Plan) (i : ℕ) (x : V) (w w' : World V) → i < length w.locals → HasBegunTo plan i w → w' ≡ after_begin i x w → IsRoundOf plan [] w'
    → HasBegunTo plan (i + 1) w'
one_more_begun {V = V} plan i x w w' lt h is r = record {
  round = r;
  begun = λ p less. ⊎_elim (own p) (λ other. earlier p less other) (cases_eq p i);
  waiting = λ p le. at p ∙ get_or-set_other w.locals i p (Active 0 x Write) NotBegun (λ e. absurd (omega arith)) ∙ h.waiting p (omega arith);
}
  where
    at : (p : ℕ) → local_at w' p ≡ local_at (after_begin i x w) p
    at p = ap (λ (u : World V). local_at u p) is

    own : (p : ℕ) → p ≡ i → HasBegun w' p
    own p e waits = let f : Active 0 x Write ≡ NotBegun = sym (get_or-set_same w.locals i (Active 0 x Write) NotBegun lt) ∙ ap (local_at (after_begin i x w)) (sym e) ∙ sym (at p) ∙ waits in cc

    earlier : (p : ℕ) → p < i + 1 → p ≢ i → HasBegun w' p
    earlier p less other waits = h.begun p (omega arith) (sym (get_or-set_other w.locals i p (Active 0 x Write) NotBegun other) ∙ sym (at p) ∙ waits)
