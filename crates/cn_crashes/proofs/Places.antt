-- A process at a place of its path in a recoverable round: what its step there may use.
use Rattle.std.proofs.Common.{◌≡◌, ◌≢◌, ℕ, suc, ◌+◌, ◌<◌, inl, inr, List, [], ◌∷◌, ◌++◌, length}
use Rattle.std.proofs.Common.{sym, refl, ap, ◌∙◌, subst, arith, Bool, true, false, cond, nat_lt}
use Rattle.std.proofs.Common.{Some}
use Rattle.std.proofs.lemmas.Bool.{ltb-true, ltb-false}
use Rattle.cn_choice.specs.declared.team.Team.{Team}
use Rattle.cn_choice.specs.declared.team.Team.TheVariants.{A, B}
use Rattle.cn_choice.proofs.ListLemmas.Members.{IsIn}
use Rattle.cn_proto.specs.Order.{after, IsRun}
use Rattle.cn_proto.specs.declared.place.Place.{Place}
use Rattle.cn_consensus.specs.Configuration.{put}
use Rattle.cn_consensus.proofs.Alike.{put-same}
use Rattle.cn_crashes.specs.RecoverableRound.{RecoverableStage, onward}
use Rattle.cn_crashes.specs.RecoverableRound.RecoverableLocal.{Active, Decided}
use Rattle.cn_crashes.specs.RecoverableRound.RecoverableStage.{Write}
use Rattle.cn_crashes.proofs.NodeStatus.{Ghost, Grows, Held, Outcome, Registers, Status, winner_of}
use Rattle.cn_crashes.proofs.RoleRuns.{after_push, in_or_not, run_alone, run_push}
use Rattle.cn_crashes.proofs.RoundInvariant.{FedFrom, Holds, IsInput, LocalHolds, Setting}
use Rattle.cn_crashes.proofs.RoundInvariant.{StageHolds, World, at, fed_grows}

pub winner_there : (g : Ghost) (v : ℕ) (st : Status) (side : Team) → winner_of st ≡ Some side
    → winner_of (put g v st v) ≡ Some side
winner_there g v st side e = ap winner_of (put-same g v st) ∙ e

pub same_value : {T : Type 0} {y z : T} → Some y ≡ Some z → y ≡ z
same_value e = cc e

module _ (S : Setting) where
  a_is_not_b : {T : Type 0} → A ≡ B → T
  a_is_not_b e = absurd (cc e)

  -- a run of team A does not lead to the start state
  pub a_leaves : (order : List ℕ) → IsRun S.count S.team A order
      → after S.plan.round.act S.plan.round.start order ≡ S.plan.round.start → ⊥
  a_leaves order r e = a_is_not_b (sym (S.right.right A order r)
      ∙ (ap S.plan.judge e ∙ S.right.start_is_b))

  -- where a run of team B leads back, role 0 of team A, which is alone there, has moved
  pub lone_in : (order : List ℕ) → 0 < S.count → S.team 0 ≡ A → IsRun S.count S.team B order
      → after S.plan.round.act S.plan.round.start order ≡ S.plan.round.start → IsIn 0 order
  lone_in order l e r f = elim (in_or_not 0 order) [
    | inl i ↦ i
    | inr new ↦
        (let with_it : after S.plan.round.act S.plan.round.start (order ++ 0 ∷ []) ≡ after
        S.plan.round.act
        S.plan.round.start (0 ∷ []) =
        after_push S.plan.round.act S.plan.round.start order 0
        ∙ ap (λ (q : ℕ). (S.plan.round.act 0 q).1) f in
        a_is_not_b (sym (S.right.right A (0 ∷ []) (run_alone S.count S.team A 0 e l))
        ∙ (ap S.plan.judge (sym with_it) ∙ S.right.right B (order ++ 0 ∷ [])
        (run_push S.count S.team B order 0 r new l))))
  ]

  -- a process of team A that is alone is role 0
  pub lone_role : S.plan.lone ≡ true → (q j : ℕ) → q < S.count → j < length (S.plan.round.path q)
      → (at S q j).team ≡ A
      → ((at S q j).role ≡ 0) × (0 < S.count) × (S.team 0 ≡ A)
  lone_role f q j lq lj e =
      let known = S.sound.roles_below q j (lq, lj) in
      let side : S.team (at S q j).role ≡ A = S.sound.teams q j (lq, lj)
      ∙ e in
      let zero_is : (at S q j).role ≡ 0 =
      S.right.loner f (at S q j).role known side in
      (zero_is, omega (arith, known), ap S.team (sym zero_is) ∙ side)

  -- process p is at place i of its path with value x
  pub record Standing (g : Ghost) (c : World) (p i : ℕ) (x : Bool) : Type 0 where
    pub holds : Holds S g c
    pub known : p < S.count
    pub inside : i < length (S.plan.round.path p)
    pub input : IsInput S x
    pub fed : FedFrom S g c.registers p i x

  module _ (g : Ghost) (c : World) (p i : ℕ) (x : Bool) (stand : Standing g c p i x) where
    abbrev here : Place
    here = at S p i

    abbrev v : ℕ
    v = here.node

    abbrev places : ℕ
    places = length (S.plan.round.path p)

    abbrev rs : Registers
    rs = c.registers

    pub role_known : here.role < S.count
    role_known = S.sound.roles_below p i (stand.known, stand.inside)

    pub role_team : S.team here.role ≡ here.team
    role_team = S.sound.teams p i (stand.known, stand.inside)

    -- another process at the node has another role
    pub other_role : (q j : ℕ) → q < S.count → q ≢ p → j < length (S.plan.round.path q)
        → (at S q j).node ≡ v
        → (at S q j).role ≢ here.role
    other_role q j lq d lj e f = d (S.sound.one_holder q j p i (lq, lj) (
      stand.known,
      stand.inside,
    ) e f).0

    pub outcome_input : (y : Bool) (side : Team) → Held rs v side y
        → IsInput S y
    outcome_input y side k = (stand.holds.held v side y k).5

    -- onward with the outcome of the node
    pub onward_holds : (g' : Ghost) (rs' : Registers) (z : Bool)
        → IsInput S z → Outcome g' rs' v z
        → LocalHolds S g' rs' p (onward places i z)
    onward_holds g' rs' z k o = by_test (nat_lt (suc i) places) refl
      where
        by_test : (b : Bool) → nat_lt (suc i) places ≡ b
            → LocalHolds S g' rs' p
            (cond b (Active (suc i) z Write) (Decided z))
        by_test true e = (ltb-true (suc i) places e, k, o, tt)
        by_test false e =
            let last : i + 1 ≡ places = omega (arith, stand.inside, ltb-false (suc i) places e) in (
              k,
              subst (λ (u : ℕ). Outcome g' rs' u z) (S.sound.ends p i (
                stand.known,
                stand.inside,
              ) last) o,
            )

    -- the same value, at the same place, in another stage
    pub in_stage : (g' : Ghost) (rs' : Registers) (stage : RecoverableStage) → Grows g rs g' rs'
        → StageHolds S g' rs' here stage → LocalHolds S g' rs' p (Active i x stage)
    in_stage g' rs' stage a s =
        (stand.inside, stand.input, fed_grows S g g' rs rs' p i x a stand.fed, s)
