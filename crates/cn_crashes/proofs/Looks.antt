-- A look at the object of a node, and a peek at a register: what holds, holds still.
use Rattle.std.proofs.Common.{◌≡◌, ◌≢◌, ℕ, ◌<◌, inl, List, [], ◌∷◌, length, refl, sym, ap, ◌∙◌}
use Rattle.std.proofs.Common.{subst, arith, Bool, true, false, cond, nat_eq, Option, Some, None}
use Rattle.std.proofs.lemmas.Bool.{eqb-true, eqb-false}
use Rattle.cn_choice.specs.declared.team.Team.{Team}
use Rattle.cn_choice.specs.declared.team.Team.TheVariants.{A, B}
use Rattle.cn_choice.proofs.ListLemmas.Members.{IsIn}
use Rattle.cn_proto.specs.Order.{after, IsRun}
use Rattle.cn_proto.specs.declared.place.Place.{Place}
use Rattle.cn_consensus.specs.Configuration.{put}
use Rattle.cn_consensus.proofs.Alike.{put-same}
use Rattle.cn_solvable.specs.RoundProtocol.{register_of}
use Rattle.cn_crashes.specs.RecoverableRound.{first_stage, onward, onward_if}
use Rattle.cn_crashes.specs.RecoverableRound.RecoverableLocal.{Active}
use Rattle.cn_crashes.specs.RecoverableRound.RecoverableStage.{Look, Peek, Act, Take}
use Rattle.cn_crashes.proofs.NodeMoves.{Led, quiet, quietly, still}
use Rattle.cn_crashes.proofs.NodeStatus.{Full, Ghost, IsBack, Registers, Status, run_of, winner_of}
use Rattle.cn_crashes.proofs.NodeStatus.Status.{Fresh, Begun, Back}
use Rattle.cn_crashes.proofs.Places.{Standing, a_leaves, in_stage, lone_in, lone_role, onward_holds}
use Rattle.cn_crashes.proofs.Places.{other_role, outcome_input, winner_there}
use Rattle.cn_crashes.proofs.Ranks.{first_level, onward_near}
use Rattle.cn_crashes.proofs.RoundInvariant.{Holds, MayAct, MayPeek, Setting, StageHolds}
use Rattle.cn_crashes.proofs.RoundInvariant.{StatusHolds, StillMay, World, at}

module _ (S : Setting) (g : Ghost) (c : World) (p i : ℕ) (x : Bool)
    (stand : Standing S g c p i x) where
  abbrev here : Place
  here = at S p i

  abbrev v : ℕ
  v = here.node

  abbrev places : ℕ
  places = length (S.plan.round.path p)

  abbrev rs : Registers
  rs = c.registers

  abbrev h : Holds S g c
  h = stand.holds

  same_may : (st : Status) → g v ≡ st → (q j : ℕ)
      → StillMay S (g v) st (at S q j)
  same_may st e q j = subst (λ (z : Status).
      StillMay S z st (at S q j)) (sym e)
      (λ k. k, λ k. k)

  may_peek_there : (st : Status) → MayPeek S st here
      → MayPeek S (put g v st v) here
  may_peek_there st = subst (λ (z : Status).
      MayPeek S z here) (sym (put-same g v st))

  may_act_there : (st : Status) → MayAct S st here
      → MayAct S (put g v st v) here
  may_act_there st = subst (λ (z : Status).
      MayAct S z here) (sym (put-same g v st))

  none_in : (st : Status) → run_of st ≡ [] → MayPeek S st here
  none_in st e = subst (λ (o : List ℕ). IsIn here.role o → ⊥) (sym e) (λ i. i)

  first_holds : (st : Status) → run_of st ≡ [] → (IsBack st → S.plan.lone ≡ true)
      → Full rs v here.team → (lone : Bool) → S.plan.lone ≡ lone → (side : Team) → here.team ≡ side
      → StageHolds S (put g v st) rs here (first_stage lone side)
  first_holds st e b full true f A u = (full, may_peek_there st (none_in st e), f, u)
  first_holds st e b full true f B u = (full, may_act_there st (none_in st e, λ k. u))
  first_holds st e b full false f A u = (
    full,
    may_act_there st (none_in st e, λ k. absurd (cc (f, b k))),
  )
  first_holds st e b full false f B u = (full, may_act_there st (none_in st e, λ k. u))

  go_first : (st : Status) → run_of st ≡ [] → (IsBack st → S.plan.lone ≡ true)
      → StatusHolds S st (c.objects v) rs v
      → ((side : Team) → winner_of (g v) ≡ Some side → winner_of st ≡ Some side)
      → ((q j : ℕ) → q < S.count → q ≢ p → j < length (S.plan.round.path q)
      → (at S q j).node ≡ v
      → StillMay S (g v) st (at S q j))
      → Full rs v here.team → Led S g c p (Active i x Look)
      (quiet c p (Active i x (first_stage S.plan.lone here.team)))
  go_first st e b s w o full =
      quietly S g c p v (Active i x Look) (Active i x (first_stage S.plan.lone here.team)) st h s w
      o
      (λ a. in_stage S g c p i x stand (put g v st) rs (first_stage S.plan.lone here.team) a
      (first_holds st e b full S.plan.lone refl here.team refl))
      (omega (arith, first_level S.plan.lone here.team))

  come_back : (order : List ℕ) → g v ≡ Begun B order → S.plan.lone ≡ true
      → IsRun S.count S.team B order
      → after S.plan.round.act S.plan.round.start order ≡ S.plan.round.start
      → (q j : ℕ) → q < S.count → j < length (S.plan.round.path q)
      → StillMay S (g v) Back (at S q j)
  come_back order e f r a q j lq lj = (
    λ k z. z,
    λ k. (
      λ z. z,
      λ b. in_b (at S q j).team refl
          (subst (λ (z : Status). MayPeek S z
          (at S q j)) e k.0),
    ),
  )
    where
      in_b : (side : Team) → (at S q j).team ≡ side
          → (IsIn (at S q j).role order → ⊥)
          → (at S q j).team ≡ B
      in_b A u new =
          let z = lone_role S f q j lq lj u in
          absurd (new (subst (λ (k : ℕ). IsIn k order) (sym z.0) (lone_in S order z.1 z.2 r a)))
      in_b B u new = u

  pub looks : (st : Status) → g v ≡ st → StatusHolds S st (c.objects v)
      rs v → Full rs v here.team → (b : Bool) → nat_eq (c.objects v) S.plan.round.start ≡ b
      → Led S g c p (Active i x Look) (quiet c p
      (Active i x (cond b (first_stage S.plan.lone here.team) (Take (S.plan.judge (c.objects v))))))
  looks Fresh e s full true f = go_first Fresh refl (λ b. absurd b) s (λ side u.
      ap winner_of (sym e) ∙ u) (λ q j lq d lj w. same_may Fresh e q j) full
  looks Back e s full true f = go_first Back refl (λ b. s.0) s (λ side u. ap winner_of (sym e)
      ∙ u) (λ q j lq d lj w. same_may Back e q j) full
  looks (Begun A order) e s full true f = absurd (a_leaves S order s.0 (sym s.1
      ∙ eqb-true (c.objects v) S.plan.round.start f))
  looks (Begun B order) e s full true f = by_lone S.plan.lone refl
    where
      by_lone : (lone : Bool) → S.plan.lone ≡ lone
          → Led S g c p (Active i x Look) (quiet c p
          (Active i x (first_stage S.plan.lone here.team)))
      by_lone false u = absurd (S.right.no_way_back u order s.0 (sym s.1
          ∙ eqb-true (c.objects v) S.plan.round.start f))
      by_lone true u =
          let there = eqb-true (c.objects v) S.plan.round.start f in
          go_first Back refl (λ b. u) (u, there, s.2) (λ side z. ap winner_of (sym e) ∙ z)
          (λ q j lq d lj w. come_back order e u s.0 (sym s.1 ∙ there) q j lq lj) full
  looks Fresh e s full false f = absurd (eqb-false (c.objects v) S.plan.round.start f s)
  looks Back e s full false f = absurd (eqb-false (c.objects v) S.plan.round.start f s.1)
  looks (Begun side order) e s full false f =
      still S g c p v (Active i x Look) (Active i x (Take (S.plan.judge (c.objects v)))) h
      (λ a. in_stage S g c p i x stand (put g v (g v)) rs (Take (S.plan.judge (c.objects v))) a
      (winner_there g v (g v) (S.plan.judge (c.objects v)) (ap winner_of e
      ∙ ap Some (sym (ap S.plan.judge s.1 ∙ S.right.right side order s.0))))) (omega arith)

  pub peeks : (st : Status) → g v ≡ st → StatusHolds S st (c.objects v)
      rs v → StageHolds S g rs here Peek
      → (y : Option Bool) → rs (register_of v B) ≡ y
      → Led S g c p (Active i x Peek) (quiet c p (onward_if places i (Active i x Act) y))
  peeks st e s m None f =
      still S g c p v (Active i x Peek) (Active i x Act) h
      (λ a. in_stage S g c p i x stand (put g v (g v)) rs Act a (
        m.0,
        may_act_there (g v) (m.1, λ b. absurd (not_back st s (subst IsBack e b))),
      ))
      (omega arith)
    where
      not_back : (st : Status) → StatusHolds S st (c.objects v) rs v
          → IsBack st → ⊥
      not_back Fresh s b = b
      not_back (Begun side order) s b = b
      not_back Back s b = let full = s.2 in absurd (cc (f, full.1))
  peeks Fresh e s m (Some z) f =
      quietly S g c p v (Active i x Peek) (onward places i z) Back h (
        m.2,
        s,
        (z, f),
      ) (λ side u. absurd (cc (ap winner_of (sym e) ∙ u)))
      (λ q j lq d lj w. (
        λ k o. o,
        λ k. (
          λ o. o,
          λ b. in_b q j lq d lj w (at S q j).team refl,
        ),
      ))
      (λ a. onward_holds S g c p i x stand (put g v Back) rs z
      (outcome_input S g c p i x stand z B f) (
        B,
        winner_there g v Back B refl,
        f,
      ))
      (onward_near S.plan p i x z Peek)
    where
      in_b : (q j : ℕ) → q < S.count → q ≢ p → j < length (S.plan.round.path q)
          → (at S q j).node ≡ v → (side : Team)
          → (at S q j).team ≡ side
          → (at S q j).team ≡ B
      in_b q j lq d lj w A u = absurd (other_role S g c p i x stand q j lq d lj w
          ((lone_role S m.2 q j lq lj u).0
          ∙ sym (lone_role S m.2 p i stand.known stand.inside m.3).0))
      in_b q j lq d lj w B u = u
  peeks (Begun A order) e s m (Some z) f =
      absurd (first_is order s.0 (subst (λ (st : Status).
      MayPeek S st here) e m.1))
    where
      first_is : (order : List ℕ) → IsRun S.count S.team A order → (IsIn here.role order → ⊥) → ⊥
      first_is [] r new = absurd r.begins
      first_is (y ∷ ys) r new = new (inl (S.right.loner m.2 y r.below.0 r.begins
          ∙ sym (lone_role S m.2 p i stand.known stand.inside m.3).0))
  peeks (Begun B order) e s m (Some z) f =
      still S g c p v (Active i x Peek) (onward places i z) h
      (λ a. onward_holds S g c p i x stand (put g v (g v)) rs z
      (outcome_input S g c p i x stand z B f) (
        B,
        winner_there g v (g v) B (ap winner_of e),
        f,
      )) (onward_near S.plan p i x z Peek)
  peeks Back e s m (Some z) f =
      still S g c p v (Active i x Peek) (onward places i z) h
      (λ a. onward_holds S g c p i x stand (put g v (g v)) rs z
      (outcome_input S g c p i x stand z B f) (
        B,
        winner_there g v (g v) B (ap winner_of e),
        f,
      )) (onward_near S.plan p i x z Peek)
