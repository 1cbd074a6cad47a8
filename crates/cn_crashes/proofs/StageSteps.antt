-- Each step of a process in a recoverable round keeps what holds, and brings the process nearer to
-- its decision.
use Rattle.std.proofs.Common.{◌≡◌, ◌≢◌, ℕ, ◌<◌, ◌⊎◌, inl, inr, List, [], ◌∷◌, ◌++◌, length, refl}
use Rattle.std.proofs.Common.{sym, ap, ◌∙◌, subst, arith, Bool, nat_eq, Option, Some, None}
use Rattle.std.proofs.lemmas.Bool.{cases_eq}
use Rattle.cn_table.specs.TypeTable.{transition}
use Rattle.cn_choice.specs.declared.team.Team.{Team}
use Rattle.cn_choice.specs.declared.team.Team.TheVariants.{B}
use Rattle.cn_choice.proofs.ListLemmas.Members.{IsIn, IsIn-append_cases}
use Rattle.cn_proto.specs.Order.{after}
use Rattle.cn_proto.specs.declared.place.Place.{Place}
use Rattle.cn_consensus.specs.Types.{all_of}
use Rattle.cn_consensus.specs.Configuration.{perform, put}
use Rattle.cn_consensus.proofs.Alike.{put-same, put-other}
use Rattle.cn_solvable.specs.RoundProtocol.{register_of}
use Rattle.cn_crashes.specs.RecoverableRound.{RecoverableStage, onward, onward_if, stage_action}
use Rattle.cn_crashes.specs.RecoverableRound.RecoverableLocal.{Active}
use Rattle.cn_crashes.specs.RecoverableRound.RecoverableStage.{Write, Look, Peek, Act, Again, Take}
use Rattle.cn_crashes.proofs.NodeMoves.{Led, led, quiet, still}
use Rattle.cn_crashes.proofs.NodeStatus.{Full, Ghost, Held, Registers, Status, registers_apart}
use Rattle.cn_crashes.proofs.NodeStatus.{run_of, winner_of}
use Rattle.cn_crashes.proofs.NodeStatus.Status.{Fresh, Begun, Back}
use Rattle.cn_crashes.proofs.Places.{Standing, in_stage, onward_holds, other_role, outcome_input}
use Rattle.cn_crashes.proofs.Places.{role_known, role_team, same_value, winner_there}
use Rattle.cn_crashes.proofs.Ranks.{onward_near}
use Rattle.cn_crashes.proofs.RoleRuns.{after_push, run_alone, run_push}
use Rattle.cn_crashes.proofs.RoundInvariant.{FedFrom, Holds, IsInput, MayAct, MayPeek, Setting}
use Rattle.cn_crashes.proofs.RoundInvariant.{StageHolds, StatusHolds, World, at, fed_alike}
use Rattle.cn_crashes.proofs.RoundInvariant.{status_grows}
use Rattle.cn_crashes.proofs.Looks.{looks, peeks}

module _ (S : Setting) (g : Ghost) (c : World) (p i : ℕ) (x : Bool)
    (stand : Standing S g c p i x) where
  abbrev here : Place
  here = at S p i

  abbrev v : ℕ
  v = here.node

  abbrev places : ℕ
  places = length (S.plan.round.path p)

  abbrev rs : Registers
  rs = c.registers

  abbrev h : Holds S g c
  h = stand.holds

  abbrev written : World
  written = record {
    locals = put c.locals p (Active i x Look);
    registers =
        put rs (register_of v here.team) (Some x);
    objects = c.objects;
  }

  written_same : (y : Bool) → Held rs v here.team y → y ≡ x
  written_same y e =
      let o = h.held v here.team y e in
      fed_alike S g rs o.0 o.1 p i y x o.2
      (stand.known, stand.inside) o.3 o.4 o.6 stand.fed

  writes : Led S g c p (Active i x Write) written
  writes = led S g c p v (Active i x Write) (Active i x Look) (g v) written h
      (record {
        locals = λ q. refl;
        objects = λ u d. refl;
        held = kept;
        new_held = λ u side y e. elim (cases_eq (register_of u side) (register_of v here.team)) [
          | inl s ↦
              (let a = registers_apart u v side here.team s in
              let f : x ≡ y = same_value (sym (put-same rs (register_of v here.team) (Some x))
              ∙ (ap (put rs (register_of v here.team) (Some x)) (sym s) ∙ e)) in (
                p,
                i,
                (stand.known, stand.inside),
                sym a.0,
                sym a.1,
                subst (IsInput S) f stand.input,
                subst (FedFrom S g rs p i) f stand.fed,
              ))
          | inr d ↦ h.held u side y (sym (put-other rs (register_of v here.team) (Some x)
              (register_of u side) d) ∙ e)
        ];
        status = status_grows S (g v) (c.objects v) (c.objects v) rs
            written.registers v (kept v) refl (h.status v);
        winner = λ side e. e;
        others = λ q j lq d lj e. (λ k. k, λ k. k);
        own = λ a. in_stage S g c p i x stand (put g v (g v)) written.registers Look a (
          x,
          put-same rs (register_of v here.team) (Some x),
        );
      })
      (omega arith)
    where
      kept : (u : ℕ) (side : Team) (y : Bool) → Held rs u side y
          → Held written.registers u side y
      kept u side y e = elim (cases_eq (register_of u side) (register_of v here.team)) [
        | inl s ↦ ap (put rs (register_of v here.team) (Some x)) s
            ∙ (put-same rs (register_of v here.team) (Some x)
            ∙ ap Some (sym (written_same y (ap rs (sym s) ∙ e))))
        | inr d ↦ put-other rs (register_of v here.team) (Some x) (register_of u side) d ∙ e
      ]

  abbrev acted : World
  acted = record {
    locals = put c.locals p (Active i x Again);
    registers = rs;
    objects = put c.objects v (transition S.table (S.plan.operation here.role) (c.objects v)).1;
  }

  acted_is : (q : ℕ) → c.objects v ≡ q → acted.objects v ≡ (S.plan.round.act here.role q).1
  acted_is q e =
      put-same c.objects v (transition S.table (S.plan.operation here.role) (c.objects v)).1
      ∙ (ap (λ (z : ℕ). (transition S.table (S.plan.operation here.role) z).1) e
      ∙ sym (ap (λ (z : ℕ × ℕ). z.1) (S.acts here.role q)))

  act_to : (side : Team) (order : List ℕ) → StatusHolds S
      (Begun side order) (acted.objects v) rs v
      → ((s : Team) → winner_of (g v) ≡ Some s → Some side ≡ Some s)
      → ((r : ℕ) → IsIn r order → IsIn r (run_of (g v)) ⊎ (r ≡ here.role))
      → Led S g c p (Active i x Act) acted
  act_to side order s w new =
      led S g c p v (Active i x Act) (Active i x Again) (Begun side order) acted h
      (record {
        locals = λ q. refl;
        objects = λ u d. put-other c.objects v
            (transition S.table (S.plan.operation here.role) (c.objects v)).1 u d;
        held = λ u side x k. k;
        new_held = h.held;
        status = s;
        winner = w;
        others = λ q j lq d lj e. (
          λ k. free q j lq d lj e k,
          λ k. (free q j lq d lj e k.0, λ b. absurd b),
        );
        own = λ a. in_stage S g c p i x stand (put g v (Begun side order)) rs Again a (
          side,
          winner_there g v (Begun side order) side refl,
        );
      })
      (omega arith)
    where
      free : (q j : ℕ) → q < S.count → q ≢ p → j < length (S.plan.round.path q)
          → (at S q j).node ≡ v
          → MayPeek S (g v) (at S q j)
          → IsIn (at S q j).role order → ⊥
      free q j lq d lj e k o = elim (new (at S q j).role o)
          [ inl old ↦ k old | inr mine ↦ other_role S g c p i x stand q j lq d lj e mine ]

  only : (r : ℕ) → IsIn r (here.role ∷ []) → IsIn r (run_of (g v)) ⊎ (r ≡ here.role)
  only r o = elim o [ inl e ↦ inr (sym e) | inr none ↦ absurd none ]

  own_known : here.role < S.count
  own_known = role_known S g c p i x stand

  own_team : S.team here.role ≡ here.team
  own_team = role_team S g c p i x stand

  acts_on : (st : Status) → g v ≡ st → StatusHolds S st (c.objects v)
      rs v → StageHolds S g rs here Act
      → Led S g c p (Active i x Act) acted
  acts_on Fresh e s m =
      act_to here.team (here.role ∷ []) (
        run_alone S.count S.team here.team here.role own_team own_known,
        acted_is S.plan.round.start s,
        m.0,
      )
      (λ side u. absurd (cc (ap winner_of (sym e) ∙ u))) only
  acts_on (Begun side order) e s m =
      let may = subst (λ (st : Status). MayAct S st here) e m.1 in
      act_to side (order ++ here.role ∷ []) (
        run_push S.count S.team side order here.role s.0 may.0 own_known,
        acted_is (after S.plan.round.act S.plan.round.start order) s.1
            ∙ sym (after_push S.plan.round.act S.plan.round.start order here.role),
        s.2,
      )
      (λ r u. ap winner_of (sym e) ∙ u)
      (λ r o. elim (IsIn-append_cases r order (here.role ∷ []) o) [
        | inl old ↦ inl (subst (λ (st : Status). IsIn r (run_of st)) (sym e) old)
        | inr new ↦ only r new
      ])
  acts_on Back e s m =
      let may = subst (λ (st : Status). MayAct S st here) e m.1 in
      act_to B (here.role ∷ []) (
        run_alone S.count S.team B here.role (own_team ∙ may.1 tt) own_known,
        acted_is S.plan.round.start s.1,
        s.2,
      )
      (λ side u. ap winner_of (sym e) ∙ u) only

  agains : (st : Status) → g v ≡ st → StatusHolds S st (c.objects v)
      rs v → StageHolds S g rs here Again
      → Led S g c p (Active i x Again) (quiet c p (Active i x (Take (S.plan.judge (c.objects v)))))
  agains st e s m =
      still S g c p v (Active i x Again) (Active i x (Take (S.plan.judge (c.objects v)))) h
      (λ a. in_stage S g c p i x stand (put g v (g v)) rs (Take (S.plan.judge (c.objects v))) a
      (winner_there g v (g v) (S.plan.judge (c.objects v)) (ap winner_of e
      ∙ won st s (ap winner_of (sym e) ∙ m.1)))) (omega arith)
    where
      won : (st : Status) → StatusHolds S st (c.objects v) rs v
          → winner_of st ≡ Some m.0 → winner_of st ≡ Some (S.plan.judge (c.objects v))
      won Fresh s u = absurd (cc u)
      won (Begun side order) s u = ap Some (sym (ap S.plan.judge s.1
          ∙ S.right.right side order s.0))
      won Back s u = ap Some (sym (ap S.plan.judge s.1 ∙ S.right.start_is_b))

  takes : (side : Team) → winner_of (g v) ≡ Some side → (y : Option Bool)
      → rs (register_of v side) ≡ y
      → Led S g c p (Active i x (Take side))
      (quiet c p (onward_if places i (Active i x (Take side)) y))
  takes side w None f = absurd (let full = won_full (g v) (h.status v) w in cc (f, full.1))
    where
      won_full : (st : Status) → StatusHolds S st (c.objects v) rs v
          → winner_of st ≡ Some side → Full rs v side
      won_full Fresh s u = absurd (cc u)
      won_full (Begun r order) s u = let e : r ≡ side = cc u in subst (Full rs v) e s.2
      won_full Back s u = let e : B ≡ side = cc u in subst (Full rs v) e s.2
  takes side w (Some z) f =
      still S g c p v (Active i x (Take side)) (onward places i z) h
      (λ a. onward_holds S g c p i x stand (put g v (g v)) rs z
      (outcome_input S g c p i x stand z side f) (
        side,
        winner_there g v (g v) side w,
        f,
      )) (onward_near S.plan p i x z (Take side))

  pub keeps_stage : (stage : RecoverableStage)
      → StageHolds S g rs here stage
      → Led S g c p (Active i x stage) (perform (all_of S.table) c p
      (stage_action S.plan places i x stage here))
  keeps_stage Write m = writes
  keeps_stage Look m = looks S g c p i x stand (g v) refl (h.status v) m
      (nat_eq (c.objects v) S.plan.round.start) refl
  keeps_stage Peek m = peeks S g c p i x stand (g v) refl (h.status v) m (rs (register_of v B)) refl
  keeps_stage Act m = acts_on (g v) refl (h.status v) m
  keeps_stage Again m = agains (g v) refl (h.status v) m
  keeps_stage (Take side) m = takes side m (rs (register_of v side)) refl
