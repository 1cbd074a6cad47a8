-- The steps along a plan tree, and those of its protocol in the model.
use Rattle.std.proofs.Common.{◌≡◌, ℕ, zero, suc, ◌<◌, inl, inr, Bool, true, false, cond, nat_eq, List, [], ◌∷◌, length, Option, Some, None, refl, ap, ◌∙◌, arith}
use Rattle.std.proofs.lemmas.Bool.{cases_eq}
use Rattle.cn_table.specs.TypeTable.{IsClosed, transition}
use Rattle.cn_agree.specs.declared.local.Local.{Local as LocalOf}
use Rattle.cn_consensus.specs.Configuration.{Configuration, after, decided_by, decision, initial, perform, put, step}
use Rattle.cn_consensus.specs.Consensus.{IsSchedule}
use Rattle.cn_consensus.specs.Protocol.{Protocol}
use Rattle.cn_consensus.specs.Types.{all_of}
use Rattle.cn_consensus.proofs.Alike.{put-alike, put-other, put-same}
use Rattle.cn_meetings.specs.Meeting.{IsSightOf, Sight, sees}
use Rattle.cn_meetings.specs.Meeting.Sight.{Nothing, Response, State}
use Rattle.cn_trees.specs.Consensus as tree
use Rattle.cn_trees.specs.Steps.{Local, Stage, World, after_action, after_schedule, after_step, after_step_from, behind, first_world, onward_if_found, world_after}
use Rattle.cn_trees.specs.Steps.Local.{Active, Decided}
use Rattle.cn_trees.specs.Steps.Stage.{Write, Apply, Look, Take}
use Rattle.cn_trees.specs.Tree.{IsOfType, PlanTree, path_of, place_of, processes_of}
use Rattle.cn_trees.proofs.Places.{come_any}
use Rattle.cn_tree_laws.specs.TreeProtocol.{local_action, local_of, look_action, register_of, stage_action, tree_protocol}

-- ---- registers have numbers of their own
pub same_node : (v u g h : ℕ) → register_of v g ≡ register_of u h → v ≡ u
same_node zero zero g h e = refl
same_node zero (suc u) g h e = absurd (omega arith)
same_node (suc v) zero g h e = absurd (omega arith)
same_node (suc v) (suc u) g h e = ap suc (same_node v u g h (omega arith))

pub same_team : (v u g h : ℕ) → register_of v g ≡ register_of u h → g ≡ h
same_team zero zero g h e = omega arith
same_team zero (suc u) g h e = absurd (omega arith)
same_team (suc v) zero g h e = absurd (omega arith)
same_team (suc v) (suc u) g h e = same_team v u g h (omega arith)

-- a function with another value at one place, seen through h
put_through : {X Y : Type 0} (h : Y → X) (f : ℕ → X) (g : ℕ → Y) (i : ℕ) (x : X) (y : Y) → ((j : ℕ) → f j ≡ h (g j)) → x ≡ h y → (j : ℕ) → put f i x j ≡ h (put g i y j)
put_through h f g i x y same e j = by_test (nat_eq j i)
  where
    by_test : (b : Bool) → cond b x (f j) ≡ h (cond b y (g j))
    by_test true = e
    by_test false = same j

-- what is so of each value is so with another one
put_keeps : (P : ℕ → Type 0) (f : ℕ → ℕ) (i x : ℕ) → ((j : ℕ) → P (f j)) → P x → (j : ℕ) → P (put f i x j)
put_keeps P f i x all new j = by_test (nat_eq j i)
  where
    by_test : (b : Bool) → P (cond b x (f j))
    by_test true = new
    by_test false = all j

module _ (T : PlanTree) (closed : IsClosed T.table) (of : IsOfType T) where
  abbrev M : Protocol (LocalOf Bool) (Option Bool)
  M = tree_protocol T

  abbrev C : Type 0
  C = Configuration (LocalOf Bool) (Option Bool)

  record Mirrors (w : World Bool) (c : C) : Type 0 where
    local : (p : ℕ) → c.locals p ≡ local_of (w.locals p)
    state : (v : ℕ) → c.objects v ≡ w.states v
    held : (v g : ℕ) → c.registers (register_of v g) ≡ w.registers v g
    known : (v : ℕ) → w.states v < length T.table.states

  -- a write of one register
  written : (w : World Bool) (c : C) → Mirrors w c → (v g : ℕ) (y : Option Bool) (u h : ℕ) → put c.registers (register_of v g) y (register_of u h) ≡ put w.registers v (put (w.registers v) g y) u h
  written w c m v g y u h = elim (cases_eq u v) [
    | inl same ↦ rw (same, put-same w.registers v (put (w.registers v) g y)) (elim (cases_eq h g) [
      | inl e ↦ rw (e, put-same (w.registers v) g y) (put-same c.registers (register_of v g) y)
      | inr ne ↦ rw (put-other (w.registers v) g y h ne) (put-other c.registers (register_of v g) y (register_of v h) (λ z. ne (same_team v v h g z)) ∙ m.held v h)
    ])
    | inr ne ↦ rw (put-other w.registers v (put (w.registers v) g y) u ne) (put-other c.registers (register_of v g) y (register_of u h) (λ z. ne (same_node u v h g z)) ∙ m.held u h)
  ]

  looked : (w : World Bool) (c : C) → Mirrors w c → (p v : ℕ) (s : Sight) → IsSightOf T.table s → (k : ℕ → Local Bool)
      → Mirrors (record w { locals = put w.locals p (k (sees T.table s (w.states v))) }) (perform (all_of T.table) c p (look_action s v (λ saw. local_of (k saw))))
  looked w c m p v State is k = record {
    local = put_through local_of c.locals w.locals p _ _ m.local (ap (λ q. local_of (k q)) (m.state v));
    state = m.state;
    held = m.held;
    known = m.known;
  }
  looked w c m p v Nothing is k = record {
    local = put_through local_of c.locals w.locals p _ _ m.local refl;
    state = m.state;
    held = m.held;
    known = m.known;
  }
  looked w c m p v (Response o) is k =
      let silent : (transition T.table o (c.objects v)).1 ≡ w.states v = rw (m.state v) (is.same_state (w.states v) (m.known v)) in
      record {
        local = put_through local_of c.locals w.locals p _ _ m.local (ap (λ q. local_of (k (transition T.table o q).0)) (m.state v));
        state = λ u. elim (cases_eq u v) [
          | inl same ↦ rw same (put-same c.objects v _ ∙ silent)
          | inr ne ↦ put-other c.objects v _ u ne ∙ m.state u
        ];
        held = m.held;
        known = m.known;
      }

  acted : (w : World Bool) (c : C) → Mirrors w c → (p i : ℕ) → p < processes_of T → (x : Bool) (stage : Stage)
      → Mirrors (after_action T p w i x stage (place_of T p i)) (perform (all_of T.table) c p (stage_action T p i x stage (place_of T p i)))
  acted w c m p i lp x Write = record {
    local = put_through local_of c.locals w.locals p _ _ m.local refl;
    state = m.state;
    held = written w c m (place_of T p i).node (place_of T p i).team (Some x);
    known = m.known;
  }
  acted w c m p i lp x Apply =
      let v : ℕ = (place_of T p i).node in
      let o : ℕ = (T.meeting v).operation p in
      let now : transition T.table o (c.objects v) ≡ transition T.table o (w.states v) = ap (transition T.table o) (m.state v) in
      record {
        local = put_through local_of c.locals w.locals p _ _ m.local (ap (λ (z : ℕ × ℕ). local_of (Active i x (behind T p (place_of T p i) z.0))) now);
        state = put-alike c.objects w.states v _ _ m.state (ap (λ (z : ℕ × ℕ). z.1) now);
        held = m.held;
        known = put_keeps (λ q. q < length T.table.states) w.states v _ m.known (closed o (w.states v) (of.operations v p (come_any T p i lp)) (m.known v));
      }
  acted w c m p i lp x (Look response) =
      let v : ℕ = (place_of T p i).node in
      looked w c m p v ((T.meeting v).sight p) (of.sights v p (come_any T p i lp)) (λ saw. Active i x (Take response saw))
  acted w c m p i lp x (Take response saw) =
      let v : ℕ = (place_of T p i).node in
      record {
        local = put_through local_of c.locals w.locals p _ _ m.local
            (ap (λ y. local_of (onward_if_found (length (path_of T p)) i (Active i x (Take response saw)) y)) (m.held v (T.judge v p response saw)));
        state = m.state;
        held = m.held;
        known = m.known;
      }

  stepped : (w : World Bool) (c : C) → Mirrors w c → (p : ℕ) → p < processes_of T → Mirrors (after_step T p w) (step (all_of T.table) M c p)
  stepped w c m p lp = rw (m.local p) (go (w.locals p))
    where
      go : (here : Local Bool) → Mirrors (after_step_from T p w here) (perform (all_of T.table) c p (local_action T p (local_of here)))
      go (Active i x Write) = acted w c m p i lp x Write
      go (Active i x Apply) = acted w c m p i lp x Apply
      go (Active i x (Look response)) = acted w c m p i lp x (Look response)
      go (Active i x (Take response saw)) = acted w c m p i lp x (Take response saw)
      go (Decided y) = m

  ran : (schedule : List ℕ) (w : World Bool) (c : C) → IsSchedule (processes_of T) schedule → Mirrors w c → Mirrors (after_schedule T schedule w) (after (all_of T.table) M c schedule)
  ran [] w c all m = m
  ran (p ∷ schedule) w c all m = ran schedule (after_step T p w) (step (all_of T.table) M c p) all.1 (stepped w c m p all.0)

  mirrored : (inputs : ℕ → Bool) (schedule : List ℕ) → IsSchedule (processes_of T) schedule → Mirrors (world_after T inputs schedule) (after (all_of T.table) M (initial M inputs) schedule)
  mirrored inputs schedule all = ran schedule (first_world T inputs) (initial M inputs) all (record { local = λ p. refl; state = λ v. refl; held = λ v g. refl; known = of.starts })

  -- decisions are the same
  decided : (p : ℕ) (l : Local Bool) → decided_by (local_action T p (local_of l)) ≡ tree.decision_of l
  decided p (Decided y) = refl
  decided p (Active i x Write) = refl
  decided p (Active i x Apply) = refl
  decided p (Active i x (Take response saw)) = refl
  decided p (Active i x (Look response)) = go ((T.meeting (place_of T p i).node).sight p)
    where
      go : (s : Sight) → decided_by (look_action s (place_of T p i).node (λ saw. local_of (Active i x (Take response saw)))) ≡ None
      go State = refl
      go Nothing = refl
      go (Response o) = refl

  pub decision_is : (inputs : ℕ → Bool) (schedule : List ℕ) → IsSchedule (processes_of T) schedule → (p : ℕ) → decision M (after (all_of T.table) M (initial M inputs) schedule) p ≡ tree.decision (world_after T inputs schedule) p
  decision_is inputs schedule all p =
      let m = mirrored inputs schedule all in
      rw (m.local p) (decided p ((world_after T inputs schedule).locals p))
