-- Each of the four actions keeps the invariant.
use Rattle.std.proofs.Common.{ℕ, zero, suc, ◌≡◌, ◌≢◌, ◌⊎◌, inl, inr, Bool, true, false, ◌+◌, ◌*◌, ◌<◌, ◌≤◌, List, [], ◌∷◌, ◌++◌, length, slice_get, AllPairs, Option, Some, refl, sym, ap, ◌∙◌, arith, append-nil, nat_lt}
use Rattle.std.proofs.lemmas.Bool.{cases_eq}
use Rattle.std.proofs.lemmas.Bool.Decides.{nat_tests}
use Rattle.cn_agree.proofs.Lists.{slice_get_push_cases}
use Rattle.cn_agree.proofs.OrderLemmas.{after_push, answered_last, distinct_push}
use Rattle.cn_agree.specs.Consensus.{IsSchedule}
use Rattle.cn_proto.specs.Order.{IsAnswered}
use Rattle.cn_unread.specs.Functions.{put}
use Rattle.cn_unread.proofs.Functions.{put-other, put-same}
use Rattle.cn_meetings.specs.Meeting.{Sight, looks, sees}
use Rattle.cn_meetings.specs.Meeting.Sight.{Nothing, Response, State}
use Rattle.cn_meetings.specs.Witness.{Has}
use Rattle.cn_trees.specs.Steps.{Local, Stage, World, after_action, after_schedule, after_step, after_step_from, behind, first_world, looks_at, onward}
use Rattle.cn_trees.specs.Steps.Local.{Active, Decided}
use Rattle.cn_trees.specs.Steps.Stage.{Write, Apply, Look, Take}
use Rattle.cn_trees.specs.Tree.{IsPlace, IsPlanTree, Place, PlanTree, comes_to, path_of, place_of, processes_of}
use Rattle.cn_trees.proofs.Invariant.{Brings, Grows, Holds, IsBrought, IsDone, IsRight, LocalHolds, StageHolds, act_at, fixed_at, progress, see_at, state_at, team_at}
use Rattle.cn_trees.proofs.Growing.{Changes, Extends, brings_grows, changes_grow, keeps_on, local_grows}
use Rattle.cn_trees.proofs.Paths.{AreFedAlike}
use Rattle.cn_trees.proofs.Places.{come, ends, fed, one_place, starts, team_there}

-- the orders after one more process at node v
abbrev pub extended : (ℕ → List ℕ) → ℕ → ℕ → ℕ → List ℕ
extended order v p = put order v (order v ++ p ∷ [])

extends_one : (order : ℕ → List ℕ) (v p : ℕ) → Extends order (extended order v p) v (p ∷ [])
extends_one order v p = record {
  this = put-same order v (order v ++ p ∷ []);
  other = λ u ne. put-other order v (order v ++ p ∷ []) u ne;
}

extends_none : (order : ℕ → List ℕ) (v : ℕ) → Extends order order v []
extends_none order v = record { this = sym (append-nil (order v)); other = λ u ne. refl }

-- places that are fed alike get one value
brings_same : {V : Type 0} (T : PlanTree) (inputs : ℕ → V) (w : World V) (order : ℕ → List ℕ) (p i q j : ℕ) (x y : V)
    → AreFedAlike (path_of T p) p i (path_of T q) q j → Brings T inputs w order p i x → Brings T inputs w order q j y → x ≡ y
brings_same T inputs w order p zero q zero x y fed bx by = let e : inputs p ≡ inputs q = ap inputs fed in cc
brings_same T inputs w order p zero q (suc j) x y fed bx by = elim fed [ ]
brings_same T inputs w order p (suc i) q zero x y fed bx by = elim fed [ ]
brings_same T inputs w order p (suc i) q (suc j) x y fed bx by =
    let e : fixed_at T w order (place_of T p i).node ≡ fixed_at T w order (place_of T q j).node = ap (fixed_at T w order) fed in cc

-- a process that does not look sees nothing
unseen : (T : PlanTree) (v p q : ℕ) → looks_at T v p ≡ false → see_at T v p q ≡ 0
unseen T v p q e = go ((T.meeting v).sight p) e
  where
    go : (s : Sight) → looks s ≡ false → sees T.table s q ≡ 0
    go State e = absurd cc
    go Nothing e = refl
    go (Response o) e = absurd cc

module _ {V : Type 0} (T : PlanTree) (plan : IsPlanTree T) (inputs : ℕ → V) (w : World V) (order : ℕ → List ℕ)
    (holds : Holds T inputs w order) (p i : ℕ) (lt : p < processes_of T) (x : V) where
  abbrev here : Place
  here = place_of T p i

  same_value : IsPlace T p i → Brings T inputs w order p i x → (z : V) → IsBrought T inputs w order here.node here.team z → z ≡ x
  same_value at brings z b =
      brings_same T inputs w order b.by b.at p i z x (fed T b.by b.at p i b.place at b.node b.team_is) b.brings brings

  -- a second write of a register keeps its value
  pub write_keeps : w.locals p ≡ Active i x Write → (side : ℕ) (y : V) → w.registers here.node side ≡ Some y → put (w.registers here.node) here.team (Some x) side ≡ Some y
  write_keeps e side y h = elim (cases_eq side here.team) [
    | inl same ↦ (let mine = rw e at (holds.local_holds p lt) in
        let h' : w.registers here.node here.team ≡ Some y = rw same at h in
        let eq : y ≡ x = same_value mine.0 mine.1 y (holds.brought here.node here.team y h') in
        rw same (put-same (w.registers here.node) here.team (Some x) ∙ ap Some (sym eq)))
    | inr ne ↦ put-other (w.registers here.node) here.team (Some x) side ne ∙ h
  ]

  -- the value in a register is the old one, or the one written
  register_cases : (v mine side : ℕ) (y : V) → put (w.registers v) mine (Some x) side ≡ Some y → (w.registers v side ≡ Some y) ⊎ ((side ≡ mine) × (x ≡ y))
  register_cases v mine side y h = elim (cases_eq side mine) [
    | inl same ↦ (let h' : put (w.registers v) mine (Some x) mine ≡ Some y = rw same at h in let g = put-same (w.registers v) mine (Some x) in inr (same, cc))
    | inr ne ↦ inl (sym (put-other (w.registers v) mine (Some x) side ne) ∙ h)
  ]

  changes_write : Changes w (after_action T p w i x Write here) p (Active i x Apply) here.node (w.states here.node) (put (w.registers here.node) here.team (Some x))
  changes_write = record {
    local_mine = put-same w.locals p (Active i x Apply);
    local_other = λ q ne. put-other w.locals p (Active i x Apply) q ne;
    state_this = refl;
    state_other = λ u ne. refl;
    registers_this = put-same w.registers here.node (put (w.registers here.node) here.team (Some x));
    registers_other = λ u ne. put-other w.registers here.node (put (w.registers here.node) here.team (Some x)) u ne;
  }

  brought_on : (w' : World V) (order' : ℕ → List ℕ) → Grows w order w' order' → (v side : ℕ) (y : V) → IsBrought T inputs w order v side y → IsBrought T inputs w' order' v side y
  brought_on w' order' grows v side y b = record {
    by = b.by;
    at = b.at;
    place = b.place;
    node = b.node;
    team_is = b.team_is;
    brings = brings_grows T inputs w order w' order' grows b.by b.at y b.brings;
  }

  pub keeps_write : w.locals p ≡ Active i x Write → Holds T inputs (after_action T p w i x Write here) order
  keeps_write e =
      let mine = rw e at (holds.local_holds p lt) in
      let v : ℕ = here.node in
      let side : ℕ = here.team in
      let registers : ℕ → Option V = put (w.registers v) side (Some x) in
      let w' : World V = after_action T p w i x Write here in
      let extends = extends_none order v in
      let kept : (s : ℕ) (y : V) → w.registers v s ≡ Some y → registers s ≡ Some y = λ s y h. write_keeps e s y h in
      let grows = changes_grow T inputs w w' order order holds p (Active i x Apply) v (w.states v) registers [] changes_write extends kept in
      keeps_on T inputs w w' order order holds p (Active i x Apply) v (w.states v) registers [] changes_write extends kept
      (rw append-nil (holds.moved v))
      (rw append-nil (holds.distinct v))
      (λ k q h. inl (rw append-nil at h))
      (λ first rest h. let r = holds.written v first rest (rw append-nil at h) in (r.0, kept (team_at T v first) r.0 r.1))
      (λ s y h. elim (register_cases v side s y h) [
        | inl old ↦ brought_on w' order grows v s y (holds.brought v s y old)
        | inr new ↦ record {
          by = p;
          at = i;
          place = mine.0;
          node = refl;
          team_is = sym new.0;
          brings = brings_grows T inputs w order w' order grows p i y (rw new.1 at mine.1);
        }
      ])
      (mine.0, brings_grows T inputs w order w' order grows p i x mine.1, rw changes_write.registers_this (put-same (w.registers v) side (Some x)))
      (rw e (omega arith))

  -- ---- its operation
  abbrev acted : ℕ × ℕ
  acted = act_at T here.node p (w.states here.node)

  changes_apply : Changes w (after_action T p w i x Apply here) p (Active i x (behind T p here acted.0)) here.node acted.1 (w.registers here.node)
  changes_apply = record {
    local_mine = put-same w.locals p _;
    local_other = λ q ne. put-other w.locals p _ q ne;
    state_this = put-same w.states here.node _;
    state_other = λ u ne. put-other w.states here.node _ u ne;
    registers_this = refl;
    registers_other = λ u ne. refl;
  }

  new_there : w.locals p ≡ Active i x Apply → IsPlace T p i → (k : ℕ) → slice_get (order here.node) k ≢ Some p
  new_there e at k h =
      let d = holds.done here.node k p h in
      let same : d.at ≡ i = one_place T p d.at i d.place at d.node in
      let early : 4 * d.at + 2 ≤ 4 * i + 1 = rw e at d.applied in
      omega arith

  written_push : (v : ℕ) (old : List ℕ) (registers : ℕ → Option V) (q first : ℕ) (rest : List ℕ) → ((h : ℕ) (t : List ℕ) → old ≡ h ∷ t → (y : V) × (registers (team_at T v h) ≡ Some y))
      → registers (team_at T v q) ≡ Some x → old ++ q ∷ [] ≡ first ∷ rest → (y : V) × (registers (team_at T v first) ≡ Some y)
  written_push v [] registers q first rest old_written mine e = let same : q ≡ first = cc in (x, rw (← same) mine)
  written_push v (h ∷ t) registers q first rest old_written mine e = let same : h ≡ first = cc in rw (← same) (old_written h t refl)

  -- a process judges right after an order of the node's processes
  right_after : (v q response : ℕ) (done : List ℕ) → AllPairs (λ (a : ℕ) b. a ≢ b) done → ((k r : ℕ) → slice_get done k ≡ Some r → Has (comes_to T.teams v) r)
      → IsAnswered (act_at T v) (T.meeting v).start done q response → IsRight T v done q response (see_at T v q (state_at T v done))
  right_after v q response [] distinct came h = absurd (cc h.1)
  right_after v q response (first ∷ rest) distinct came h =
      plan v (team_at T v first) q response (see_at T v q (state_at T v (first ∷ rest))) (first ∷ rest) (record { is_order = record { distinct = distinct; members = came }; answered = h; last_state = refl }) refl

  came_there : (w' : World V) (v q : ℕ) → IsDone T w' v q → Has (comes_to T.teams v) q
  came_there w' v q d = rw d.node at (come T q d.at d.place)

  behind_holds : (w' : World V) (order' : ℕ → List ℕ) (looks : Bool) (response : ℕ) → looks_at T here.node p ≡ looks
      → IsAnswered (act_at T here.node) (T.meeting here.node).start (order' here.node) p response
      → IsRight T here.node (order' here.node) p response (see_at T here.node p (state_at T here.node (order' here.node)))
      → StageHolds T w' order' p here x (behind T p here response)
  behind_holds w' order' true response is answered right = rw is (is, answered)
  behind_holds w' order' false response is answered right = rw is (rw (unseen T here.node p (state_at T here.node (order' here.node)) is) at right)

  behind_after : (looks : Bool) (response : ℕ) → looks_at T here.node p ≡ looks → 4 * i + 2 ≤ progress T p (Active i x (behind T p here response))
  behind_after true response is = rw is (omega arith)
  behind_after false response is = rw is (omega arith)

  pub keeps_apply : w.locals p ≡ Active i x Apply → Holds T inputs (after_action T p w i x Apply here) (extended order here.node p)
  keeps_apply e =
      let mine = rw e at (holds.local_holds p lt) in
      let v : ℕ = here.node in
      let response : ℕ = acted.0 in
      let next : Local V = Active i x (behind T p here response) in
      let w' : World V = after_action T p w i x Apply here in
      let order' : ℕ → List ℕ = extended order v p in
      let extends : Extends order order' v (p ∷ []) = extends_one order v p in
      let kept : (s : ℕ) (y : V) → w.registers v s ≡ Some y → w.registers v s ≡ Some y = λ s y h. h in
      let grows = changes_grow T inputs w w' order order' holds p next v acted.1 (w.registers v) (p ∷ []) changes_apply extends kept in
      let state_is : w.states v ≡ state_at T v (order v) = holds.moved v in
      let far : 4 * i + 2 ≤ progress T p next = behind_after (looks_at T v p) response refl in
      let distinct : AllPairs (λ (a : ℕ) b. a ≢ b) (order v ++ p ∷ []) = distinct_push (order v) p (holds.distinct v) (new_there e mine.0) in
      let new_done : IsDone T w' v p = record { at = i; place = mine.0; node = refl; applied = rw changes_apply.local_mine far } in
      let came : (k r : ℕ) → slice_get (order v ++ p ∷ []) k ≡ Some r → Has (comes_to T.teams v) r = λ k r h. elim (slice_get_push_cases (order v) p k r h) [
        | inl was ↦ came_there w v r (holds.done v k r was)
        | inr new ↦ rw (← new) (came_there w' v p new_done)
      ] in
      let answered : IsAnswered (act_at T v) (T.meeting v).start (order v ++ p ∷ []) p response = rw state_is (answered_last (act_at T v) (T.meeting v).start (order v) p) in
      keeps_on T inputs w w' order order' holds p next v acted.1 (w.registers v) (p ∷ []) changes_apply extends kept
      (rw (after_push (act_at T v) (T.meeting v).start (order v) p, ← state_is) refl)
      distinct
      (λ k j h. elim (slice_get_push_cases (order v) p k j h) [
        | inl was ↦ inl was
        | inr new ↦ inr (rw (← new) new_done)
      ])
      (λ first rest h. written_push v (order v) (w.registers v) p first rest (λ a t was. holds.written v a t was) (rw (team_there T p i mine.0) mine.2) h)
      (λ s y h. brought_on w' order' grows v s y (holds.brought v s y h)) (
        mine.0,
        brings_grows T inputs w order w' order' grows p i x mine.1,
        behind_holds w' order' (looks_at T v p) response refl (rw extends.this answered) (rw extends.this (right_after v p response (order v ++ p ∷ []) distinct came answered)),
      )
      (rw e (omega arith))

  -- ---- steps that change the process alone
  changes_local : (next : Local V) → Changes w (record w { locals = put w.locals p next }) p next here.node (w.states here.node) (w.registers here.node)
  changes_local next = record {
    local_mine = put-same w.locals p next;
    local_other = λ q ne. put-other w.locals p next q ne;
    state_this = refl;
    state_other = λ u ne. refl;
    registers_this = refl;
    registers_other = λ u ne. refl;
  }

  keeps_local : (next : Local V) → LocalHolds T inputs w order p next → progress T p (w.locals p) ≤ progress T p next → Holds T inputs (record w { locals = put w.locals p next }) order
  keeps_local next next_holds le =
      let v : ℕ = here.node in
      let w' : World V = record w { locals = put w.locals p next } in
      let extends = extends_none order v in
      let kept : (s : ℕ) (y : V) → w.registers v s ≡ Some y → w.registers v s ≡ Some y = λ s y h. h in
      let grows = changes_grow T inputs w w' order order holds p next v (w.states v) (w.registers v) [] (changes_local next) extends kept in
      keeps_on T inputs w w' order order holds p next v (w.states v) (w.registers v) [] (changes_local next) extends kept
      (rw append-nil (holds.moved v))
      (rw append-nil (holds.distinct v))
      (λ k q h. inl (rw append-nil at h))
      (λ first rest h. holds.written v first rest (rw append-nil at h))
      (λ s y h. brought_on w' order grows v s y (holds.brought v s y h))
      (local_grows T inputs w order w' order grows p next next_holds)
      le

  pub keeps_look : (response : ℕ) → w.locals p ≡ Active i x (Look response) → Holds T inputs (after_action T p w i x (Look response) here) order
  keeps_look response e =
      let mine = rw e at (holds.local_holds p lt) in
      let v : ℕ = here.node in
      let right : IsRight T v (order v) p response (see_at T v p (state_at T v (order v))) =
      right_after v p response (order v) (holds.distinct v) (λ k r h. came_there w v r (holds.done v k r h)) mine.2.1 in
      keeps_local (Active i x (Take response (see_at T v p (w.states v)))) (mine.0, mine.1, rw (holds.moved v) right) (rw e (omega arith))

  -- the value that a process takes is the one that the node has fixed
  pub found_is : (v response saw : ℕ) (done : List ℕ) → order v ≡ done → IsRight T v done p response saw → (y : V) × (w.registers v (T.judge v p response saw) ≡ Some y) × (fixed_at T w order v ≡ Some y)
  found_is v response saw [] is h = elim h [ ]
  found_is v response saw (first ∷ rest) is h =
      let r = holds.written v first rest is in
      (r.0, rw h r.1, rw is r.1)

  keeps_onward : (y : V) → IsPlace T p i → fixed_at T w order here.node ≡ Some y → (more : Bool) → nat_lt (i + 1) (length (path_of T p)) ≡ more → LocalHolds T inputs w order p (onward (length (path_of T p)) i y)
  keeps_onward y at h true is =
      let less : i + 1 < length (path_of T p) = grind (arith, nat_tests) in
      let suc_is : i + 1 ≡ suc i = omega arith in
      rw is (rw suc_is ((at.0, omega arith), h, tt))
  keeps_onward y at h false is =
      let all : i + 1 ≡ length (path_of T p) = (let h' : length (path_of T p) ≤ i + 1 = grind (arith, nat_tests) in let l = at.1 in omega arith) in
      rw is (rw (ends T p i at all) at h)

  onward_far : (y : V) → IsPlace T p i → (more : Bool) → nat_lt (i + 1) (length (path_of T p)) ≡ more → 4 * i + 4 ≤ progress T p (onward (length (path_of T p)) i y)
  onward_far y at true is = rw is (omega arith)
  onward_far y at false is =
      let all : i + 1 ≡ length (path_of T p) = (let h' : length (path_of T p) ≤ i + 1 = grind (arith, nat_tests) in let l = at.1 in omega arith) in
      rw is (omega arith)

  pub keeps_take : (response saw : ℕ) → w.locals p ≡ Active i x (Take response saw) → Holds T inputs (after_action T p w i x (Take response saw) here) order
  keeps_take response saw e =
      let mine = rw e at (holds.local_holds p lt) in
      let v : ℕ = here.node in
      let found = found_is v response saw (order v) refl mine.2 in
      let far = onward_far found.0 mine.0 (nat_lt (i + 1) (length (path_of T p))) refl in
      rw found.1 (keeps_local (onward (length (path_of T p)) i found.0)
      (keeps_onward found.0 mine.0 found.2 (nat_lt (i + 1) (length (path_of T p))) refl)
      (rw e (omega arith)))

-- ---- whole schedules
abbrev pub Kept : {V : Type 0} → PlanTree → (ℕ → V) → World V → Type 0
Kept T inputs w = (order : ℕ → List ℕ) × Holds T inputs w order

module _ {V : Type 0} (T : PlanTree) (plan : IsPlanTree T) (inputs : ℕ → V) where
  pub keeps_step : (w : World V) → Kept T inputs w → (p : ℕ) → p < processes_of T → Kept T inputs (after_step T p w)
  keeps_step w kept p lt = go (w.locals p) refl
    where
      staged : (i : ℕ) (x : V) (stage : Stage) → w.locals p ≡ Active i x stage → Kept T inputs (after_action T p w i x stage (place_of T p i))
      staged i x Write e = (kept.0, keeps_write T plan inputs w kept.0 kept.1 p i lt x e)
      staged i x Apply e = (extended kept.0 (place_of T p i).node p, keeps_apply T plan inputs w kept.0 kept.1 p i lt x e)
      staged i x (Look response) e = (kept.0, keeps_look T plan inputs w kept.0 kept.1 p i lt x response e)
      staged i x (Take response saw) e = (kept.0, keeps_take T plan inputs w kept.0 kept.1 p i lt x response saw e)

      go : (here : Local V) → w.locals p ≡ here → Kept T inputs (after_step_from T p w here)
      go (Active i x stage) e = staged i x stage e
      go (Decided y) e = kept

  pub first_holds : Holds T inputs (first_world T inputs) (λ v. [])
  first_holds = record {
    moved = λ v. refl;
    distinct = λ v i j d lt below. absurd (omega arith);
    done = λ v k q h. absurd cc;
    written = λ v first rest h. absurd cc;
    brought = λ v side y h. absurd cc;
    local_holds = λ p lt. ((lt, starts T p lt), refl, tt);
  }

  pub keeps_schedule : (schedule : List ℕ) (w : World V) → IsSchedule (processes_of T) schedule → Kept T inputs w → Kept T inputs (after_schedule T schedule w)
  keeps_schedule [] w all kept = kept
  keeps_schedule (p ∷ schedule) w all kept = keeps_schedule schedule (after_step T p w) all.1 (keeps_step w kept p all.0)
