-- Each of the four actions keeps the invariant.
use Rattle.std.proofs.Common.{ℕ, zero, suc, ◌≡◌, ◌≢◌, ◌⊎◌, inl, inr, Bool, true, false, ◌+◌, ◌*◌, ◌<◌, ◌≤◌, List, [], ◌∷◌, ◌++◌, length, slice_get, slice_set, Option, Some, None, refl, sym, ap, ◌∙◌, subst, arith, append-nil, length-set, get_or-set_same, get_or-set_other, if◌then◌else◌, ◌==◌, nat_lt}
use Rattle.std.proofs.lemmas.Bool.Decides.{nat_tests}
use Rattle.std.proofs.lemmas.List.{set-get_or}
use Rattle.cn_agree.specs.declared.node.Node.{Node}
use Rattle.cn_table.specs.declared.elements.State.{State}
use Rattle.cn_table.specs.declared.elements.Response.{Response}
use Rattle.cn_choice.specs.declared.team.Team.{Team}
use Rattle.cn_choice.specs.declared.team.Team.TheVariants.{A, B}
use Rattle.cn_proto.specs.declared.place.Place.{Place}
use Rattle.cn_agree.specs.declared.local.Stage.TheVariants.{Write, Apply, Read, Take}
use Rattle.cn_agree.specs.declared.local.Local.{Local}
use Rattle.cn_agree.specs.declared.local.Local.TheVariants.{NotBegun, Active}
use Rattle.cn_proto.specs.Order.{after, IsAnswered}
use Rattle.cn_proto.specs.Protocol.{ProtocolOfRounds, place_of}
use Rattle.cn_agree.specs.World.{World, node_at, local_at, input_at, register, with_register, fresh_node}
use Rattle.cn_agree.specs.Steps.{after_action, local_after, first_recorded, onward}
use Rattle.cn_proto.specs.Sound.{IsSound, IsPlace, IsFedAlike}
use Rattle.cn_agree.proofs.Lists.{AllByRecursion_get, slice_get_push_cases}
use Rattle.cn_agree.proofs.OrderLemmas.{after_push, answered_last, distinct_push}
use Rattle.cn_agree.proofs.Invariant.{first_team, LocalHolds, Brings, fixed_at, IsOfFirst, Holds, IsBrought}
use Rattle.cn_agree.specs.Rounds.{steps_taken}
use Rattle.cn_agree.proofs.Growing.{brings_grows, local_grows}
use Rattle.cn_agree.proofs.Changing.{Changes, Extends, changes_grow, keeps_on}

-- a write of one node and one local state
pub changes_both : {V : Type 0} (P : ProtocolOfRounds) (w : World V) (first : Option Team) (p : ℕ) (mine : Local V) (v : ℕ) (node : Node V) → v < length w.nodes → p < length w.locals
    → Changes P w (record w { nodes = slice_set w.nodes v node; locals = slice_set w.locals p mine; first = first }) p mine v node
changes_both P w first p mine v node lv lp = record {
  nodes_are = length-set w.nodes v node;
  locals_are = length-set w.locals p mine;
  local_mine = get_or-set_same w.locals p mine NotBegun lp;
  local_other = λ q ne. get_or-set_other w.locals p q mine NotBegun ne;
  node_this = get_or-set_same w.nodes v node (fresh_node P.start) lv;
  node_other = λ u ne. get_or-set_other w.nodes v u node (fresh_node P.start) ne;
  inputs_same = refl;
}

-- a read leaves the nodes
read_world : {V : Type 0} (P : ProtocolOfRounds) (w : World V) (v : ℕ) (locals : List (Local V))
    → record w { nodes = slice_set w.nodes v (node_at P w v); locals = locals; first = w.first } ≡ record w { locals = locals }
read_world P w v locals = λ d. record { nodes = set-get_or w.nodes v (fresh_node P.start) d; locals = locals; inputs = w.inputs; first = w.first }

-- a write of one local state
changes_local : {V : Type 0} (P : ProtocolOfRounds) (w : World V) (p : ℕ) (mine : Local V) (v : ℕ) → p < length w.locals
    → Changes P w (record w { locals = slice_set w.locals p mine }) p mine v (node_at P w v)
changes_local P w p mine v lp = record {
  nodes_are = refl;
  locals_are = length-set w.locals p mine;
  local_mine = get_or-set_same w.locals p mine NotBegun lp;
  local_other = λ q ne. get_or-set_other w.locals p q mine NotBegun ne;
  node_this = refl;
  node_other = λ u ne. refl;
  inputs_same = refl;
}

-- the orders after one more role at node v
abbrev pub extended : (ℕ → List ℕ) → ℕ → ℕ → ℕ → List ℕ
extended order v role u = if u == v then order v ++ role ∷ [] else order u

extends_one : (order : ℕ → List ℕ) (v role : ℕ) → Extends order (extended order v role) v (role ∷ [])
extends_one order v role = record { this = at v refl; other = off }
  where
    at : (u : ℕ) → u ≡ v → extended order v role u ≡ order v ++ role ∷ []
    at u e = let t : (u == v) ≡ true = grind (arith, nat_tests) in rw t

    off : (u : ℕ) → u ≢ v → extended order v role u ≡ order u
    off u ne = let t : (u == v) ≡ false = grind (arith, nat_tests) in rw t

extends_none : (order : ℕ → List ℕ) (v : ℕ) → Extends order order v []
extends_none order v = record { this = sym (append-nil (order v)); other = λ u ne. refl }

-- the value in a register is the old one, or the one written
register_cases : {V : Type 0} (node : Node V) (mine side : Team) (x y : V) → register (with_register node mine x) side ≡ Some y → (register node side ≡ Some y) ⊎ ((side ≡ mine) × (x ≡ y))
register_cases node A A x y h = inr (refl, cc)
register_cases node A B x y h = inl h
register_cases node B A x y h = inl h
register_cases node B B x y h = inr (refl, cc)

-- the value in a register after a write
pub register_mine : {V : Type 0} (node : Node V) (mine : Team) (x : V) → register (with_register node mine x) mine ≡ Some x
register_mine node A x = refl
register_mine node B x = refl

state_kept : {V : Type 0} (node : Node V) (mine : Team) (x : V) → (with_register node mine x).state ≡ node.state
state_kept node A x = refl
state_kept node B x = refl

-- if equal values come in, a second write of a register keeps its value
register_kept : {V : Type 0} (node : Node V) (mine side : Team) (x y : V) → ((z : V) → register node mine ≡ Some z → z ≡ x) → register node side ≡ Some y
    → register (with_register node mine x) side ≡ Some y
register_kept node A A x y same h = ap Some (sym (same y h))
register_kept node A B x y same h = h
register_kept node B A x y same h = h
register_kept node B B x y same h = ap Some (sym (same y h))

register_moved : {V : Type 0} (node : Node V) (state : State) (side : Team) → register (record node { state = state }) side ≡ register node side
register_moved node state A = refl
register_moved node state B = refl

noted_first : (team : ℕ → Team) (roles : List ℕ) (role : ℕ) → first_recorded (first_team team roles) 0 (team role) ≡ first_team team (roles ++ role ∷ [])
noted_first team [] role = refl
noted_first team (head ∷ rest) role = refl

noted_later : (first : Option Team) (v : ℕ) (side : Team) → first_recorded first (suc v) side ≡ first
noted_later None v side = refl
noted_later (Some f) v side = refl

-- places that are fed alike get one value
brings_same : {V : Type 0} (P : ProtocolOfRounds) (team : ℕ → Team) (w : World V) (order : ℕ → List ℕ) (p i q j : ℕ) (x y : V)
    → IsFedAlike P p i q j → Brings P team w order p i x → Brings P team w order q j y → x ≡ y
brings_same P team w order p zero q zero x y fed bx by = let e : input_at w p ≡ input_at w q = ap (input_at w) fed in cc
brings_same P team w order p zero q (suc j) x y fed bx by = elim fed [ ]
brings_same P team w order p (suc i) q zero x y fed bx by = elim fed [ ]
brings_same P team w order p (suc i) q (suc j) x y fed bx by =
    let e : fixed_at P team w order (place_of P p i).node ≡ fixed_at P team w order (place_of P q j).node = ap (fixed_at P team w order) fed in cc

module _ {V : Type 0} (P : ProtocolOfRounds) (n nodes : ℕ) (team : ℕ → Team) (sound : IsSound P n nodes team) (w : World V) (order : ℕ → List ℕ)
    (holds : Holds P n nodes team w order) (p i : ℕ) (lt : p < n) (x : V) where
  pub keeps_write : local_at w p ≡ Active i x Write → Holds P n nodes team (after_action P p w i x Write (place_of P p i)) order
  keeps_write e =
      let mine = rw e at (holds.local_holds p lt) in
      let here : Place = place_of P p i in
      let v : ℕ = here.node in
      let node : Node V = with_register (node_at P w v) here.team x in
      let w' : World V = after_action P p w i x Write here in
      let changes : Changes P w w' p (Active i x Apply) v node =
      changes_both P w w.first p (Active i x Apply) v node (rw holds.nodes_are (sound.nodes_below p i mine.0)) (rw holds.locals_are lt) in
      let extends = extends_none order v in
      let same : (z : V) → register (node_at P w v) here.team ≡ Some z → z ≡ x = λ z h. same_value mine.0 mine.1 z (holds.brought v here.team z h) in
      let kept : (side : Team) (y : V) → register (node_at P w v) side ≡ Some y → register node side ≡ Some y =
      λ side y h. register_kept (node_at P w v) here.team side x y same h in
      let grows = changes_grow P n nodes team w w' order order holds p (Active i x Apply) v node [] changes extends kept in
      keeps_on P n nodes team w w' order order holds p (Active i x Apply) v node [] changes extends kept
      (rw (append-nil (order v), state_kept (node_at P w v) here.team x) (holds.moved v))
      (rw append-nil (holds.distinct v))
      (λ k role h. inl (rw append-nil at h))
      (λ head rest h. let r = holds.written v head rest (rw append-nil at h) in (r.0, kept (team head) r.0 r.1))
      (λ side y h. elim (register_cases (node_at P w v) here.team side x y h) [
        | inl old ↦ (let b = holds.brought v side y old in record {
          by = b.by;
          at = b.at;
          place = b.place;
          node = b.node;
          team_is = b.team_is;
          brings = brings_grows P n team w order w' order grows b.by b.at y b.brings;
        })
        | inr new ↦ record {
          by = p;
          at = i;
          place = mine.0;
          node = refl;
          team_is = sym new.0;
          brings = brings_grows P n team w order w' order grows p i y (rw new.1 at mine.1);
        }
      ])
      (mine.0, brings_grows P n team w order w' order grows p i x mine.1, rw changes.node_this (register_mine (node_at P w v) here.team x))
      holds.first_is
      (rw e (omega arith))
    where
      same_value : IsPlace P n p i → Brings P team w order p i x → (z : V) → IsBrought P n team w order (place_of P p i).node (place_of P p i).team z → z ≡ x
      same_value at brings z b =
          brings_same P team w order b.by b.at p i z x (sound.fed b.by b.at p i b.place at b.node b.team_is) b.brings brings

  -- a second write of a register keeps its value
  pub registers_write : local_at w p ≡ Active i x Write → (v : ℕ) (side : Team) (y : V) → register (node_at P w v) side ≡ Some y
      → register (node_at P (after_action P p w i x Write (place_of P p i)) v) side ≡ Some y
  registers_write e v side y h =
      let mine = rw e at (holds.local_holds p lt) in
      let here : Place = place_of P p i in
      let node : Node V = with_register (node_at P w here.node) here.team x in
      let changes : Changes P w (after_action P p w i x Write here) p (Active i x Apply) here.node node =
      changes_both P w w.first p (Active i x Apply) here.node node (rw holds.nodes_are (sound.nodes_below p i mine.0)) (rw holds.locals_are lt) in
      (changes_grow P n nodes team w (after_action P p w i x Write here) order order holds p (Active i x Apply) here.node node [] changes (extends_none order here.node)
      (λ side y h. register_kept (node_at P w here.node) here.team side x y (λ z h. same_value mine.0 mine.1 z (holds.brought here.node here.team z h)) h)).registers v side y h
    where
      same_value : IsPlace P n p i → Brings P team w order p i x → (z : V) → IsBrought P n team w order (place_of P p i).node (place_of P p i).team z → z ≡ x
      same_value at brings z b =
          brings_same P team w order b.by b.at p i z x (sound.fed b.by b.at p i b.place at b.node b.team_is) b.brings brings

  pub registers_apply : local_at w p ≡ Active i x Apply → (v : ℕ) (side : Team) (y : V) → register (node_at P w v) side ≡ Some y
      → register (node_at P (after_action P p w i x Apply (place_of P p i)) v) side ≡ Some y
  registers_apply e v side y h =
      let mine = rw e at (holds.local_holds p lt) in
      let here : Place = place_of P p i in
      let old : Node V = node_at P w here.node in
      let node : Node V = record old { state = record { 0 = (P.act here.role old.state.0).1 } } in
      let next : Local V = Active i x (Read (record { 0 = (P.act here.role old.state.0).0 })) in
      let changes : Changes P w (after_action P p w i x Apply here) p next here.node node =
      changes_both P w (first_recorded w.first here.node here.team) p next here.node node (rw holds.nodes_are (sound.nodes_below p i mine.0)) (rw holds.locals_are lt) in
      (changes_grow P n nodes team w (after_action P p w i x Apply here) order order holds p next here.node node [] changes (extends_none order here.node)
      (λ side y h. rw register_moved h)).registers v side y h

  holder_new : local_at w p ≡ Active i x Apply → IsPlace P n p i → (k : ℕ) → slice_get (order (place_of P p i).node) k ≢ Some (place_of P p i).role
  holder_new e at k h =
      let d = holds.done (place_of P p i).node k (place_of P p i).role h in
      let same = sound.one_holder d.by d.at p i d.place at d.node d.role_is in
      let early : 4 * d.at + 2 ≤ 4 * i + 1 = early_at d.by d.at same.0 d.applied in
      let at_is : d.at ≡ i = same.1 in
      omega arith
    where
      early_at : (q j : ℕ) → q ≡ p → 4 * j + 2 ≤ steps_taken P q (local_at w q) → 4 * j + 2 ≤ 4 * i + 1
      early_at q j same h = rw (same, e) at h

  written_push : (old : List ℕ) (node : Node V) (role head : ℕ) (rest : List ℕ) → ((h : ℕ) (t : List ℕ) → old ≡ h ∷ t → (y : V) × (register node (team h) ≡ Some y))
      → register node (team role) ≡ Some x → old ++ role ∷ [] ≡ head ∷ rest → (y : V) × (register node (team head) ≡ Some y)
  written_push [] node role head rest old_written mine e = let same : role ≡ head = cc in (x, rw (← same) mine)
  written_push (h ∷ t) node role head rest old_written mine e = let same : h ≡ head = cc in rw (← same) (old_written h t refl)

  noted_here : (v : ℕ) → (place_of P p i).node ≡ v → Extends order (extended order (place_of P p i).node (place_of P p i).role) (place_of P p i).node ((place_of P p i).role ∷ []) → IsPlace P n p i
      → first_recorded w.first (place_of P p i).node (place_of P p i).team ≡ first_team team (extended order (place_of P p i).node (place_of P p i).role 0)
  noted_here zero e extends at =
      let this = rw e at extends.this in
      rw (e, this, holds.first_is, ← sound.teams p i at) (noted_first team (order 0) (place_of P p i).role)
  noted_here (suc v) e extends at =
      let other : extended order (place_of P p i).node (place_of P p i).role 0 ≡ order 0 = extends.other 0 (λ z. let c : 0 ≡ suc v = z ∙ e in absurd (omega arith)) in
      rw (other, e) (noted_later w.first v (place_of P p i).team ∙ holds.first_is)

  pub keeps_apply : local_at w p ≡ Active i x Apply → Holds P n nodes team (after_action P p w i x Apply (place_of P p i)) (extended order (place_of P p i).node (place_of P p i).role)
  keeps_apply e =
      let mine = rw e at (holds.local_holds p lt) in
      let here : Place = place_of P p i in
      let v : ℕ = here.node in
      let role : ℕ = here.role in
      let old : Node V = node_at P w v in
      let node : Node V = record old { state = record { 0 = (P.act role old.state.0).1 } } in
      let next : Local V = Active i x (Read (record { 0 = (P.act role old.state.0).0 })) in
      let w' : World V = after_action P p w i x Apply here in
      let order' : ℕ → List ℕ = extended order v role in
      let changes : Changes P w w' p next v node =
      changes_both P w (first_recorded w.first v here.team) p next v node (rw holds.nodes_are (sound.nodes_below p i mine.0)) (rw holds.locals_are lt) in
      let extends : Extends order order' v (role ∷ []) = extends_one order v role in
      let kept : (side : Team) (y : V) → register old side ≡ Some y → register node side ≡ Some y = λ side y h. rw register_moved h in
      let grows = changes_grow P n nodes team w w' order order' holds p next v node (role ∷ []) changes extends kept in
      let after_is : (node_at P w v).state.0 ≡ after P.act P.start (order v) = holds.moved v in
      keeps_on P n nodes team w w' order order' holds p next v node (role ∷ []) changes extends kept
      (rw (after_push P.act P.start (order v) role, ← after_is) refl)
      (distinct_push (order v) role (holds.distinct v) (holder_new e mine.0))
      (λ k j h. elim (slice_get_push_cases (order v) role k j h) [
        | inl was ↦ inl was
        | inr new ↦ inr (record {
          by = p;
          at = i;
          place = mine.0;
          node = refl;
          role_is = new;
          applied = rw changes.local_mine (omega arith);
        })
      ])
      (λ head rest h. written_push (order v) node role head rest (λ a t was. let r = holds.written v a t was in (r.0, kept (team a) r.0 r.1))
      (rw (register_moved, sound.teams p i mine.0) mine.2) h)
      (λ side y h. let b = holds.brought v side y (rw register_moved at h) in record {
        by = b.by;
        at = b.at;
        place = b.place;
        node = b.node;
        team_is = b.team_is;
        brings = brings_grows P n team w order w' order' grows b.by b.at y b.brings;
      }) (
        mine.0,
        brings_grows P n team w order w' order' grows p i x mine.1,
        (rw (changes.node_this, register_moved) mine.2, rw (extends.this, after_is) (answered_last P.act P.start (order v) role)),
      )
      (noted_here v refl extends mine.0)
      (rw e (omega arith))

  roles_of_order : (v : ℕ) (k role : ℕ) → slice_get (order v) k ≡ Some role → role < n
  roles_of_order v k role h =
      let d = holds.done v k role h in rw d.role_is at (sound.roles_below d.by d.at d.place)

  of_first : (v : ℕ) (role response : ℕ) (roles : List ℕ) → order v ≡ roles → IsAnswered P.act P.start roles role response → IsOfFirst P n team roles role response (after P.act P.start roles)
  of_first v role response [] is h = absurd (cc h.1)
  of_first v role response (head ∷ rest) is h = record {
    order = head ∷ rest;
    run = record {
      distinct = rw is at (holds.distinct v);
      below = AllByRecursion_get (λ j. j < n) (head ∷ rest) (λ k j g. roles_of_order v k j (rw is g));
      begins = refl;
    };
    answered = h;
    ends = refl;
  }

  keeps_local : (next : Local V) → Brings P team w order p i x → LocalHolds P n team w order p next → steps_taken P p (local_at w p) ≤ steps_taken P p next
      → (v : ℕ) → Holds P n nodes team (record w { locals = slice_set w.locals p next }) order
  keeps_local next brings next_holds le v =
      let w' : World V = record w { locals = slice_set w.locals p next } in
      let changes : Changes P w w' p next v (node_at P w v) = changes_local P w p next v (rw holds.locals_are lt) in
      let extends = extends_none order v in
      let kept : (side : Team) (y : V) → register (node_at P w v) side ≡ Some y → register (node_at P w v) side ≡ Some y = λ side y h. h in
      let grows = changes_grow P n nodes team w w' order order holds p next v (node_at P w v) [] changes extends kept in
      keeps_on P n nodes team w w' order order holds p next v (node_at P w v) [] changes extends kept
      (rw append-nil (holds.moved v))
      (rw append-nil (holds.distinct v))
      (λ k role h. inl (rw append-nil at h))
      (λ head rest h. holds.written v head rest (rw append-nil at h))
      (λ side y h. let b = holds.brought v side y h in record {
        by = b.by;
        at = b.at;
        place = b.place;
        node = b.node;
        team_is = b.team_is;
        brings = brings_grows P n team w order w' order grows b.by b.at y b.brings;
      })
      (local_grows P n team w order w' order grows p next (λ e. refl) next_holds)
      holds.first_is
      le

  pub keeps_read : (response : Response) → local_at w p ≡ Active i x (Read response) → Holds P n nodes team (after_action P p w i x (Read response) (place_of P p i)) order
  keeps_read response e =
      let mine = rw e at (holds.local_holds p lt) in
      let here : Place = place_of P p i in
      let v : ℕ = here.node in
      let s : State = (node_at P w v).state in
      let T : World V → Type 0 = λ w'. Holds P n nodes team w' order in
      subst T (sym (read_world P w v (slice_set w.locals p (Active i x (Take response s)))))
      (keeps_local (Active i x (Take response s)) mine.1
      (mine.0, mine.1, rw (holds.moved v) (of_first v here.role response.0 (order v) refl mine.2.1))
      (rw e (omega arith)) v)

  -- the value found in step 4 is the one that the node has fixed
  pub found_is : (v role response state : ℕ) (roles : List ℕ) → order v ≡ roles → IsOfFirst P n team roles role response state
      → (y : V) × (register (node_at P w v) (P.judge role response state) ≡ Some y) × (fixed_at P team w order v ≡ Some y)
  found_is v role response state [] is h = elim h [ ]
  found_is v role response state (head ∷ rest) is h =
      let judges_right : P.judge role response state ≡ team head = rw h.ends at (sound.judges_right (team head) h.order role response h.run h.answered) in
      let r = holds.written v head rest is in
      (r.0, rw judges_right r.1, rw is r.1)

  keeps_onward : (y : V) → IsPlace P n p i → fixed_at P team w order (place_of P p i).node ≡ Some y → (more : Bool) → nat_lt (i + 1) (length (P.path p)) ≡ more
      → LocalHolds P n team w order p (onward (length (P.path p)) i y)
  keeps_onward y at h true is = let less : i + 1 < length (P.path p) = grind (arith, nat_tests) in
      let suc_is : i + 1 ≡ suc i = omega arith in
      rw is (rw suc_is ((at.0, omega arith), h, tt))
  keeps_onward y at h false is =
      let all : i + 1 ≡ length (P.path p) = (let h' : length (P.path p) ≤ i + 1 = grind (arith, nat_tests) in let l = at.1 in omega arith) in
      rw is (rw (sound.ends p i at all) at h)

  pub onward_steps : (y : V) → IsPlace P n p i → (more : Bool) → nat_lt (i + 1) (length (P.path p)) ≡ more → steps_taken P p (onward (length (P.path p)) i y) ≡ 4 * i + 4
  onward_steps y at true is = rw is (omega arith)
  onward_steps y at false is =
      let all : i + 1 ≡ length (P.path p) = (let h' : length (P.path p) ≤ i + 1 = grind (arith, nat_tests) in let l = at.1 in omega arith) in
      rw is (omega arith)

  pub keeps_take : (response : Response) (state : State) → local_at w p ≡ Active i x (Take response state) → Holds P n nodes team (after_action P p w i x (Take response state) (place_of P p i)) order
  keeps_take response state e =
      let mine = rw e at (holds.local_holds p lt) in
      let here : Place = place_of P p i in
      let v : ℕ = here.node in
      let found = found_is v here.role response.0 state.0 (order v) refl mine.2 in
      let T : World V → Type 0 = λ w'. Holds P n nodes team w' order in
      subst T (sym (read_world P w v (slice_set w.locals p (local_after P (length (P.path p)) i here x (Take response state) (node_at P w v)))))
      (rw found.1 (keeps_local (onward (length (P.path p)) i found.0) mine.1
      (keeps_onward found.0 mine.0 found.2 (nat_lt (i + 1) (length (P.path p))) refl)
      (rw (e, onward_steps found.0 mine.0 (nat_lt (i + 1) (length (P.path p))) refl) (omega arith)) v))
