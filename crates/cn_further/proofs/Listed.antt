-- Lists of scenes that are closed, in which each role that has finished tells the right team, make a
-- node.
use Rattle.std.proofs.Common.{◌≡◌, ◌≢◌, ℕ, zero, suc, ◌+◌, ◌<◌, inl, inr, List, ◌++◌, length, refl}
use Rattle.std.proofs.Common.{sym, ap, ◌∙◌, subst, arith, Bool, true, cond, get_or, All}
use Rattle.std.specs.Prelude.{Option, Some, None}
use Rattle.std.specs.List.{list_any}
use Rattle.std.proofs.lemmas.Bool.{cases_lt, le-ltb, lt-ltb}
use Rattle.std.proofs.lemmas.List.{length-append}
use Rattle.std.proofs.lemmas.List.Folds.{Any-from_list_any, list_any-from_Any}
use Rattle.cn_table.specs.TypeTable.{TypeTable}
use Rattle.cn_choice.specs.Canonical.{Choice, IsChoiceFor, raw_choice_of}
use Rattle.cn_choice.specs.RawChoices.{RawChoice}
use Rattle.cn_choice.specs.declared.team.Team.{Team}
use Rattle.cn_choice.specs.declared.team.Team.TheVariants.{A, B}
use Rattle.cn_unread.specs.Certificates.{AreScenes}
use Rattle.cn_unread.specs.Nodes.{IsMoveOf, IsNode, Node, Scene, moved, next_scene}
use Rattle.cn_unread.specs.Nodes.{team_of}
use Rattle.cn_unread.specs.Nodes.Move.{Apply, Finish}
use Rattle.cn_further.specs.FurtherNodes.{AreKnown, TellsFirst, further_node, further_of}
use Rattle.cn_further.specs.FurtherNodes.{kept_by, kept_with, move_by, next_by, next_operation}
use Rattle.cn_further.specs.SceneLists.{IsListed, IsListing, LeadsOn, TellsRight}
use Rattle.cn_further.specs.SceneLists.{first_scene, kept_at, scene_next, scene_of, step_by, told_by}
use Rattle.cn_further.specs.declared.follow_up.FollowUp.{FollowUp}
use Rattle.cn_further.specs.declared.listing.End.{End}
use Rattle.cn_further.specs.declared.scene.Scene.{Scene as ListedScene}
use Rattle.cn_further.proofs.Kept.{agree, agree_decides, next_known}
use Rattle.cn_further.proofs.Steps.{listed_same, next_agrees}

-- ---- moves

pub moved_by : (t : TypeTable) (w : Scene) (p : ℕ) (side : Team) (m : Option ℕ)
    → moved t w p (move_by m (w.kept p) side) ≡ step_by t w p m
moved_by t w p side None = refl
moved_by t w p side (Some o) = refl

finished : (m : Option ℕ) (x : ℕ × ℕ) (told side : Team) → move_by m x told ≡ Finish side
    → (m ≡ None) × (told ≡ side)
finished None x told side e = (refl, same e)
  where
    same : Finish told ≡ Finish side → told ≡ side
    same z = cc z
finished (Some o) x told side e = absurd (clash e)
  where
    clash : Apply o (λ r. kept_with x r) ≡ Finish side → ⊥
    clash z = cc z

applied : (m : Option ℕ) (x : ℕ × ℕ) (told : Team) (o : ℕ) (k : ℕ → ℕ × ℕ)
    → move_by m x told ≡ Apply o k → (m ≡ Some o) × ((r : ℕ) → k r ≡ kept_with x r)
applied None x told o k e = absurd (clash e)
  where
    clash : Finish told ≡ Apply o k → ⊥
    clash z = cc z
applied (Some p) x told o k e = (ap Some (first e), λ r. sym (ap (λ (f : ℕ → ℕ × ℕ). f r) (second e)))
  where
    first : Apply p (λ r. kept_with x r) ≡ Apply o k → p ≡ o
    first z = cc z

    second : Apply p (λ r. kept_with x r) ≡ Apply o k → (λ (r : ℕ). kept_with x r) ≡ k
    second z = cc z

starts_by : (o : ℕ) (x : ℕ × ℕ) (told side : Team) → move_by (Some o) x told ≢ Finish side
starts_by o x told side e = clash e
  where
    clash : Apply o (λ r. kept_with x r) ≡ Finish side → ⊥
    clash z = cc z

known_by : (t : TypeTable) (m : Option ℕ) (x : ℕ × ℕ) (told : Team)
    → ((o : ℕ) → m ≡ Some o → o < length t.operations) → IsMoveOf t (move_by m x told)
known_by t None x told h = tt
known_by t (Some o) x told h = h o refl

-- ---- how many operations are left to a role

abbrev pub left_by : ℕ → ℕ → ℕ
left_by zero second = 2
left_by (suc first) zero = 1
left_by (suc first) (suc second) = 0

abbrev pub left_of : ℕ → ℕ × ℕ → ℕ
left_of j x = left_by x.0 x.1

fewer : (further : ℕ → ℕ → Option ℕ) (own first second o r : ℕ)
    → next_by further own first second ≡ Some o
    → left_of 0 (kept_by first r) < left_by first second
fewer further own zero second o r e = omega arith
fewer further own (suc first) zero o r e = omega arith
fewer further own (suc first) (suc second) o r e = absurd (clash e)
  where
    clash : None ≡ Some o → ⊥
    clash z = cc z

-- ---- the node

module _ (t : TypeTable) (c : RawChoice) (a b : ℕ) (fs : List FollowUp) (ends : List End)
    (after_a after_b : List ListedScene) (long : length c.operations ≡ a + b)
    (state_known : c.state < length t.states) (known : AreKnown t c.operations fs)
    (is : IsListing t c.state a c.operations (further_of fs) ends after_a after_b) where
  abbrev node : Node
  node = further_node c (further_of fs) (told_by ends)

  abbrev count : ℕ
  count = length c.operations

  abbrev scenes_of : Team → List ListedScene
  scenes_of A = after_a
  scenes_of B = after_b

  abbrev pub has : Team → Scene → Bool
  has y v = list_any (λ s. agree count v (scene_of s)) (scenes_of y)

  has_from : (y : Team) (v : Scene) → IsListed (scenes_of y) count v → has y v ≡ true
  has_from y v h = list_any-from_Any (λ (s : ListedScene). agree count v (scene_of s)) (scenes_of y)
      (h.0, h.1, h.2, h.3, (agree_decides count v (scene_of h.1)).1 h.4)

  has_to : (y : Team) (v : Scene) → has y v ≡ true → IsListed (scenes_of y) count v
  has_to y v e =
      let h = Any-from_list_any (λ (s : ListedScene). agree count v (scene_of s)) (scenes_of y) e in
      (h.0, h.1, h.2, h.3, (agree_decides count v (scene_of h.1)).0 h.4)

  role_below : (p : ℕ) → p < a + b → p < count
  role_below p l = omega (arith, long, l)

  next_is : (w : Scene) (p : ℕ)
      → next_scene t node w p ≡ scene_next t c.operations (further_of fs) w p
  next_is w p = moved_by t w p (told_by ends p (w.kept p))
      (next_operation c.operations (further_of fs) p (w.kept p))

  has_next : (y : Team) (w : Scene) (p : ℕ)
      → IsListed (scenes_of y) count (scene_next t c.operations (further_of fs) w p)
      → has y (next_scene t node w p) ≡ true
  has_next y w p h = has_from y (next_scene t node w p)
      (subst (IsListed (scenes_of y) count) (sym (next_is w p)) h)

  closed : (y : Team) → All (LeadsOn t c.operations (further_of fs) (scenes_of y)) (scenes_of y)
  closed A = is.list_a.closed
  closed B = is.list_b.closed

  right : (y : Team) → All (TellsRight c.operations (further_of fs) ends y) (scenes_of y)
  right A = is.list_a.right
  right B = is.list_b.right

  begins : (p : ℕ) → p < a + b → has (team_of a p) (next_scene t node (first_scene c.state) p) ≡ true
  begins p l = elim (cases_lt p a) [
    | inl h ↦ subst (λ (y : Team). has y (next_scene t node (first_scene c.state) p) ≡ true)
        (sym (ap (λ (z : Bool). cond z A B) (lt-ltb p a h)))
        (has_next A (first_scene c.state) p (is.starts_a.next p (omega arith) h))
    | inr h ↦ subst (λ (y : Team). has y (next_scene t node (first_scene c.state) p) ≡ true)
        (sym (ap (λ (z : Bool). cond z A B) (le-ltb p a h)))
        (has_next B (first_scene c.state) p (is.starts_b.next p h (role_below p l)))
  ]

  goes_on : (y : Team) (v : Scene) (p : ℕ) → p < a + b → has y v ≡ true
      → has y (next_scene t node v p) ≡ true
  goes_on y v p l e =
      let h = has_to y v e in
      let s : ListedScene = h.1 in
      let on : LeadsOn t c.operations (further_of fs) (scenes_of y) s =
      subst (LeadsOn t c.operations (further_of fs) (scenes_of y)) h.3 (closed y h.0 s h.2) in
      has_next y v p (listed_same (scenes_of y) count count
      (scene_next t c.operations (further_of fs) (scene_of s) p)
      (scene_next t c.operations (further_of fs) v p) refl
      (next_agrees t c.operations (further_of fs) count v (scene_of s) p (role_below p l) h.4)
      (on.next p (role_below p l)))

  tells : (y : Team) (v : Scene) (j : ℕ) (side : Team) → j < a + b → has y v ≡ true
      → node.move j (v.kept j) ≡ Finish side → y ≡ side
  tells y v j side l e f =
      let h = has_to y v e in
      let s : ListedScene = h.1 in
      let kept : v.kept j ≡ kept_at s.stages.items j = h.4.1 j (role_below j l) in
      let says : TellsRight c.operations (further_of fs) ends y s =
      subst (TellsRight c.operations (further_of fs) ends y) h.3 (right y h.0 s h.2) in
      let g = finished (next_operation c.operations (further_of fs) j (v.kept j)) (v.kept j)
      (told_by ends j (v.kept j)) side f in
      sym (says.told j (role_below j l)
      (sym (ap (next_operation c.operations (further_of fs) j) kept) ∙ g.0))
      ∙ (sym (ap (told_by ends j) kept) ∙ g.1)

  falls : (j : ℕ) (x : ℕ × ℕ) (o : ℕ) (k : ℕ → ℕ × ℕ) (r : ℕ) → j < a + b
      → node.move j x ≡ Apply o k → left_of j (k r) < left_of j x
  falls j x o k r l e =
      let g = applied (next_operation c.operations (further_of fs) j x) x (told_by ends j x) o k e in
      subst (λ (z : ℕ × ℕ). left_of j z < left_of j x) (sym (g.1 r))
      (fewer (further_of fs) (get_or c.operations j 0) x.0 x.1 o r g.0)

  pub listed_scenes : AreScenes t a b node has left_of 2
  listed_scenes = record {
    state_known = state_known;
    operations_known = λ j x l. known_by t (next_operation c.operations (further_of fs) j x) x
        (told_by ends j x) (next_known t fs known.further (get_or c.operations j 0)
        (known.own j 0 (role_below j l)) x.0 x.1);
    starts = λ j side l. starts_by (get_or c.operations j 0) (0, 0) (told_by ends j (0, 0)) side;
    first = begins;
    next = goes_on;
    right = tells;
    falls = falls;
    enough = λ j l. omega arith;
  }

  pub listed_node : ((has : Team → Scene → Bool) (left : ℕ → ℕ × ℕ → ℕ) (bound : ℕ)
      → AreScenes t a b node has left bound → IsNode t a b node) → IsNode t a b node
  listed_node law = law has left_of 2 listed_scenes

-- lists of scenes show that further operations tell
pub listing_tells : (t : TypeTable) (c : Choice) (fs : List FollowUp) (ends : List End)
    (after_a after_b : List ListedScene) (state size : ℕ) (os : List ℕ) → state ≡ c.state
    → size ≡ length c.a → os ≡ c.a ++ c.b → IsChoiceFor t (length c.a + length c.b) c
    → AreKnown t (c.a ++ c.b) fs
    → IsListing t state size os (further_of fs) ends after_a after_b
    → ((a b : ℕ) (node : Node) (has : Team → Scene → Bool) (left : ℕ → ℕ × ℕ → ℕ) (bound : ℕ)
    → AreScenes t a b node has left bound → IsNode t a b node)
    → TellsFirst t (length c.a + length c.b) c fs
listing_tells t c fs ends after_a after_b state size os e f g choice known is law = record {
  choice = choice;
  known = known;
  told = told_by ends;
  node = listed_node t (raw_choice_of c) (length c.a) (length c.b) fs ends after_a after_b
      (length-append c.a c.b) choice.known_state known there
      (law (length c.a) (length c.b)
      (further_node (raw_choice_of c) (further_of fs) (told_by ends)));
}
  where
    there : IsListing t c.state (length c.a) (c.a ++ c.b) (further_of fs) ends after_a after_b
    there = subst (λ (q : ℕ). IsListing t q (length c.a) (c.a ++ c.b) (further_of fs) ends after_a
        after_b) e (subst (λ (m : ℕ). IsListing t state m (c.a ++ c.b) (further_of fs) ends after_a
        after_b) f (subst (λ (xs : List ℕ). IsListing t state size xs (further_of fs) ends after_a
        after_b) g is))
