-- Where a process has finished with the same after schedules that different teams begin, nothing
-- tells which team was first.
use Rattle.std.proofs.Common.{◌≡◌, ℕ, suc, ◌+◌, ◌-◌, ◌<◌, ◌≤◌, List, [], ◌∷◌, ◌++◌, length, refl}
use Rattle.std.proofs.Common.{sym, ap, ◌∙◌, length-append}
use Rattle.std.proofs.Common.{subst, arith, Bool, cond, get_or, drop, All}
use Rattle.std.specs.Prelude.{Option, None, slice_index}
use Rattle.std.proofs.lemmas.Bool.{le-ltb, lt-ltb}
use Rattle.std.proofs.lemmas.List.{drop_all, drop_more}
use Rattle.std.proofs.lemmas.List.Elements.{recursion_from_All}
use Rattle.cn_table.specs.TypeTable.{TypeTable}
use Rattle.cn_choice.specs.Canonical.{Choice, raw_choice_of}
use Rattle.cn_choice.specs.RawChoices.{RawChoice}
use Rattle.cn_choice.specs.declared.team.Team.{Team}
use Rattle.cn_choice.specs.declared.team.Team.TheVariants.{A, B}
use Rattle.cn_unread.specs.Nodes.{AreMoves, BeganIn, IsNode, Node, Scene}
use Rattle.cn_unread.specs.Nodes.{scene_after, team_of}
use Rattle.cn_unread.specs.Nodes.Move.{Finish}
use Rattle.cn_further.specs.FurtherNodes.{TellsFirst, further_node, further_of, move_by}
use Rattle.cn_further.specs.FurtherNodes.{next_by, next_operation}
use Rattle.cn_further.specs.Meetings.{IsMeeting, scene_along}
use Rattle.cn_further.specs.SceneLists.{AgreeFor, first_scene, kept_at, scene_next, scene_of}
use Rattle.cn_further.specs.declared.follow_up.FollowUp.{FollowUp}
use Rattle.cn_further.specs.declared.scene.Scene.{Scene as ListedScene}
use Rattle.cn_further.proofs.Listed.{moved_by}
use Rattle.cn_further.proofs.Steps.{agree_on, agree_same, next_agrees}

began_one : (team : ℕ → Team) (y z : Team) (m : List ℕ) → BeganIn team y m → BeganIn team z m
    → y ≡ z
began_one team y z [] h k = absurd h
began_one team y z (j ∷ []) h k = sym h ∙ k
began_one team y z (j ∷ i ∷ m) h k = began_one team y z (i ∷ m) h k

-- the team of the last of the list
pub begins : (size : ℕ) (side : Team) (m : List ℕ) → 0 < length m
    → team_of size (get_or m (length m - 1) 0) ≡ side → BeganIn (team_of size) side m
begins size side [] l e = absurd (omega arith)
begins size side (j ∷ []) l e = e
begins size side (j ∷ i ∷ m) l e = begins size side (i ∷ m) (omega arith) (deeper e)
  where
    deeper : team_of size (get_or (j ∷ i ∷ m) (length (j ∷ i ∷ m) - 1) 0) ≡ side
        → team_of size (get_or (i ∷ m) (length (i ∷ m) - 1) 0) ≡ side
    deeper f = subst (λ (k : ℕ). team_of size (get_or (j ∷ i ∷ m) k 0) ≡ side) less f
      where
        less : length (j ∷ i ∷ m) - 1 ≡ suc (length (i ∷ m) - 1)
        less = omega arith

module _ (t : TypeTable) (c : RawChoice) (a b : ℕ) (further : ℕ → ℕ → Option ℕ)
    (told : ℕ → ℕ × ℕ → Team) (long : length c.operations ≡ a + b) where
  abbrev node : Node
  node = further_node c further told

  abbrev along : List ℕ → Scene
  along m = scene_along t c.state c.operations further m

  along_is : (m : List ℕ) → scene_after t node m ≡ along m
  along_is [] = refl
  along_is (j ∷ m) = moved_by t (scene_after t node m) j (told j ((scene_after t node m).kept j))
      (next_operation c.operations further j ((scene_after t node m).kept j))
      ∙ ap (λ (w : Scene). scene_next t c.operations further w j) (along_is m)

  tells : (j : ℕ) (one m : List ℕ)
      → next_operation c.operations further j ((along one).kept j) ≡ None
      → (along m).kept j ≡ (along one).kept j
      → node.move j ((scene_after t node m).kept j) ≡ Finish (told j ((along one).kept j))
  tells j one m done e = ap (node.move j) (ap (λ (w : Scene). w.kept j) (along_is m) ∙ e)
      ∙ ap (λ (n : Option ℕ). move_by n ((along one).kept j) (told j ((along one).kept j))) done

  known : (m : List ℕ) → AreMoves (length c.operations) m → AreMoves (a + b) m
  known m k = subst (λ (n : ℕ). AreMoves n m) long k

  clash : {y : Team} → y ≡ A → y ≡ B → ⊥
  clash p q = differ (sym p ∙ q)
    where
      differ : A ≡ B → ⊥
      differ z = cc z

  pub meeting_refutes : (j : ℕ) (one other : List ℕ)
      → IsMeeting t c.state a c.operations further j one other → IsNode t a b node → ⊥
  meeting_refutes j one other h is =
      let side : Team = told j ((along one).kept j) in
      let l : j < a + b = omega (arith, long, h.role) in clash
      (began_one (team_of a) side A one
      (is.tells_first one (known one h.one_known) j l side (tells j one one h.finished refl))
      h.one_begins)
      (began_one (team_of a) side B other
      (is.tells_first other (known other h.other_known) j l side
      (tells j one other h.finished (sym h.same))) h.other_begins)

-- so they do not tell
pub meeting_tells_not : (t : TypeTable) (n : ℕ) (c : Choice) (fs : List FollowUp)
    (state size : ℕ) (os : List ℕ) (j : ℕ) (one other : List ℕ) → state ≡ c.state
    → size ≡ length c.a → os ≡ c.a ++ c.b
    → IsMeeting t state size os (further_of fs) j one other → TellsFirst t n c fs → ⊥
meeting_tells_not t n c fs state size os j one other e f g h tells =
    meeting_refutes t (raw_choice_of c) (length c.a) (length c.b) (further_of fs) tells.told
    (length-append c.a c.b) j one other there tells.node
  where
    there : IsMeeting t c.state (length c.a) (c.a ++ c.b) (further_of fs) j one other
    there = subst (λ (q : ℕ). IsMeeting t q (length c.a) (c.a ++ c.b) (further_of fs) j one other) e
        (subst (λ (m : ℕ). IsMeeting t state m (c.a ++ c.b) (further_of fs) j one other) f
        (subst (λ (xs : List ℕ). IsMeeting t state size xs (further_of fs) j one other) g h))

-- ---- as a program has them

module _ (t : TypeTable) (state size : ℕ) (os : List ℕ) (further : ℕ → ℕ → Option ℕ) where
  pub along_first : (s : ListedScene) (ms : List ℕ) → scene_of s ≡ first_scene state
      → AgreeFor (length os) (scene_of s)
      (scene_along t state os further (drop (length ms) ms))
  along_first s ms e =
      subst (λ (xs : List ℕ). AgreeFor (length os) (scene_of s) (scene_along t state os further xs))
      (sym (drop_all (length ms) ms (omega arith)))
      (subst (λ (w : Scene). AgreeFor (length os) (scene_of s) w) e
      (agree_same (length os) (scene_of s)))

  pub along_more : (ms : List ℕ) (i m : ℕ) (s r : ListedScene) → m ≡ i + 1 → i < length ms
      → get_or ms i 0 < length os
      → AgreeFor (length os) (scene_of s) (scene_along t state os further (drop m ms))
      → AgreeFor (length os) (scene_of r)
      (scene_next t os further (scene_of s) (get_or ms i 0))
      → AgreeFor (length os) (scene_of r) (scene_along t state os further (drop i ms))
  along_more ms i m s r e l lx h k =
      let x : ℕ = get_or ms i 0 in
      let w : Scene = scene_along t state os further (drop (i + 1) ms) in
      let before : AgreeFor (length os) (scene_of s) w =
      subst (λ (j : ℕ). AgreeFor (length os) (scene_of s)
      (scene_along t state os further (drop j ms))) e h in
      subst (λ (xs : List ℕ). AgreeFor (length os) (scene_of r) (scene_along t state os further xs))
      (sym (drop_more ms i 0 l))
      (agree_on (length os) (scene_of r) (scene_next t os further (scene_of s) x)
      (scene_next t os further w x) k (next_agrees t os further (length os) (scene_of s) w x lx before))

  pub meets : (j : ℕ) (one other : List ℕ) (r s : ListedScene) (x y : ℕ × ℕ) → j < length os
      → All (λ p. p < length os) one → All (λ p. p < length os) other → 0 < length one
      → 0 < length other → slice_index one (length one - 1) < size
      → size ≤ slice_index other (length other - 1)
      → AgreeFor (length os) (scene_of r) (scene_along t state os further one)
      → AgreeFor (length os) (scene_of s) (scene_along t state os further other)
      → x ≡ kept_at r.stages.items j → y ≡ kept_at s.stages.items j
      → None ≡ next_by further (slice_index os j) x.0 x.1 → x ≡ y
      → IsMeeting t state size os further j one other
  meets j one other r s x y l known_one known_other some_one some_other low high h k e f done g = record {
    role = l;
    one_known = recursion_from_All (λ p. p < length os) one known_one;
    other_known = recursion_from_All (λ p. p < length os) other known_other;
    one_begins = begins size A one some_one (ap (λ (b : Bool). cond b A B)
        (lt-ltb (get_or one (length one - 1) 0) size low));
    other_begins = begins size B other some_other (ap (λ (b : Bool). cond b A B)
        (le-ltb (get_or other (length other - 1) 0) size high));
    finished = ap (next_operation os further j) (sym (e ∙ h.1 j l)) ∙ sym done;
    same = sym (e ∙ h.1 j l) ∙ (g ∙ (f ∙ k.1 j l));
  }
