-- Scenes that are reached, one more move at a time.
use Rattle.std.proofs.Common.{◌≡◌, ◌⊎◌, ℕ, zero, suc, ◌+◌, ◌*◌, ◌<◌, ◌≤◌, inl, inr, List, [], ◌∷◌, ◌++◌, length, refl}
use Rattle.std.proofs.Common.{sym, ap, ◌∙◌, subst, arith, nat_eq, get_or, All, Contains}
use Rattle.std.specs.Prelude.{Option, Some, None, slice_index, sum_by}
use Rattle.std.proofs.lemmas.Bool.{cases_eq, cases_lt, cond-false, cond-true, eq-eqb, ne_eqb}
use Rattle.std.proofs.lemmas.List.Elements.{All-contains, Contains-append_cases, Contains-append_left, Contains-append_right}
use Rattle.std.proofs.lemmas.List.Elements.{Contains-get_or}
use Rattle.std.proofs.lemmas.List.{append-nil}
use Rattle.std.proofs.lemmas.List.Sums.{sum_by-le}
use Rattle.cn_table.specs.TypeTable.{TypeTable, transition}
use Rattle.cn_choice.specs.declared.team.Team.{Team}
use Rattle.cn_unread.specs.Nodes.{BeganIn, Scene, team_of}
use Rattle.cn_further.specs.FurtherNodes.{kept_by, kept_with, next_by, next_operation}
use Rattle.cn_further.specs.FurtherSights.{AreScenesOf, Fits, HasFirsts, IsReached, KeepsFitting, LeadsTo, operations_done}
use Rattle.cn_further.specs.Meetings.{scene_along}
use Rattle.cn_further.specs.SceneLists.{AgreeFor, IsListed, IsSceneOf, LeadsOn, first_scene, kept_of}
use Rattle.cn_further.specs.SceneLists.{scene_next, scene_of, step_by}
use Rattle.cn_further.specs.declared.scene.Scene.{Scene as ListedScene}
use Rattle.cn_further.specs.declared.stage.Stage.{Stage}
use Rattle.cn_further.specs.declared.stage.Stage.TheVariants.{Done, Moved, Waiting}
use Rattle.cn_further.proofs.Steps.{agree_on, agree_same, next_agrees}

-- a process that does one more operation has not done two
pub is_less : (further : ℕ → ℕ → Option ℕ) (own : ℕ) (s : Stage) (o : ℕ)
    → Some o ≡ next_by further own (kept_of s).0 (kept_of s).1 → operations_done s < 2
is_less further own Waiting o e = omega arith
is_less further own (Moved r) o e = omega arith
is_less further own (Done r s) o e = absurd (clash e)
  where
    clash : Some o ≡ None → ⊥
    clash z = cc z

-- all of a list grown by one
pub all_more : {X : Type 0} (ys zs : List X) (s : X)
    → ((x : X) → Contains zs x → Contains ys x ⊎ (x ≡ s)) → (P : X → Type 0) → All P ys → P s
    → All P zs
all_more ys zs s from P old here k d less =
    elim (from (get_or zs k d) (Contains-get_or zs k d less)) [
      | inl there ↦ All-contains P ys (get_or zs k d) old there
      | inr is ↦ subst P (sym is) here
    ]

pub listed_more : (ys zs : List ListedScene) (n : ℕ) (w : Scene)
    → ((s : ListedScene) → Contains ys s → Contains zs s) → IsListed ys n w → IsListed zs n w
listed_more ys zs n w more h =
    let there = more h.1 (h.0, h.2, h.3) in (there.0, h.1, there.1, there.2, h.4)

-- a property of the processes so far and of the next one
pub below_next : (P : ℕ → Type 0) (n : ℕ) → ((j : ℕ) → j < n → P j) → P n → (j : ℕ) → j < n + 1
    → P j
below_next P n h at j l = elim (cases_lt j n) [
  | inl less ↦ h j less
  | inr more ↦ (let same : n ≡ j = omega (arith, more, l) in subst P same at)
]

pub leads_more : (t : TypeTable) (os : List ℕ) (further : ℕ → ℕ → Option ℕ)
    (ys zs : List ListedScene) → ((s : ListedScene) → Contains ys s → Contains zs s)
    → (s : ListedScene) → LeadsTo t os further ys s → LeadsTo t os further zs s
leads_more t os further ys zs more s h = record {
  next = λ j l. elim (h.next j l) [
    | inl same ↦ inl same
    | inr there ↦ inr (listed_more ys zs (length os)
        (scene_next t os further (scene_of s) j) more there)
  ];
}

began_more : (team : ℕ → Team) (y : Team) (j : ℕ) (m : List ℕ) → BeganIn team y m
    → BeganIn team y (j ∷ m)
began_more team y j [] h = absurd h
began_more team y j (i ∷ m) h = h

module _ (t : TypeTable) (state size : ℕ) (os : List ℕ) (further : ℕ → ℕ → Option ℕ)
    (team : Team) where
  pub reached_next : (count j : ℕ) (s r : ListedScene) → j < length os
      → IsReached t state size os further team count s → IsSceneOf t (length os) r
      → sum_by operations_done r.stages.items ≡ sum_by operations_done s.stages.items + 1
      → AgreeFor (length os) (scene_of r) (scene_next t os further (scene_of s) j)
      → IsReached t state size os further team (count + 1) r
  reached_next count j s r l is known more next = record {
    scene = known;
    done = (let less = is.done in omega (arith, less, more));
    moves = j ∷ is.moves;
    known = (l, is.known);
    begun = began_more (team_of size) team j is.moves is.begun;
    after = agree_on (length os) (scene_of r) (scene_next t os further (scene_of s) j)
        (scene_next t os further (scene_along t state os further is.moves) j) next
        (next_agrees t os further (length os) (scene_of s)
        (scene_along t state os further is.moves) j l is.after);
  }

  pub reached_first : (j : ℕ) (r : ListedScene) → j < length os → team_of size j ≡ team
      → IsSceneOf t (length os) r
      → AgreeFor (length os) (scene_of r) (scene_next t os further (first_scene state) j)
      → IsReached t state size os further team 0 r
  reached_first j r l e known next = record {
    scene = known;
    done = omega arith;
    moves = j ∷ [];
    known = (l, tt);
    begun = e;
    after = next;
  }

  -- no process does more than two operations
  done_at_most : (s : Stage) → operations_done s ≤ 2
  done_at_most Waiting = omega arith
  done_at_most (Moved r) = omega arith
  done_at_most (Done r u) = omega arith

  pub none_reached : (count : ℕ) (xs : List ListedScene) → length os + length os < count
      → All (IsReached t state size os further team count) xs → xs ≡ []
  none_reached count [] l h = refl
  none_reached count (x ∷ xs) l h = absurd (clash (h 0 x (omega arith)))
    where
      clash : IsReached t state size os further team count x → ⊥
      clash is =
          let most : sum_by operations_done x.stages.items ≤ length x.stages.items * 2 =
          sum_by-le operations_done 2 x.stages.items (λ k d less. done_at_most (get_or x.stages.items k d)) in
          let long : length x.stages.items ≡ length os = is.scene.1 in
          let low = is.done in omega (arith, most, long, low, l)

-- ---- two responses go with a further operation

kept_fits : (further : ℕ → ℕ → Option ℕ) (own first second o a : ℕ)
    → next_by further own first second ≡ Some o → Fits further own (kept_by first a)
kept_fits further own zero second o a e r s f g = absurd (clash g)
  where
    clash : 0 ≡ suc s → ⊥
    clash z = omega (arith, z)
kept_fits further own (suc first) zero o a e r s f g = λ z. clash (sym e ∙ (ap (further own) less ∙ z))
  where
    less : first ≡ r
    less = omega (arith, f)

    clash : Some o ≡ None → ⊥
    clash y = cc y
kept_fits further own (suc first) (suc second) o a e r s f g = absurd (clash e)
  where
    clash : None ≡ Some o → ⊥
    clash z = cc z

module _ (t : TypeTable) (state : ℕ) (os : List ℕ) (further : ℕ → ℕ → Option ℕ) where
  step_fits : (w : Scene) (i j : ℕ) (m : Option ℕ)
      → next_operation os further i (w.kept i) ≡ m
      → Fits further (slice_index os j) (w.kept j)
      → Fits further (slice_index os j) ((step_by t w i m).kept j)
  step_fits w i j None e h = h
  step_fits w i j (Some o) e h = elim (cases_eq j i) [
    | inl is ↦ subst (Fits further (slice_index os j))
        (sym (cond-true (nat_eq j i) (kept_with (w.kept i) (transition t o w.object).0) (w.kept j)
        (eq-eqb j i is)))
        (subst (λ (k : ℕ). Fits further (slice_index os k) (kept_with (w.kept i)
        (transition t o w.object).0)) (sym is)
        (kept_fits further (slice_index os i) (w.kept i).0 (w.kept i).1 o
        (transition t o w.object).0 e))
    | inr not ↦ subst (Fits further (slice_index os j))
        (sym (cond-false (nat_eq j i) (kept_with (w.kept i) (transition t o w.object).0) (w.kept j)
        (ne_eqb j i not))) h
  ]

  along_fits : (m : List ℕ) (j : ℕ)
      → Fits further (slice_index os j) ((scene_along t state os further m).kept j)
  along_fits [] j r s f g = absurd (clash f)
    where
      clash : 0 ≡ suc r → ⊥
      clash z = omega (arith, z)
  along_fits (i ∷ m) j r s f g =
      let w : Scene = scene_along t state os further m in
      step_fits w i j (next_operation os further i (w.kept i)) refl (along_fits m j) r s f g

  pub reached_fits : (size : ℕ) (team : Team) (count : ℕ) (s : ListedScene)
      → IsReached t state size os further team count s → KeepsFitting os further s
  reached_fits size team count s is = record {
    processes = is.scene.1;
    fits = λ j l. subst (Fits further (slice_index os j)) (sym (is.after.1 j l))
        (along_fits is.moves j);
  }

-- ---- one more level

module _ (t : TypeTable) (state size : ℕ) (os : List ℕ) (further : ℕ → ℕ → Option ℕ)
    (team : Team) (done level : List ListedScene) where
  abbrev n : ℕ
  n = length os

  from_each : {X : Type 0} (P : X → Type 0) (xs : List X) → ((x : X) → Contains xs x → P x)
      → All P xs
  from_each P xs h k d less = h (get_or xs k d) (Contains-get_or xs k d less)

  pub firsts_more : (next : List ListedScene)
      → HasFirsts t state size os further team (done ++ level)
      → HasFirsts t state size os further team ((done ++ level) ++ next)
  firsts_more next h = record {
    first = λ j l e. listed_more (done ++ level) ((done ++ level) ++ next) n
        (scene_next t os further (first_scene state) j)
        (λ s. Contains-append_left (done ++ level) next s) (h.first j l e);
  }

  pub closed_more : (next : List ListedScene)
      → All (LeadsOn t os further (done ++ level)) done → All (LeadsTo t os further next) level
      → All (LeadsOn t os further ((done ++ level) ++ next)) (done ++ level)
  closed_more next closed leads = from_each (LeadsOn t os further all) (done ++ level) each
    where
      all : List ListedScene
      all = (done ++ level) ++ next

      here : (s : ListedScene) → Contains all s → IsListed all n (scene_of s)
      here s h = (h.0, s, h.1, h.2, agree_same n (scene_of s))

      each : (s : ListedScene) → Contains (done ++ level) s → LeadsOn t os further all s
      each s h = record {
        next = λ j l. elim (Contains-append_cases done level s h) [
          | inl early ↦ listed_more (done ++ level) all n (scene_next t os further (scene_of s) j)
              (λ r. Contains-append_left (done ++ level) next r)
              ((All-contains (LeadsOn t os further (done ++ level)) done s closed early).next j l)
          | inr late ↦ elim ((All-contains (LeadsTo t os further next) level s leads late).next j l) [
            | inl same ↦ subst (IsListed all n) (sym same)
                (here s (Contains-append_left (done ++ level) next s h))
            | inr there ↦ listed_more next all n (scene_next t os further (scene_of s) j)
                (λ r. Contains-append_right (done ++ level) next r) there
          ]
        ];
      }

  pub reached_more : (count : ℕ) → All (IsReached t state size os further team 0) done
      → All (IsReached t state size os further team count) level
      → All (IsReached t state size os further team 0) (done ++ level)
  reached_more count early late = from_each Reached (done ++ level) each
    where
      Reached : ListedScene → Type 0
      Reached s = IsReached t state size os further team 0 s

      less : (s : ListedScene) → IsReached t state size os further team count s → Reached s
      less s h = record {
        scene = h.scene;
        done = omega arith;
        moves = h.moves;
        known = h.known;
        begun = h.begun;
        after = h.after;
      }

      each : (s : ListedScene) → Contains (done ++ level) s → Reached s
      each s h = elim (Contains-append_cases done level s h) [
        | inl old ↦ All-contains Reached done s early old
        | inr new ↦ less s (All-contains (IsReached t state size os further team count) level s late new)
      ]

  pub levels_end : (count : ℕ) → n + n < count
      → HasFirsts t state size os further team (done ++ level)
      → All (LeadsOn t os further (done ++ level)) done
      → All (IsReached t state size os further team 0) done
      → All (IsReached t state size os further team count) level
      → AreScenesOf t state size os further team done
  levels_end count l firsts closed reached late =
      let none : level ≡ [] = none_reached t state size os further team count level l late in
      let all : done ++ level ≡ done = ap (λ (xs : List ListedScene). done ++ xs) none ∙ append-nil done in record {
        firsts = subst (λ (xs : List ListedScene). HasFirsts t state size os further team xs) all firsts;
        closed = subst (λ (xs : List ListedScene). All (LeadsOn t os further xs) done) all closed;
        reached = reached;
      }
