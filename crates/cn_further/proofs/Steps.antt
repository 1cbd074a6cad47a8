-- The scene after a next operation.
use Rattle.std.proofs.Common.{◌≡◌, ℕ, ◌<◌, inl, inr, List, length, refl, sym, ap, ◌∙◌, subst, arith}
use Rattle.std.proofs.Common.{cond, nat_eq, get_or, replicate}
use Rattle.std.specs.Prelude.{Option, Some, None, slice_index}
use Rattle.std.proofs.lemmas.Bool.{cases_lt}
use Rattle.std.proofs.lemmas.List.{get_or-replicate, get_or_past, length-replicate}
use Rattle.cn_table.specs.TypeTable.{TypeTable, transition}
use Rattle.cn_unread.specs.Functions.{put}
use Rattle.cn_unread.specs.Nodes.{Scene}
use Rattle.cn_further.specs.FurtherNodes.{kept_with, next_by, next_operation}
use Rattle.cn_further.specs.SceneLists.{AgreeFor, IsListed, first_scene, kept_at, kept_of}
use Rattle.cn_further.specs.SceneLists.{scene_next, scene_of, step_by}
use Rattle.cn_further.specs.declared.scene.Scene.{Scene as ListedScene}
use Rattle.cn_further.specs.declared.stage.Stage.{Stage}
use Rattle.cn_further.specs.declared.stage.Stage.TheVariants.{Waiting}
use Rattle.cn_further.proofs.Kept.{read_kept}

pub agree_same : (n : ℕ) (v : Scene) → AgreeFor n v v
agree_same n v = (refl, λ j l. refl)

pub agree_back : (n : ℕ) (v w : Scene) → AgreeFor n v w → AgreeFor n w v
agree_back n v w h = (sym h.0, λ j l. sym (h.1 j l))

pub agree_on : (n : ℕ) (u v w : Scene) → AgreeFor n u v → AgreeFor n v w → AgreeFor n u w
agree_on n u v w h k = (h.0 ∙ k.0, λ j l. h.1 j l ∙ k.1 j l)

pub listed_same : (xs : List ListedScene) (m n : ℕ) (v w : Scene) → m ≡ n → AgreeFor n w v
    → IsListed xs m v → IsListed xs n w
listed_same xs m n v w e h k = (
  k.0,
  k.1,
  k.2,
  k.3,
  agree_on n w v (scene_of k.1) h
      (subst (λ (i : ℕ). AgreeFor i v (scene_of k.1)) e k.4),
)

-- scenes that agree have next scenes that agree
pub step_agrees : (t : TypeTable) (n : ℕ) (v w : Scene) (p : ℕ) (m : Option ℕ) → p < n
    → AgreeFor n v w → AgreeFor n (step_by t v p m) (step_by t w p m)
step_agrees t n v w p None l h = h
step_agrees t n v w p (Some o) l h = (
  ap (λ (q : ℕ). (transition t o q).1) h.0,
  λ j lj i. cond (nat_eq j p) (kept_with (h.1 p l i) (transition t o (h.0 i)).0) (h.1 j lj i),
)

pub next_agrees : (t : TypeTable) (os : List ℕ) (further : ℕ → ℕ → Option ℕ) (n : ℕ)
    (v w : Scene) (p : ℕ) → p < n → AgreeFor n v w
    → AgreeFor n (scene_next t os further v p) (scene_next t os further w p)
next_agrees t os further n v w p l h =
    subst (λ (m : Option ℕ). AgreeFor n (scene_next t os further v p) (step_by t w p m))
    (ap (next_operation os further p) (h.1 p l))
    (step_agrees t n v w p (next_operation os further p (v.kept p)) l h)

-- ---- as a program has them

kept_at-replicate : (n j : ℕ) → kept_at (replicate n Waiting) j ≡ (0, 0)
kept_at-replicate n j = elim (cases_lt j n) [
  | inl l ↦ ap kept_of (get_or-replicate n j Waiting Waiting l)
  | inr l ↦ ap kept_of (get_or_past (replicate n Waiting) j Waiting
      (omega (arith, l, length-replicate n Waiting)))
]

pub first_is : (state n : ℕ) (s : ListedScene) → s.object.0 ≡ state
    → s.stages.items ≡ replicate n Waiting → scene_of s ≡ first_scene state
first_is state n s e f = λ i. record {
  object = e i;
  kept = λ j. (ap (λ (xs : List Stage). kept_at xs j) f ∙ kept_at-replicate n j) i;
}

-- the next operation, with the stage read at another default
pub next_read : (os : List ℕ) (further : ℕ → ℕ → Option ℕ) (xs : List Stage) (p : ℕ) (d : Stage)
    (m : Option ℕ) → p < length xs
    → m ≡ next_by further (slice_index os p) (kept_of (get_or xs p d)).0
    (kept_of (get_or xs p d)).1
    → next_operation os further p (kept_at xs p) ≡ m
next_read os further xs p d m l e =
    sym (e ∙ ap (next_operation os further p) (read_kept xs p d l))

pub after_move : (t : TypeTable) (os : List ℕ) (further : ℕ → ℕ → Option ℕ) (n : ℕ)
    (s r : ListedScene) (p o : ℕ)
    → next_operation os further p (kept_at s.stages.items p) ≡ Some o
    → r.object.0 ≡ (transition t o s.object.0).1
    → ((j : ℕ) → kept_at r.stages.items j ≡ put (kept_at s.stages.items) p
    (kept_with (kept_at s.stages.items p) (transition t o s.object.0).0) j)
    → AgreeFor n (scene_of r) (scene_next t os further (scene_of s) p)
after_move t os further n s r p o e f g =
    subst (λ (m : Option ℕ). AgreeFor n (scene_of r) (step_by t (scene_of s) p m)) (sym e)
    (f, λ j l. g j)

pub after_end : (t : TypeTable) (os : List ℕ) (further : ℕ → ℕ → Option ℕ) (n : ℕ)
    (s r : ListedScene) (p : ℕ)
    → next_operation os further p (kept_at s.stages.items p) ≡ None → r.object.0 ≡ s.object.0
    → r.stages.items ≡ s.stages.items
    → AgreeFor n (scene_of r) (scene_next t os further (scene_of s) p)
after_end t os further n s r p e f g =
    subst (λ (m : Option ℕ). AgreeFor n (scene_of r) (step_by t (scene_of s) p m)) (sym e)
    (f, λ j l. ap (λ (xs : List Stage). kept_at xs j) g)
