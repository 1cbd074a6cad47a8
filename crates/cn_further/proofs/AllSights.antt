-- What processes have in lists of scenes when they have finished is all that they can have.
use Rattle.std.proofs.Common.{◌≡◌, ◌≢◌, ℕ, suc, ◌<◌, List, [], ◌∷◌, ◌++◌, length, refl}
use Rattle.std.proofs.Common.{sym, ap, ◌∙◌, subst, arith, All, Contains}
use Rattle.std.specs.Prelude.{AllPairs, Option, Some, None, option_map, slice_index}
use Rattle.std.proofs.lemmas.List.Elements.{All-contains}
use Rattle.std.proofs.lemmas.Option.{same_Some}
use Rattle.cn_table.specs.TypeTable.{TypeTable}
use Rattle.cn_choice.specs.Canonical.{Choice}
use Rattle.cn_choice.specs.declared.team.Team.{Team}
use Rattle.cn_choice.specs.declared.team.Team.TheVariants.{A, B}
use Rattle.cn_unread.specs.Nodes.{AreMoves, BeganIn, Scene, team_of}
use Rattle.cn_further.specs.FurtherNodes.{further_of, next_by, next_operation}
use Rattle.cn_further.specs.FurtherSights.{AreFurtherSights, AreScenesOf, HasEndsOf, IsEndOf}
use Rattle.cn_further.specs.FurtherSights.{IsFurtherFor, IsReached, IsSight, answer_kept, sight_kept}
use Rattle.cn_further.specs.Meetings.{scene_along}
use Rattle.cn_further.specs.SceneLists.{IsListed, LeadsOn, kept_at, scene_next, scene_of}
use Rattle.cn_further.specs.declared.follow_up.FollowUp.{FollowUp}
use Rattle.cn_further.specs.declared.scene.Scene.{Scene as ListedScene}
use Rattle.cn_further.specs.declared.sight.FurtherAnswer.{FurtherAnswer}
use Rattle.cn_further.specs.declared.sight.FurtherSight.{FurtherSight}
use Rattle.cn_further.proofs.Kept.{pair_parts}
use Rattle.cn_further.proofs.Steps.{listed_same, next_agrees}

-- ---- sights

answers_same : (f g : Option FurtherAnswer) → answer_kept f ≡ answer_kept g
    → option_map (λ a. a.operation.0) f ≡ option_map (λ a. a.operation.0) g → f ≡ g
answers_same None None e o = refl
answers_same None (Some b) e o = absurd (clash e)
  where
    clash : 0 ≡ suc b.response.0 → ⊥
    clash z = omega (arith, z)
answers_same (Some a) None e o = absurd (clash e)
  where
    clash : suc a.response.0 ≡ 0 → ⊥
    clash z = omega (arith, z)
answers_same (Some a) (Some b) e o = λ i. Some (record {
  operation = record { 0 = same_Some a.operation.0 b.operation.0 o i };
  response = record { 0 = less e i };
})
  where
    less : suc a.response.0 ≡ suc b.response.0 → a.response.0 ≡ b.response.0
    less z = omega (arith, z)

sights_same : (further : ℕ → ℕ → Option ℕ) (os : List ℕ) (r s : FurtherSight)
    → r.process ≡ s.process → r.first ≡ s.first → sight_kept r ≡ sight_kept s
    → IsFurtherFor further (slice_index os r.process) r
    → IsFurtherFor further (slice_index os s.process) s → r ≡ s
sights_same further os r s p f k x y =
    let parts = pair_parts (sight_kept r) (sight_kept s) k in
    let answer : r.response.0 ≡ s.response.0 = omega (arith, parts.0) in
    let same : r.further ≡ s.further = answers_same r.further s.further parts.1
    (x ∙ ((λ i. further (slice_index os (p i)) (answer i)) ∙ sym y)) in λ i. record {
      process = p i;
      first = f i;
      response = record { 0 = answer i };
      further = same i;
    }

has_finished : (further : ℕ → ℕ → Option ℕ) (own r : ℕ) (f : Option FurtherAnswer)
    → option_map (λ a. a.operation.0) f ≡ further own r
    → next_by further own (suc r) (answer_kept f) ≡ None
has_finished further own r None e = sym e
has_finished further own r (Some a) e = refl

-- ---- lists of scenes

module _ (t : TypeTable) (state size : ℕ) (os : List ℕ) (further : ℕ → ℕ → Option ℕ)
    (team : Team) where
  -- what a process keeps that has finished in a scene that is reached is a sight
  pub reached_sight : (s : ListedScene) → IsReached t state size os further team 0 s → (j : ℕ)
      → j < length os → (r : FurtherSight) → IsEndOf team j (kept_at s.stages.items j) r
      → IsFurtherFor further (slice_index os j) r → IsSight t state size os further r
  reached_sight s is j l r end answer = record {
    process = subst (λ (i : ℕ). i < length os) (sym end.0) l;
    answer = subst (λ (i : ℕ). IsFurtherFor further (slice_index os i) r) (sym end.0) answer;
    moves = is.moves;
    known = is.known;
    begun = subst (λ (y : Team). BeganIn (team_of size) y is.moves) (sym end.1) is.begun;
    kept = ap (scene_along t state os further is.moves).kept end.0
        ∙ (sym (is.after.1 j l) ∙ sym end.2);
  }

  module _ (scenes : List ListedScene) (are : AreScenesOf t state size os further team scenes) where
    abbrev along : List ℕ → Scene
    along m = scene_along t state os further m

    later : (w : Scene) (j : ℕ) → j < length os → IsListed scenes (length os) w
        → IsListed scenes (length os) (scene_next t os further w j)
    later w j l h =
        let s : ListedScene = h.1 in
        let on : LeadsOn t os further scenes s =
        subst (LeadsOn t os further scenes) h.3 (are.closed h.0 s h.2) in
        listed_same scenes (length os) (length os) (scene_next t os further (scene_of s) j)
        (scene_next t os further w j) refl
        (next_agrees t os further (length os) w (scene_of s) j l h.4) (on.next j l)

    along_listed : (m : List ℕ) → AreMoves (length os) m → BeganIn (team_of size) team m
        → IsListed scenes (length os) (along m)
    along_listed [] known begun = absurd begun
    along_listed (j ∷ []) known begun = are.firsts.first j known.0 begun
    along_listed (j ∷ i ∷ m) known begun =
        later (along (i ∷ m)) j known.0 (along_listed (i ∷ m) known.1 begun)

    -- so a list with what all that have finished keep has all sights
    pub all_told : (list : List FurtherSight) → All (HasEndsOf os further team list) scenes
        → All (IsSight t state size os further) list → (s : FurtherSight) → s.first ≡ team
        → IsSight t state size os further s → Contains list s
    all_told list ends sound s side is =
        let j : ℕ = s.process in
        let x : ℕ × ℕ = (along is.moves).kept j in
        let done : next_operation os further j x ≡ None =
        ap (next_operation os further j) is.kept
        ∙ has_finished further (slice_index os j) s.response.0 s.further is.answer in
        let h = along_listed is.moves is.known
        (subst (λ (y : Team). BeganIn (team_of size) y is.moves) side is.begun) in
        let q : ListedScene = h.1 in
        let kept : x ≡ kept_at q.stages.items j = h.4.1 j is.process in
        let has : HasEndsOf os further team list q =
        subst (HasEndsOf os further team list) h.3 (ends h.0 q h.2) in
        let found = has.has j is.process (sym (ap (next_operation os further j) kept) ∙ done) in
        let r : FurtherSight = found.0 in
        let r_is : IsSight t state size os further r =
        All-contains (IsSight t state size os further) list r sound found.1 in
        subst (Contains list) (sights_same further os r s found.2.0 (found.2.1 ∙ sym side)
        (found.2.2 ∙ (sym kept ∙ is.kept)) r_is.answer is.answer) found.1

-- ends that are listed stay so in a longer list
pub ends_more : (os : List ℕ) (further : ℕ → ℕ → Option ℕ) (team : Team)
    (old new : List FurtherSight) → ((s : FurtherSight) → Contains old s → Contains new s)
    → (s : ListedScene) → HasEndsOf os further team old s → HasEndsOf os further team new s
ends_more os further team old new more s h = record {
  has = λ j l e. let x = h.has j l e in (x.0, more x.0 x.1, x.2);
}

-- lists with the ends of both teams have all sights
pub all_sights : (t : TypeTable) (c : Choice) (fs : List FollowUp) (state size : ℕ) (os : List ℕ)
    (after_a after_b : List ListedScene) (list : List FurtherSight)
    → state ≡ c.state → size ≡ length c.a → os ≡ c.a ++ c.b
    → AreScenesOf t state size os (further_of fs) A after_a
    → AreScenesOf t state size os (further_of fs) B after_b
    → All (HasEndsOf os (further_of fs) A list) after_a
    → All (HasEndsOf os (further_of fs) B list) after_b
    → All (IsSight t state size os (further_of fs)) list → AllPairs (λ x y. x ≢ y) list
    → AreFurtherSights t c fs list
all_sights t c fs state size os after_a after_b list e f g a b ends_a ends_b sound once = record {
  same = λ s. (
    λ h. there s (All-contains (IsSight t state size os (further_of fs)) list s sound h),
    λ is. all s s.first refl (back s is),
  );
  once = once;
}
  where
    there : (s : FurtherSight) → IsSight t state size os (further_of fs) s
        → IsSight t c.state (length c.a) (c.a ++ c.b) (further_of fs) s
    there s h = subst (λ (q : ℕ). IsSight t q (length c.a) (c.a ++ c.b) (further_of fs) s) e
        (subst (λ (m : ℕ). IsSight t state m (c.a ++ c.b) (further_of fs) s) f
        (subst (λ (xs : List ℕ). IsSight t state size xs (further_of fs) s) g h))

    back : (s : FurtherSight) → IsSight t c.state (length c.a) (c.a ++ c.b) (further_of fs) s
        → IsSight t state size os (further_of fs) s
    back s h = subst (λ (xs : List ℕ). IsSight t state size xs (further_of fs) s) (sym g)
        (subst (λ (m : ℕ). IsSight t state m (c.a ++ c.b) (further_of fs) s) (sym f)
        (subst (λ (q : ℕ). IsSight t q (length c.a) (c.a ++ c.b) (further_of fs) s) (sym e) h))

    all : (s : FurtherSight) (y : Team) → s.first ≡ y → IsSight t state size os (further_of fs) s
        → Contains list s
    all s A side is = all_told t state size os (further_of fs) A after_a a list ends_a sound s side is
    all s B side is = all_told t state size os (further_of fs) B after_b b list ends_b sound s side is
