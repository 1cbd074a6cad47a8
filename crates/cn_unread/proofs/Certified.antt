-- Closed sets of scenes make a node, and closed sets of states make signs.
use Rattle.std.proofs.Common.{◌≡◌, ◌≢◌, ℕ, ◌+◌, ◌<◌, ◌≤◌, ◌⊎◌, inl, inr, List, [], ◌∷◌, refl}
use Rattle.std.proofs.Common.{sym, ◌∙◌, subst, arith, Bool, true}
use Rattle.std.proofs.lemmas.Bool.{cases_eq}
use Rattle.cn_table.specs.TypeTable.{TypeTable, transition}
use Rattle.cn_choice.specs.declared.team.Team.{Team}
use Rattle.cn_choice.specs.declared.team.Team.TheVariants.{A, B}
use Rattle.cn_choice.specs.Renumbering.{other}
use Rattle.cn_unread.specs.Nodes.{AreMoves, moves_of}
use Rattle.cn_unread.proofs.Functions.{put-other, put-same}
use Rattle.cn_unread.proofs.Schedules.{moves_of_other}
use Rattle.cn_unread.specs.Nodes.{team_of}
use Rattle.cn_unread.specs.Certificates.{AreScenes, AreSignSets, InSet, IsClosedSet, SignSets}
use Rattle.cn_unread.specs.Nodes.{BeganIn, HasFinished, IsNode, Move, Node, Scene, Tells, moved}
use Rattle.cn_unread.specs.Nodes.{next_scene, scene_after}
use Rattle.cn_unread.specs.Nodes.Move.{Apply, Finish}
use Rattle.cn_unread.specs.Signs.{AreSigns, Leads, Signs, StatesOf}
use Rattle.cn_unread.specs.Signs.Leads.{Here, ByMany, ByFurther}
use Rattle.cn_unread.proofs.Schedules.{began_some}
use Rattle.cn_unread.proofs.Schedules.{one_more}

-- ---- scenes

module _ (t : TypeTable) (a b : ℕ) (node : Node) (has : Team → Scene → Bool)
    (left : ℕ → ℕ × ℕ → ℕ) (bound : ℕ) (are : AreScenes t a b node has left bound) where
  holds : (s : List ℕ) → AreMoves (a + b) s → (y : Team) → BeganIn (team_of a) y s
      → has y (scene_after t node s) ≡ true
  holds [] h y e = absurd e
  holds (p ∷ []) h y e = subst (λ (z : Team).
      has z (next_scene t node (scene_after t node []) p) ≡ true) e (are.first p h.0)
  holds (p ∷ q ∷ s) h y e =
      are.next y (scene_after t node (q ∷ s)) p h.0 (holds (q ∷ s) h.1 y e)

  abbrev Paced : ℕ → ℕ × ℕ → ℕ → Type 0
  Paced j x k = (left j x + k ≤ bound) ⊎ ((side : Team) × (node.move j x ≡ Finish side))

  own_pace : (v : Scene) (p k : ℕ) → p < a + b → Paced p (v.kept p) k
      → Paced p ((next_scene t node v p).kept p) (1 + k)
  own_pace v p k lp h = by_move (node.move p (v.kept p)) refl h
    where
      by_move : (c : Move) → node.move p (v.kept p) ≡ c → Paced p (v.kept p) k
          → Paced p ((moved t v p c).kept p) (1 + k)
      by_move (Finish side) e h = inr (side, e)
      by_move (Apply o f) e (inr h) = absurd (clash (sym e ∙ h.1))
        where
          clash : {side : Team} → Apply o f ≡ Finish side → ⊥
          clash z = cc z
      by_move (Apply o f) e (inl h) =
          let r = (transition t o v.object).0 in
          subst (λ (x : ℕ × ℕ). Paced p x (1 + k)) (sym (put-same v.kept p (f r)))
          (inl (omega (arith, h, are.falls p (v.kept p) o f r lp e)))

  moved_other : (v : Scene) (p j : ℕ) → j ≢ p → (c : Move)
      → (moved t v p c).kept j ≡ v.kept j
  moved_other v p j n (Apply o k) = put-other v.kept p _ j n
  moved_other v p j n (Finish side) = refl

  paced : (s : List ℕ) → AreMoves (a + b) s → (j : ℕ) → j < a + b
      → Paced j ((scene_after t node s).kept j) (moves_of s j)
  paced [] h j lj = inl (omega (arith, are.enough j lj))
  paced (p ∷ s) h j lj = elim (cases_eq j p) [
    | inl e ↦ subst (λ (z : ℕ). Paced z ((scene_after t node (p ∷ s)).kept z)
        (moves_of (p ∷ s) z)) (sym e)
        (subst (Paced p ((scene_after t node (p ∷ s)).kept p)) (sym (one_more p s))
        (own_pace (scene_after t node s) p (moves_of s p) h.0 (paced s h.1 p h.0)))
    | inr n ↦ subst (Paced j ((scene_after t node (p ∷ s)).kept j))
        (sym (moves_of_other p s j (λ f. n (sym f))))
        (subst (λ (x : ℕ × ℕ). Paced j x (moves_of s j))
        (sym (moved_other (scene_after t node s) p j n
        (node.move p ((scene_after t node s).kept p)))) (paced s h.1 j lj))
  ]

  pub scenes_node : IsNode t a b node
  scenes_node = record {
    state_known = are.state_known;
    operations_known = are.operations_known;
    bound = bound + 1;
    ends = λ s h j lj often. by_pace s j often (paced s h j lj);
    tells_first = tells;
  }
    where
      by_pace : (s : List ℕ) (j : ℕ) → bound + 1 ≤ moves_of s j
          → Paced j ((scene_after t node s).kept j) (moves_of s j) → HasFinished t node s j
      by_pace s j often (inl l) = absurd (omega (arith, often, l))
      by_pace s j often (inr f) = f

      tells : (s : List ℕ) → AreMoves (a + b) s → (j : ℕ) → j < a + b → (side : Team)
          → Tells t node s j side → BeganIn (team_of a) side s
      tells [] h j lj side e = absurd (are.starts j side lj e)
      tells (q ∷ s) h j lj side e =
          let y = began_some (team_of a) q s in
          subst (λ (z : Team). BeganIn (team_of a) z (q ∷ s))
          (are.right y.0 (scene_after t node (q ∷ s)) j side lj (holds (q ∷ s) h y.0 y.1) e) y.1

-- ---- signs

module _ (t : TypeTable) (w : Signs) where
  led : (f : ℕ → Bool) → IsClosedSet t w f → (first s : ℕ) → f first ≡ true → Leads t w first s
      → f s ≡ true
  led f closed first s e Here = e
  led f closed first s e (ByMany u l) = (closed u (led f closed first u e l)).0
  led f closed first s e (ByFurther u i li l) = (closed u (led f closed first u e l)).1 i li

  module _ (e : SignSets) (are : AreSignSets t w e) where
    in_set : (y : Team) (s : ℕ) → StatesOf t w y s → InSet e y s
    in_set A s l = led e.single_first are.single_closed _ s are.begins_single l
    in_set B s (inl l) = inl (led e.many_first are.many_closed _ s are.begins_many l)
    in_set B s (inr l) = inr (led e.single_later are.later_closed _ s
        (are.goes_on l.0 (led e.many_first are.many_closed _ l.0 are.begins_many l.1)) l.2)

    pub sets_signs : AreSigns t w
    sets_signs = record {
      state_known = are.state_known;
      single_known = are.single_known;
      many_known = are.many_known;
      further_known = are.further_known;
      some = are.some;
      of_team = λ s i l li. are.of_team s i (in_set (other w.side) s l) li;
      falls = λ s i l li n c. are.falls s i (in_set w.side s l) li n c;
      low = λ s l. are.low s (in_set w.side s l);
      seen = λ s l. are.seen s (in_set w.side s l);
    }
