-- What a role that has finished keeps, in place of a judgement: which team began is found by a search
-- over the schedules.
use Rattle.std.proofs.Common.{◌≡◌, ◌≢◌, ℕ, zero, suc, ◌+◌, ◌*◌, ◌<◌, ◌≤◌, ◌⊎◌, inl, inr, List, []}
use Rattle.std.proofs.Common.{◌∷◌, length, refl, sym, ap, ◌∙◌, subst, arith}
use Rattle.std.proofs.lemmas.Bool.{cases_eq, cases_lt}
use Rattle.cn_table.specs.TypeTable.{TypeTable}
use Rattle.cn_choice.specs.declared.team.Team.{Team}
use Rattle.cn_choice.specs.declared.team.Team.TheVariants.{A, B}
use Rattle.cn_consensus.specs.Consensus.{IsSchedule, occurrences}
use Rattle.cn_consensus.proofs.Counting.{first_or_all, frequent, occurrences_other}
use Rattle.cn_proto.specs.Tournament.{team_of}
use Rattle.cn_unread.specs.Nodes.{BeganIn, HasFinished, IsMoveOf, IsNode, IsTellingNode, Move, Node}
use Rattle.cn_unread.specs.Nodes.{Scene, Tells, moved, scene_after}
use Rattle.cn_unread.specs.Nodes.Move.{Apply, Finish}
use Rattle.cn_unread.proofs.Schedules.{began_some}
use Rattle.cn_unread_laws.proofs.Joining.{began_later, one_more}

-- ---- a search over the schedules of at most so many moves

abbrev Found : ℕ → (List ℕ → Type 0) → Type 0
Found n D = (s : List ℕ) × IsSchedule n s × D s

abbrev NoneWithin : ℕ → ℕ → (List ℕ → Type 0) → Type 0
NoneWithin n most D = (s : List ℕ) → IsSchedule n s → length s ≤ most → ¬ D s

search : (n most : ℕ) (D : List ℕ → Type 0) → ((s : List ℕ) → D s ⊎ ¬ D s)
    → Found n D ⊎ NoneWithin n most D
search n zero D decide = elim (decide []) [
  | inl d ↦ inl ([], tt, d)
  | inr m ↦ inr (none m)
]
  where
    none : ¬ D [] → NoneWithin n 0 D
    none m [] h l = m
    none m (p ∷ s) h l = absurd (omega (arith, l))
search n (suc most) D decide = by_empty (decide [])
    (first_or_all n (λ p. NoneWithin n most (λ s. D (p ∷ s))) (Found n D)
    (λ p l. by_rest p l (search n most (λ s. D (p ∷ s)) (λ s. decide (p ∷ s)))))
  where
    by_rest : (p : ℕ) → p < n → Found n (λ s. D (p ∷ s)) ⊎ NoneWithin n most (λ s. D (p ∷ s))
        → NoneWithin n most (λ s. D (p ∷ s)) ⊎ Found n D
    by_rest p l (inl f) = inr (p ∷ f.0, (l, f.1), f.2)
    by_rest p l (inr m) = inl m

    by_empty : D [] ⊎ ¬ D [] → ((p : ℕ) → p < n → NoneWithin n most (λ s. D (p ∷ s))) ⊎ Found n D
        → Found n D ⊎ NoneWithin n (suc most) D
    by_empty (inl d) f = inl ([], tt, d)
    by_empty (inr m) (inr f) = inl f
    by_empty (inr m) (inl each) = inr none
      where
        none : NoneWithin n (suc most) D
        none [] h l = m
        none (p ∷ s) h l = each p h.0 s h.1 (omega (arith, l))

-- ---- what can be decided

same_team : (y z : Team) → (y ≡ z) ⊎ (y ≢ z)
same_team A A = inl refl
same_team A B = inr (λ e. cc e)
same_team B A = inr (λ e. cc e)
same_team B B = inl refl

abbrev pair : ℕ → ℕ → ℕ × ℕ
pair i j = (i, j)

same_pair : (x y : ℕ × ℕ) → (x ≡ y) ⊎ (x ≢ y)
same_pair x y = by_parts (cases_eq x.0 y.0) (cases_eq x.1 y.1)
  where
    by_parts : (x.0 ≡ y.0) ⊎ (x.0 ≢ y.0) → (x.1 ≡ y.1) ⊎ (x.1 ≢ y.1) → (x ≡ y) ⊎ (x ≢ y)
    by_parts (inl e) (inl f) =
        inl (ap (λ (z : ℕ). pair z x.1) e ∙ ap (λ (z : ℕ). pair y.0 z) f)
    by_parts (inl e) (inr n) = inr (λ f. n (ap (λ (z : ℕ × ℕ). z.1) f))
    by_parts (inr n) f = inr (λ e. n (ap (λ (z : ℕ × ℕ). z.0) e))

began_or_not : (team : ℕ → Team) (y : Team) (s : List ℕ) → BeganIn team y s ⊎ ¬ BeganIn team y s
began_or_not team y [] = inr (λ e. e)
began_or_not team y (j ∷ []) = same_team (team j) y
began_or_not team y (j ∷ k ∷ s) = began_or_not team y (k ∷ s)

module _ (t : TypeTable) (a b : ℕ) (node : Node) (is : IsTellingNode t a b node) (aa : 1 ≤ a) where
  abbrev roles : ℕ
  roles = a + b

  abbrev team : ℕ → Team
  team = team_of a

  finish_or_not : (c : Move) → ((side : Team) × (c ≡ Finish side))
      ⊎ (((side : Team) × (c ≡ Finish side)) → ⊥)
  finish_or_not (Finish side) = inl (side, refl)
  finish_or_not (Apply o k) = inr (λ f. clash f.1)
    where
      clash : {side : Team} → Apply o k ≡ Finish side → ⊥
      clash e = cc e

  -- ---- a short schedule to the same scene

  record Short (s : List ℕ) : Type 0 where
    pub moves : List ℕ
    pub known : IsSchedule roles moves
    pub began : (y : Team) → BeganIn team y s → BeganIn team y moves
    pub scene : scene_after t node moves ≡ scene_after t node s
    pub few : (j : ℕ) → j < roles → occurrences moves j ≤ is.bound

  few_more : (s : List ℕ) → IsSchedule roles s → (p : ℕ) → p < roles
      → (HasFinished t node s p → ⊥) → ((j : ℕ) → j < roles → occurrences s j ≤ is.bound)
      → (j : ℕ) → j < roles → occurrences (p ∷ s) j ≤ is.bound
  few_more s h p lp going few j lj = elim (cases_eq j p) [
    | inr n ↦ omega (arith, few j lj, occurrences_other p s j (λ f. n (sym f)))
    | inl e ↦ (let less : occurrences s p < is.bound = elim (cases_lt (occurrences s p) is.bound) [
      | inl l ↦ l
      | inr often ↦ absurd (going (is.ends s h p lp often))
    ] in
        subst (λ (z : ℕ). occurrences (p ∷ s) z ≤ is.bound) (sym e) (omega (arith, less, one_more p s)))
  ]

  shorter : (s : List ℕ) → IsSchedule roles s → Short s
  shorter [] h = record {
    moves = [];
    known = tt;
    began = λ y e. e;
    scene = refl;
    few = λ j l. omega arith;
  }
  shorter (p ∷ []) h = record {
    moves = p ∷ [];
    known = h;
    began = λ y e. e;
    scene = refl;
    few = few_more [] tt p h.0 (is.starts p h.0) (λ j l. omega arith);
  }
  shorter (p ∷ q ∷ s) h = by_move (shorter (q ∷ s) h.1)
    where
      by_move : Short (q ∷ s) → Short (p ∷ q ∷ s)
      by_move r = elim (finish_or_not (node.move p ((scene_after t node (q ∷ s)).kept p))) [
        | inl f ↦ record {
          moves = r.moves;
          known = r.known;
          began = r.began;
          scene = r.scene ∙ sym (ap (moved t (scene_after t node (q ∷ s)) p) f.1);
          few = r.few;
        }
        | inr n ↦ record {
          moves = p ∷ r.moves;
          known = (h.0, r.known);
          began = λ y e. began_later team y p r.moves (r.began y e);
          scene = ap (λ (v : Scene). moved t v p (node.move p (v.kept p))) r.scene;
          few = few_more r.moves r.known p h.0 (λ f. n (
            f.0,
            ap (λ (v : Scene). node.move p (v.kept p)) (sym r.scene) ∙ f.1,
          )) r.few;
        }
      ]

  abbrev most : ℕ
  most = roles * (is.bound + 1)

  short_enough : (s : List ℕ) → IsSchedule roles s
      → ((j : ℕ) → j < roles → occurrences s j ≤ is.bound) → length s ≤ most
  short_enough s h few = elim (cases_lt (length s) most) [
    | inl l ↦ omega (arith, l)
    | inr long ↦ absurd (let f = frequent roles (is.bound + 1) s h (omega (arith, aa)) long in
        omega (arith, few f.0 f.1, f.2))
  ]

  -- ---- the judgement

  -- after a schedule that team A began the role keeps x
  abbrev Shown : ℕ → ℕ × ℕ → List ℕ → Type 0
  Shown j x s = BeganIn team A s × ((scene_after t node s).kept j ≡ x)

  shown_or_not : (j : ℕ) (x : ℕ × ℕ) (s : List ℕ) → Shown j x s ⊎ ¬ Shown j x s
  shown_or_not j x s = elim (began_or_not team A s) [
    | inr n ↦ inr (λ h. n h.0)
    | inl e ↦ elim (same_pair ((scene_after t node s).kept j) x) [
      | inl f ↦ inl (e, f)
      | inr n ↦ inr (λ h. n h.1)
    ]
  ]

  judge_by : {X Y : Type 0} → X ⊎ Y → Team
  judge_by (inl x) = A
  judge_by (inr y) = B

  pub judge : ℕ → ℕ × ℕ → Team
  judge j x = judge_by (search roles most (Shown j x) (shown_or_not j x))

  judges : (y : Team) (s : List ℕ) → IsSchedule roles s → BeganIn team y s → (j : ℕ) → j < roles
      → HasFinished t node s j → judge j ((scene_after t node s).kept j) ≡ y
  unfolding judge judge_by
  judges y s h e j lj f = by_search y e
      (search roles most (Shown j ((scene_after t node s).kept j))
      (shown_or_not j ((scene_after t node s).kept j)))
    where
      by_search : (y : Team) → BeganIn team y s
          → (found : Found roles (Shown j ((scene_after t node s).kept j))
          ⊎ NoneWithin roles most (Shown j ((scene_after t node s).kept j)))
          → judge_by found ≡ y
      by_search A e (inl r) = refl
      by_search A e (inr none) =
          let r = shorter s h in
          absurd (none r.moves r.known (short_enough r.moves r.known r.few)
          (r.began A e, ap (λ (v : Scene). v.kept j) r.scene))
      by_search B e (inl r) =
          let u = r.0 in
          absurd (is.apart u s r.1 h r.2.0 e j lj
          (f.0, ap (node.move j) r.2.1 ∙ f.1) f r.2.1)
      by_search B e (inr none) = refl

  -- ---- the node with this judgement

  abbrev pub with_team : Team → Move → Move
  with_team y (Apply o k) = Apply o k
  with_team y (Finish side) = Finish y

  abbrev pub judged : Node
  judged = record {
    state = node.state;
    start = node.start;
    move = λ j x. with_team (judge j x) (node.move j x);
  }

  same_scene : (s : List ℕ) → scene_after t judged s ≡ scene_after t node s
  same_scene [] = refl
  same_scene (p ∷ s) = ap (λ (v : Scene). moved t v p (judged.move p (v.kept p))) (same_scene s)
      ∙ by_move (judge p ((scene_after t node s).kept p))
      (node.move p ((scene_after t node s).kept p))
    where
      by_move : (y : Team) (c : Move) → moved t (scene_after t node s) p (with_team y c)
          ≡ moved t (scene_after t node s) p c
      by_move y (Apply o k) = refl
      by_move y (Finish side) = refl

  finishes : (y side : Team) (c : Move) → with_team y c ≡ Finish side
      → ((z : Team) × (c ≡ Finish z)) × (y ≡ side)
  finishes y side (Apply o k) e = absurd (clash e)
    where
      clash : Apply o k ≡ Finish side → ⊥
      clash e = cc e
  finishes y side (Finish z) e = ((z, refl), same e)
    where
      same : Finish y ≡ Finish side → y ≡ side
      same e = cc e

  pub judged_node : IsNode t a b judged
  judged_node = record {
    state_known = is.state_known;
    operations_known = λ j x lj. by_move (judge j x) (node.move j x) (is.operations_known j x lj);
    bound = is.bound;
    ends = λ s h j lj often. (let f = is.ends s h j lj often in (
      judge j ((scene_after t node s).kept j),
      ap (λ (v : Scene). judged.move j (v.kept j)) (same_scene s)
          ∙ ap (with_team (judge j ((scene_after t node s).kept j))) f.1,
    ));
    tells_first = tells;
  }
    where
      by_move : (y : Team) (c : Move) → IsMoveOf t c → IsMoveOf t (with_team y c)
      by_move y (Apply o k) l = l
      by_move y (Finish side) l = tt

      tells : (s : List ℕ) → IsSchedule roles s → (j : ℕ) → j < roles → (side : Team)
          → Tells t judged s j side → BeganIn team side s
      tells s h j lj side e =
          let f = finishes (judge j ((scene_after t node s).kept j)) side
          (node.move j ((scene_after t node s).kept j))
          (ap (λ (v : Scene). judged.move j (v.kept j)) (sym (same_scene s)) ∙ e) in
          by_schedule s h f.0 f.1
        where
          by_schedule : (s : List ℕ) → IsSchedule roles s → HasFinished t node s j
              → judge j ((scene_after t node s).kept j) ≡ side → BeganIn team side s
          by_schedule [] h f g = absurd (is.starts j lj f)
          by_schedule (q ∷ s) h f g =
              let y = began_some team q s in
              subst (λ (z : Team). BeganIn team z (q ∷ s))
              (sym (judges y.0 (q ∷ s) h y.1 j lj f) ∙ g) y.1
