-- Signs make a node, for one process against any number of others.
use Rattle.std.proofs.Common.{◌≡◌, ◌≢◌, ℕ, zero, suc, ◌+◌, ◌-◌, ◌<◌, ◌≤◌, ◌⊎◌, inl, inr, List, []}
use Rattle.std.proofs.Common.{◌∷◌, length, refl, sym, ap, ◌∙◌, subst, arith, true, false, cond}
use Rattle.std.proofs.Common.{nat_lt, slice_index}
use Rattle.std.proofs.lemmas.List.{get_or_past}
use Rattle.std.proofs.lemmas.Bool.{cases_Bool, cases_eq, cases_lt, le-ltb, lt-ltb}
use Rattle.cn_table.specs.TypeTable.{TypeTable, transition}
use Rattle.cn_choice.specs.Renumbering.{other}
use Rattle.cn_choice.specs.declared.team.Team.{Team}
use Rattle.cn_choice.specs.declared.team.Team.TheVariants.{A, B}
use Rattle.cn_consensus.specs.Configuration.{put}
use Rattle.cn_consensus.specs.Consensus.{IsSchedule, occurrences}
use Rattle.cn_consensus.proofs.Alike.{put-other, put-same}
use Rattle.cn_consensus.proofs.Counting.{occurrences_other, total}
use Rattle.cn_proto.specs.Tournament.{team_of}
use Rattle.cn_unread.specs.Nodes.{BeganIn, IsMoveOf, IsNode, Move, Node, Scene, Tells, moved}
use Rattle.cn_unread.specs.Nodes.{next_scene, scene_after}
use Rattle.cn_unread.specs.Nodes.Move.{Apply, Finish}
use Rattle.cn_unread.specs.Signs.{AreSigns, Leads, Signs, StatesOf, answer_of, left_by, shows}
use Rattle.cn_unread.specs.Signs.Leads.{Here, ByMany, ByFurther}
use Rattle.cn_unread_laws.proofs.Joining.{one_more}
use Rattle.cn_unread_laws.proofs.Towers.{team_high, team_low}

-- ---- sums

pub total_up : (f g : ℕ → ℕ) (n : ℕ) → ((q : ℕ) → f q ≤ g q) → total f n ≤ total g n
total_up f g zero up = omega arith
total_up f g (suc n) up = omega (arith, total_up f g n up, up n)

pub total_drop : (f g : ℕ → ℕ) (k p n : ℕ) → p < n → ((q : ℕ) → f q ≤ g q) → f p + k ≤ g p
    → total f n + k ≤ total g n
total_drop f g k p zero l up drop = absurd (omega (arith, l))
total_drop f g k p (suc n) l up drop = elim (cases_eq p n) [
  | inl s ↦ (let d : f n + k ≤ g n = subst (λ (z : ℕ). f z + k ≤ g z) s drop in
      omega (arith, total_up f g n up, d))
  | inr c ↦ omega (arith, total_drop f g k p n (omega (arith, l, c)) up drop, up n)
]

-- ---- the node

module _ (t : TypeTable) (w : Signs) (is : AreSigns t w) (b : ℕ) where
  abbrev m : ℕ
  m = length w.further

  abbrev roles : ℕ
  roles = 1 + b

  abbrev unit : ℕ
  unit = w.height + 1

  -- what a process can still change, by the first number that it keeps: 0 before its operation, 1
  -- after a sign, and c + 2 with c rounds left
  abbrev weight : ℕ → ℕ
  weight zero = unit + unit
  weight (suc zero) = 0
  weight (suc (suc c)) = unit

  abbrev most : ℕ
  most = total (λ j. unit + unit) roles + w.height

  abbrev rounds : ℕ
  rounds = most + 1

  abbrev operation_of : ℕ → ℕ
  operation_of zero = w.single
  operation_of (suc j) = w.many

  pub onward : ℕ → ℕ → ℕ × ℕ
  onward c i = cond (nat_lt (suc i) m) (suc (suc (suc c)), suc i) (suc (suc c), 0)

  pub look : ℕ → ℕ → ℕ → ℕ × ℕ
  look c i r = cond (w.sign (slice_index w.further i) r) (1, 0) (onward c i)

  abbrev move_by : ℕ → ℕ → ℕ → Move
  move_by j zero i = Apply (operation_of j) (λ r. (suc (suc rounds), 0))
  move_by j (suc zero) i = Finish w.side
  move_by j (suc (suc zero)) i = Finish (other w.side)
  move_by j (suc (suc (suc c))) i = Apply (slice_index w.further i) (λ r. look c i r)

  abbrev pub sign_node : Node
  sign_node = record { state = w.state; start = λ j. (0, 0); move = λ j x. move_by j x.0 x.1 }

  onward_at : (c i : ℕ) → ((suc i < m) × (onward c i ≡ (suc (suc (suc c)), suc i)))
      ⊎ ((m ≤ suc i) × (onward c i ≡ (suc (suc c), 0)))
  unfolding onward
  onward_at c i = elim (cases_lt (suc i) m) [
    | inl l ↦ inl (l, rw (lt-ltb (suc i) m l) refl)
    | inr k ↦ inr (k, rw (le-ltb (suc i) m k) refl)
  ]

  look_sign : (c i r : ℕ) → w.sign (slice_index w.further i) r ≡ true → look c i r ≡ (1, 0)
  unfolding look
  look_sign c i r e = rw e refl

  look_none : (c i r : ℕ) → w.sign (slice_index w.further i) r ≡ false → look c i r ≡ onward c i
  unfolding look
  look_none c i r e = rw e refl

  -- ---- where the object is

  abbrev Where : Team → Scene → Type 0
  Where A v = ((v.kept 0).0 ≢ 0) × Leads t w (transition t w.single w.state).1 v.object
  Where B v = (((v.kept 0).0 ≡ 0) × Leads t w (transition t w.many w.state).1 v.object)
      ⊎ (((v.kept 0).0 ≢ 0) × (u : ℕ) × Leads t w (transition t w.many w.state).1 u
      × Leads t w (transition t w.single u).1 v.object)

  states_at : (y : Team) (v : Scene) → Where y v → StatesOf t w y v.object
  states_at A v h = h.1
  states_at B v (inl h) = inl h.1
  states_at B v (inr h) = inr (h.1, h.2, h.3)

  extended : (y : Team) (v z : Scene) → ((s : ℕ) → Leads t w s v.object → Leads t w s z.object)
      → ((v.kept 0).0 ≡ 0 → (z.kept 0).0 ≡ 0) → ((v.kept 0).0 ≢ 0 → (z.kept 0).0 ≢ 0)
      → Where y v → Where y z
  extended A v z more same apart h = (apart h.0, more _ h.1)
  extended B v z more same apart (inl h) = inl (same h.0, more _ h.1)
  extended B v z more same apart (inr h) = inr (apart h.0, h.1, h.2, more _ h.3)

  -- ---- what stays true

  abbrev sum_of : Scene → ℕ
  sum_of v = total (λ j. weight (v.kept j).0) roles

  abbrev left : Scene → ℕ
  left v = sum_of v + w.rank v.object

  abbrev Quiet : ℕ → ℕ → Type 0
  Quiet s i = (left_by t w i s ≡ s) × (shows t w i s ≡ false)

  abbrev Counting : ℕ → ℕ → Scene → Type 0
  Counting c i v = (rounds + left v ≤ most + c)
      × (((k : ℕ) → k < i → Quiet v.object k) ⊎ (rounds + 1 + left v ≤ most + c))

  record Fine (y : Team) (v : Scene) : Type 0 where
    pub position : (j : ℕ) → (v.kept j).1 < m
    pub signed : (j : ℕ) → (v.kept j).0 ≡ 1 → y ≡ w.side
    pub counting : y ≡ w.side → (j : ℕ) → j < roles → (c : ℕ) → (v.kept j).0 ≡ suc (suc c)
        → Counting c (v.kept j).1 v

  sum_most : (v : Scene) → sum_of v ≤ total (λ j. unit + unit) roles
  sum_most v = total_up _ _ roles (λ q. by_weight (v.kept q).0)
    where
      by_weight : (c : ℕ) → weight c ≤ unit + unit
      by_weight zero = omega arith
      by_weight (suc zero) = omega arith
      by_weight (suc (suc c)) = omega arith

  -- the scene after role p keeps x, and the object is in u
  abbrev changed : Scene → ℕ → ℕ × ℕ → ℕ → Scene
  changed v p x u = record { object = u; kept = put v.kept p x }

  module _ (v : Scene) (p : ℕ) (x : ℕ × ℕ) (u : ℕ) where
    weights : weight x.0 ≤ weight (v.kept p).0 → (q : ℕ)
        → weight (put v.kept p x q).0 ≤ weight (v.kept q).0
    weights l q = elim (cases_eq q p) [
      | inl s ↦ subst (λ (z : ℕ). weight (put v.kept p x z).0 ≤ weight (v.kept z).0) (sym s)
          (subst (λ (z : ℕ × ℕ). weight z.0 ≤ weight (v.kept p).0) (sym (put-same v.kept p x)) l)
      | inr c ↦ subst (λ (z : ℕ × ℕ). weight z.0 ≤ weight (v.kept q).0)
          (sym (put-other v.kept p x q c)) (omega arith)
    ]

    sum_kept : weight x.0 ≤ weight (v.kept p).0 → sum_of (changed v p x u) ≤ sum_of v
    sum_kept l = total_up _ _ roles (weights l)

    sum_drops : p < roles → weight x.0 + unit ≤ weight (v.kept p).0
        → sum_of (changed v p x u) + unit ≤ sum_of v
    sum_drops lp l = total_drop _ _ unit p roles lp (weights (omega (arith, l)))
        (subst (λ (z : ℕ × ℕ). weight z.0 + unit ≤ weight (v.kept p).0) (sym (put-same v.kept p x)) l)

    -- the others, after a step
    module _ (y : Team) (good : Fine y v) (at : x.1 < m)
        (signed : x.0 ≡ 1 → y ≡ w.side)
        (less : y ≡ w.side → (left (changed v p x u) + 1 ≤ left v)
        ⊎ ((left (changed v p x u) ≤ left v) × (u ≡ v.object)))
        (own : y ≡ w.side → (c : ℕ) → x.0 ≡ suc (suc c) → Counting c x.1 (changed v p x u)) where
      others_count : y ≡ w.side → (c i : ℕ) → Counting c i v → Counting c i (changed v p x u)
      others_count e c i h = by_cases (less e) h.1
        where
          by_cases : (left (changed v p x u) + 1 ≤ left v)
              ⊎ ((left (changed v p x u) ≤ left v) × (u ≡ v.object))
              → ((k : ℕ) → k < i → Quiet v.object k) ⊎ (rounds + 1 + left v ≤ most + c)
              → Counting c i (changed v p x u)
          by_cases (inl l) o = (omega (arith, l, h.0), inr (omega (arith, l, h.0)))
          by_cases (inr l) (inl quiet) = (
            omega (arith, l.0, h.0),
            inl (λ k lk.
                subst (λ (z : ℕ). Quiet z k) (sym l.1) (quiet k lk)),
          )
          by_cases (inr l) (inr f) = (omega (arith, l.0, h.0), inr (omega (arith, l.0, f)))

      fine_after : Fine y (changed v p x u)
      fine_after = record {
        position = λ j. elim (cases_eq j p) [
          | inl s ↦ subst (λ (z : ℕ). (put v.kept p x z).1 < m) (sym s)
              (subst (λ (z : ℕ × ℕ). z.1 < m) (sym (put-same v.kept p x)) at)
          | inr c ↦ subst (λ (z : ℕ × ℕ). z.1 < m) (sym (put-other v.kept p x j c))
              (good.position j)
        ];
        signed = λ j. elim (cases_eq j p) [
          | inl s ↦ subst (λ (z : ℕ). (put v.kept p x z).0 ≡ 1 → y ≡ w.side) (sym s)
              (subst (λ (z : ℕ × ℕ). z.0 ≡ 1 → y ≡ w.side) (sym (put-same v.kept p x)) signed)
          | inr c ↦ subst (λ (z : ℕ × ℕ). z.0 ≡ 1 → y ≡ w.side)
              (sym (put-other v.kept p x j c)) (good.signed j)
        ];
        counting = λ e j lj. elim (cases_eq j p) [
          | inl s ↦ subst (λ (z : ℕ). (c : ℕ) → (put v.kept p x z).0 ≡ suc (suc c)
              → Counting c (put v.kept p x z).1 (changed v p x u)) (sym s)
              (subst (λ (z : ℕ × ℕ). (c : ℕ) → z.0 ≡ suc (suc c)
              → Counting c z.1 (changed v p x u)) (sym (put-same v.kept p x)) (own e))
          | inr c ↦ subst (λ (z : ℕ × ℕ). (c : ℕ) → z.0 ≡ suc (suc c)
              → Counting c z.1 (changed v p x u)) (sym (put-other v.kept p x j c))
              (λ c f. others_count e c (v.kept j).1 (good.counting e j lj c f))
        ];
      }

  -- ---- a step

  which : (y z : Team) → (y ≡ z) ⊎ (y ≡ other z)
  which A A = inl refl
  which A B = inr refl
  which B A = inr refl
  which B B = inl refl

  low_at : (y : Team) (v : Scene) → y ≡ w.side → Where y v → w.rank v.object ≤ w.height
  low_at y v e h = is.low v.object (subst (λ (z : Team). StatesOf t w z v.object) e (states_at y v h))

  module _ (y : Team) (v : Scene) (good : Fine y v) (p : ℕ) (lp : p < roles) where
    abbrev begun : ℕ × ℕ
    begun = (suc (suc rounds), 0)

    abbrev first_state : ℕ
    first_state = (transition t (operation_of p) v.object).1

    begin_fine : (v.kept p).0 ≡ 0 → Where y (changed v p begun first_state)
        → Fine y (changed v p begun first_state)
    begin_fine e place = fine_after v p begun first_state y good is.some
        (λ f. absurd (omega (arith, f))) (λ f. inl (drops f)) own
      where
        drops : y ≡ w.side → left (changed v p begun first_state) + 1 ≤ left v
        drops f = omega (
          arith,
          sum_drops v p begun first_state lp (subst (λ (c : ℕ). unit + unit ≤ weight c) (sym e)
              (omega arith)),
          low_at y (changed v p begun first_state) f place,
        )

        own : y ≡ w.side → (c : ℕ) → begun.0 ≡ suc (suc c)
            → Counting c begun.1 (changed v p begun first_state)
        own f c g = (
          omega (
            arith,
            g,
            sum_most (changed v p begun first_state),
            low_at y (changed v p begun first_state) f place,
          ),
          inl (λ k lk. absurd (omega (arith, lk))),
        )

    module _ (place : Where y v) where
      begin_place : (v.kept p).0 ≡ 0 → Where y (changed v p begun first_state)
      begin_place e = by_role p e y place
        where
          by_role : (p : ℕ) → (v.kept p).0 ≡ 0 → (y : Team) → Where y v → Where y (changed v p
              (suc (suc rounds), 0) (transition t (operation_of p) v.object).1)
          by_role zero e A h = absurd (h.0 e)
          by_role zero e B (inl h) = inr (
            λ z. omega (
              arith,
              sym (ap (λ (x : ℕ × ℕ). x.0)
                  (put-same v.kept 0 (suc (suc rounds), 0))) ∙ z,
            ),
            v.object,
            h.1,
            Here,
          )
          by_role zero e B (inr h) = absurd (h.0 e)
          by_role (suc j) e y h =
              let same : put v.kept (suc j) (suc (suc rounds), 0) 0 ≡ v.kept 0 =
              put-other v.kept (suc j) (suc (suc rounds), 0) 0 (λ z. omega (arith, z)) in
              extended y v _ (λ s l. ByMany v.object l)
              (λ z. ap (λ (x : ℕ × ℕ). x.0) same ∙ z)
              (λ n z. n (sym (ap (λ (x : ℕ × ℕ). x.0) same) ∙ z)) h

      -- a step with an operation of the list
      module _ (c i : ℕ) (first : (v.kept p).0 ≡ suc (suc (suc c))) (second : (v.kept p).1 ≡ i)
        where
          abbrev u : ℕ
          u = left_by t w i v.object

          within : i < m
          within = subst (λ (k : ℕ). k < m) second (good.position p)

          later_place : (x : ℕ × ℕ) → x.0 ≢ 0 → Where y (changed v p x u)
          later_place x n = extended y v (changed v p x u) (λ s l. ByFurther v.object i within l)
              (λ z. by_role z (cases_eq 0 p)) (λ o z. by_other o z (cases_eq 0 p)) place
            where
              by_role : (v.kept 0).0 ≡ 0 → (0 ≡ p) ⊎ (0 ≢ p) → (put v.kept p x 0).0 ≡ 0
              by_role z (inl s) = absurd (let e : (v.kept p).0 ≡ 0 =
                  subst (λ (k : ℕ). (v.kept k).0 ≡ 0) s z in omega (arith, first, e))
              by_role z (inr o) = ap (λ (k : ℕ × ℕ). k.0) (put-other v.kept p x 0 o) ∙ z

              by_other : (v.kept 0).0 ≢ 0 → (put v.kept p x 0).0 ≡ 0 → (0 ≡ p) ⊎ (0 ≢ p) → ⊥
              by_other o z (inl s) = n (sym (ap (λ (k : ℕ × ℕ). k.0) (put-same v.kept p x))
                  ∙ subst (λ (k : ℕ). (put v.kept p x k).0 ≡ 0) s z)
              by_other o z (inr d) =
                  o (sym (ap (λ (k : ℕ × ℕ). k.0) (put-other v.kept p x 0 d)) ∙ z)

          signed_step : shows t w i v.object ≡ true → Fine y (changed v p (1, 0) u)
          signed_step e = fine_after v p (1, 0) u y good is.some (λ f. by_team (which y w.side))
              (λ f. inl (drops f)) (λ f d g. absurd (omega (arith, g)))
            where
              drops : y ≡ w.side → left (changed v p (1, 0) u) + 1 ≤ left v
              drops f = omega (
                arith,
                sum_drops v p (1, 0) u lp (subst (λ (d : ℕ). 0 + unit ≤ weight d) (sym first)
                    (omega arith)),
                low_at y (changed v p (1, 0) u) f (later_place (1, 0) (λ z. omega (arith, z))),
              )

              not_both : true ≡ false → ⊥
              not_both z = cc z

              by_team : (y ≡ w.side) ⊎ (y ≡ other w.side) → y ≡ w.side
              by_team (inl f) = f
              by_team (inr f) = absurd (not_both (sym e ∙ is.of_team v.object i
                  (subst (λ (z : Team). StatesOf t w z v.object) f (states_at y v place)) within))

          module _ (none : shows t w i v.object ≡ false) (x : ℕ × ℕ) (at : x.1 < m) (d : ℕ)
              (shape : x.0 ≡ suc (suc d)) where
            less : y ≡ w.side → (left (changed v p x u) + 1 ≤ left v)
                ⊎ ((left (changed v p x u) ≤ left v) × (u ≡ v.object))
            less f = elim (cases_eq u v.object) [
              | inl s ↦ (let r = ap w.rank s in inr (omega (arith, sums, r), s))
              | inr o ↦ (let r = is.falls v.object i
                  (subst (λ (z : Team). StatesOf t w z v.object) f (states_at y v place)) within none
                  o in inl (omega (arith, sums, r)))
            ]
              where
                weighs : weight x.0 ≤ weight (v.kept p).0
                weighs = subst (λ (k : ℕ). weight k ≤ weight (v.kept p).0) (sym shape)
                    (subst (λ (k : ℕ). unit ≤ weight k) (sym first) (omega arith))

                sums : sum_of (changed v p x u) ≤ sum_of v
                sums = sum_kept v p x u weighs

            old : y ≡ w.side → Counting (suc c) i v
            old f = subst (λ (k : ℕ). Counting (suc c) k v) second (good.counting f p lp (suc c) first)

            plain_step : (y ≡ w.side → Counting d x.1 (changed v p x u)) → Fine y (changed v p x u)
            plain_step own = fine_after v p x u y good at
                (λ f. absurd (omega (arith, f, shape))) less
                (λ f e g. subst (λ (k : ℕ). Counting k x.1 (changed v p x u))
                (same_count e g) (own f))
              where
                same_count : (e : ℕ) → x.0 ≡ suc (suc e) → d ≡ e
                same_count e g = omega (arith, g, shape)

          -- the round goes on
          going_step : shows t w i v.object ≡ false → suc i < m
              → Fine y (changed v p (suc (suc (suc c)), suc i) u)
          going_step none l = plain_step none x l (suc c) refl (λ f.
              by_cases (less none x l (suc c) refl f) (old none x l (suc c) refl f))
            where
              x : ℕ × ℕ
              x = (suc (suc (suc c)), suc i)

              by_cases : (left (changed v p (suc (suc (suc c)), suc i) u) + 1 ≤ left v)
                  ⊎ ((left (changed v p (suc (suc (suc c)), suc i) u) ≤ left v) × (u ≡ v.object))
                  → Counting (suc c) i v
                  → Counting (suc c) (suc i) (changed v p (suc (suc (suc c)), suc i) u)
              by_cases (inl z) o = (omega (arith, z, o.0), inr (omega (arith, z, o.0)))
              by_cases (inr z) o = (omega (arith, z.0, o.0), by_old o.1)
                where
                  by_old : ((k : ℕ) → k < i → Quiet v.object k)
                      ⊎ (rounds + 1 + left v ≤ most + suc c)
                      → ((k : ℕ) → k < suc i → Quiet u k)
                      ⊎ (rounds + 1 + left (changed v p (suc (suc (suc c)), suc i) u)
                      ≤ most + suc c)
                  by_old (inl quiet) = inl (λ k lk. subst (λ (s : ℕ). Quiet s k) (sym z.1)
                      (elim (cases_eq k i) [
                        | inl s ↦ subst (Quiet v.object) (sym s) (z.1, none)
                        | inr n ↦ quiet k (omega (arith, lk, n))
                      ]))
                  by_old (inr o) = inr (omega (arith, z.0, o))

          -- the round ends
          ending_step : shows t w i v.object ≡ false → m ≤ suc i
              → Fine y (changed v p (suc (suc c), 0) u)
          ending_step none l = plain_step none x is.some c refl (λ f.
              by_cases f (less none x is.some c refl f) (old none x is.some c refl f))
            where
              x : ℕ × ℕ
              x = (suc (suc c), 0)

              by_cases : y ≡ w.side → (left (changed v p (suc (suc c), 0) u) + 1 ≤ left v)
                  ⊎ ((left (changed v p (suc (suc c), 0) u) ≤ left v) × (u ≡ v.object))
                  → Counting (suc c) i v → Counting c 0 (changed v p (suc (suc c), 0) u)
              by_cases f (inl z) o = (
                omega (arith, z, o.0),
                inl (λ k lk. absurd (omega (arith, lk))),
              )
              by_cases f (inr z) o = by_old o.1
                where
                  unseen : ((k : ℕ) → k < i → Quiet v.object k) → ⊥
                  unseen quiet =
                      let seen = is.seen v.object (subst (λ (s : Team). StatesOf t w s v.object) f
                      (states_at y v place)) in
                      let still : Quiet v.object seen.0 = elim (cases_eq seen.0 i) [
                        | inl s ↦ subst (Quiet v.object) (sym s) (z.1, none)
                        | inr n ↦ quiet seen.0 (omega (arith, seen.1, l, n))
                      ] in
                      elim seen.2 [
                        | inl a ↦ not_both (sym a ∙ still.1)
                        | inr a ↦ a still.0
                      ]
                    where
                      not_both : true ≡ false → ⊥
                      not_both z = cc z

                  by_old : ((k : ℕ) → k < i → Quiet v.object k)
                      ⊎ (rounds + 1 + left v ≤ most + suc c)
                      → Counting c 0 (changed v p (suc (suc c), 0) u)
                  by_old (inl quiet) = absurd (unseen quiet)
                  by_old (inr o) = (
                    omega (arith, z.0, o),
                    inl (λ k lk. absurd (omega (arith, lk))),
                  )

          abbrev Both : ℕ × ℕ → Type 0
          Both x = Fine y (changed v p x u) × Where y (changed v p x u)

          list_step : Both (look c i (answer_of t w i v.object))
          list_step = elim (cases_Bool (shows t w i v.object)) [
            | inl e ↦ subst Both (sym (look_sign c i (answer_of t w i v.object) e))
                (signed_step e, later_place (1, 0) (λ z. omega (arith, z)))
            | inr e ↦ subst Both (sym (look_none c i (answer_of t w i v.object) e))
                (elim (onward_at c i) [
                  | inl o ↦ subst Both (sym o.1) (
                    going_step e o.0,
                    later_place (suc (suc (suc c)), suc i) (λ z. omega (arith, z)),
                  )
                  | inr o ↦ subst Both (sym o.1) (
                    ending_step e o.0,
                    later_place (suc (suc c), 0) (λ z. omega (arith, z)),
                  )
                ])
          ]

      any_step : Fine y (next_scene t sign_node v p) × Where y (next_scene t sign_node v p)
      any_step = by_kept (v.kept p).0 (v.kept p).1 refl refl
        where
          by_kept : (c i : ℕ) → (v.kept p).0 ≡ c → (v.kept p).1 ≡ i
              → Fine y (moved t v p (move_by p c i)) × Where y (moved t v p (move_by p c i))
          by_kept zero i e f = (begin_fine e (begin_place e), begin_place e)
          by_kept (suc zero) i e f = (good, place)
          by_kept (suc (suc zero)) i e f = (good, place)
          by_kept (suc (suc (suc c))) i e f = list_step c i e f

  -- ---- the node

  abbrev opening : Scene
  opening = record { object = w.state; kept = λ j. (0, 0) }

  first_step : (p : ℕ) → p < roles → (y : Team) → team_of 1 p ≡ y
      → Fine y (next_scene t sign_node opening p) × Where y (next_scene t sign_node opening p)
  first_step p lp y e =
      let place = subst (λ (z : Team). Where z (next_scene t sign_node opening p)) e (by_role p) in (
        begin_fine y opening (record {
          position = λ j. is.some;
          signed = λ j f. absurd (omega (arith, f));
          counting = λ f j lj c g. absurd (omega (arith, g));
        }) p lp refl place,
        place,
      )
    where
      by_role : (p : ℕ) → Where (team_of 1 p) (next_scene t sign_node opening p)
      by_role zero = subst (λ (z : Team). Where z (next_scene t sign_node opening 0))
          (sym (team_low 1 0 (omega arith))) (
            λ z. omega (
              arith,
              sym (ap (λ (x : ℕ × ℕ). x.0)
                  (put-same opening.kept 0 (suc (suc rounds), 0))) ∙ z,
            ),
            Here,
          )
      by_role (suc j) = subst (λ (z : Team). Where z (next_scene t sign_node opening (suc j)))
          (sym (team_high 1 (suc j) (omega arith))) (inl (
            ap (λ (x : ℕ × ℕ). x.0) (put-other opening.kept (suc j) (suc (suc rounds), 0) 0
                (λ z. omega (arith, z))),
            Here,
          ))

  good : (s : List ℕ) → IsSchedule roles s → (y : Team) → BeganIn (team_of 1) y s
      → Fine y (scene_after t sign_node s) × Where y (scene_after t sign_node s)
  good [] h y e = absurd e
  good (p ∷ []) h y e = first_step p h.0 y e
  good (p ∷ q ∷ s) h y e =
      let g = good (q ∷ s) h.1 y e in
      any_step y (scene_after t sign_node (q ∷ s)) g.0 p h.0 g.1

  began_some : (q : ℕ) (s : List ℕ) → (y : Team) × BeganIn (team_of 1) y (q ∷ s)
  began_some q [] = (team_of 1 q, refl)
  began_some q (k ∷ s) = began_some k s

  apply_finish : {X : Type 0} {o : ℕ} {k : ℕ → ℕ × ℕ} {y : Team} → Apply o k ≡ Finish y → X
  apply_finish e = absurd (cc e)

  same_team : {x y : Team} → Finish x ≡ Finish y → x ≡ y
  same_team e = cc e

  tells : (s : List ℕ) → IsSchedule roles s → (j : ℕ) → j < roles → (side : Team)
      → Tells t sign_node s j side → BeganIn (team_of 1) side s
  tells [] h j lj side e = apply_finish e
  tells (q ∷ s) h j lj side e =
      let y = began_some q s in
      let g = good (q ∷ s) h y.0 y.1 in
      subst (λ (z : Team). BeganIn (team_of 1) z (q ∷ s))
      (by_kept y.0 g.0 ((scene_after t sign_node (q ∷ s)).kept j).0
      ((scene_after t sign_node (q ∷ s)).kept j).1 refl e) y.1
    where
      by_kept : (y : Team) → Fine y (scene_after t sign_node (q ∷ s)) → (c i : ℕ)
          → ((scene_after t sign_node (q ∷ s)).kept j).0 ≡ c → move_by j c i ≡ Finish side → y ≡ side
      by_kept y f zero i k e = apply_finish e
      by_kept y f (suc zero) i k e = f.signed j k ∙ same_team e
      by_kept y f (suc (suc zero)) i k e = elim (which y w.side) [
        | inl z ↦ absurd (omega (arith, (f.counting z j lj 0 k).0))
        | inr z ↦ z ∙ same_team e
      ]
      by_kept y f (suc (suc (suc c))) i k e = apply_finish e

  position_at : (s : List ℕ) → IsSchedule roles s → (j : ℕ) → ((scene_after t sign_node s).kept j).1 < m
  position_at [] h j = is.some
  position_at (q ∷ s) h j = let y = began_some q s in (good (q ∷ s) h y.0 y.1).0.position j

  -- the steps that are left to a process
  abbrev steps : ℕ → ℕ → ℕ
  steps zero i = 0
  steps (suc c) i = (m - i) + steps c 0

  abbrev togo : ℕ → ℕ → ℕ
  togo zero i = 1 + steps rounds 0
  togo (suc zero) i = 0
  togo (suc (suc c)) i = steps c i

  abbrev pace : ℕ
  pace = 1 + steps rounds 0

  abbrev Paced : ℕ → ℕ × ℕ → ℕ → Type 0
  Paced j x k = (togo x.0 x.1 + k ≤ pace) ⊎ ((side : Team) × (move_by j x.0 x.1 ≡ Finish side))

  own_pace : (v : Scene) (p k : ℕ) → (v.kept p).1 < m → Paced p (v.kept p) k
      → Paced p ((next_scene t sign_node v p).kept p) (1 + k)
  own_pace v p k l = by_kept (v.kept p).0 (v.kept p).1 refl l
    where
      by_kept : (c i : ℕ) → v.kept p ≡ (c, i) → i < m → Paced p (c, i) k
          → Paced p ((moved t v p (move_by p c i)).kept p) (1 + k)
      by_kept zero i e l (inl h) = subst (λ (x : ℕ × ℕ). Paced p x (1 + k))
          (sym (put-same v.kept p (suc (suc rounds), 0))) (inl (omega (arith, h)))
      by_kept zero i e l (inr h) = apply_finish h.1
      by_kept (suc zero) i e l h = subst (λ (x : ℕ × ℕ). Paced p x (1 + k)) (sym e)
          (inr (w.side, refl))
      by_kept (suc (suc zero)) i e l h = subst (λ (x : ℕ × ℕ). Paced p x (1 + k)) (sym e)
          (inr (other w.side, refl))
      by_kept (suc (suc (suc c))) i e l (inr h) = apply_finish h.1
      by_kept (suc (suc (suc c))) i e l (inl h) =
          let r = answer_of t w i v.object in
          subst (λ (x : ℕ × ℕ). Paced p x (1 + k)) (sym (put-same v.kept p (look c i r)))
          (elim (cases_Bool (w.sign (slice_index w.further i) r)) [
            | inl f ↦ subst (λ (x : ℕ × ℕ). Paced p x (1 + k)) (sym (look_sign c i r f))
                (inr (w.side, refl))
            | inr f ↦ subst (λ (x : ℕ × ℕ). Paced p x (1 + k)) (sym (look_none c i r f))
                (elim (onward_at c i) [
                  | inl o ↦ subst (λ (x : ℕ × ℕ). Paced p x (1 + k)) (sym o.1)
                      (inl (omega (arith, h, o.0)))
                  | inr o ↦ subst (λ (x : ℕ × ℕ). Paced p x (1 + k)) (sym o.1)
                      (inl (omega (arith, h, o.0, l)))
                ])
          ])

  moved_other : (v : Scene) (p j : ℕ) → j ≢ p → (c : Move)
      → (moved t v p c).kept j ≡ v.kept j
  moved_other v p j n (Apply o k) = put-other v.kept p _ j n
  moved_other v p j n (Finish side) = refl

  paced : (s : List ℕ) → IsSchedule roles s → (j : ℕ)
      → Paced j ((scene_after t sign_node s).kept j) (occurrences s j)
  paced [] h j = inl (omega arith)
  paced (p ∷ s) h j = elim (cases_eq j p) [
    | inl e ↦ subst (λ (z : ℕ). Paced z ((scene_after t sign_node (p ∷ s)).kept z)
        (occurrences (p ∷ s) z)) (sym e)
        (subst (Paced p ((scene_after t sign_node (p ∷ s)).kept p)) (sym (one_more p s))
        (own_pace (scene_after t sign_node s) p (occurrences s p) (position_at s h.1 p)
        (paced s h.1 p)))
    | inr n ↦ subst (Paced j ((scene_after t sign_node (p ∷ s)).kept j))
        (sym (occurrences_other p s j (λ f. n (sym f))))
        (subst (λ (x : ℕ × ℕ). Paced j x (occurrences s j))
        (sym (moved_other (scene_after t sign_node s) p j n
        (sign_node.move p ((scene_after t sign_node s).kept p)))) (paced s h.1 j))
  ]

  finished : (s : List ℕ) → IsSchedule roles s → (j : ℕ) → pace ≤ occurrences s j
      → (side : Team) × Tells t sign_node s j side
  finished s h j often = by_pace (paced s h j)
    where
      by_kept : (c i : ℕ) → i < m → togo c i + occurrences s j ≤ pace
          → (side : Team) × (move_by j c i ≡ Finish side)
      by_kept zero i l e = absurd (omega (arith, e, often))
      by_kept (suc zero) i l e = (w.side, refl)
      by_kept (suc (suc zero)) i l e = (other w.side, refl)
      by_kept (suc (suc (suc c))) i l e = absurd (omega (arith, e, often, l))

      by_pace : Paced j ((scene_after t sign_node s).kept j) (occurrences s j)
          → (side : Team) × Tells t sign_node s j side
      by_pace (inr f) = f
      by_pace (inl e) = by_kept _ _ (position_at s h j) e

  pub is_node : IsNode t 1 b sign_node
  is_node = record {
    state_known = is.state_known;
    operations_known = λ j x lj. by_kept j x.0 x.1;
    bound = pace;
    ends = λ s h j lj often. finished s h j often;
    tells_first = tells;
  }
    where
      by_kept : (j c i : ℕ) → IsMoveOf t (move_by j c i)
      by_kept zero zero i = is.single_known
      by_kept (suc j) zero i = is.many_known
      by_kept j (suc zero) i = tt
      by_kept j (suc (suc zero)) i = tt
      by_kept j (suc (suc (suc c))) i = elim (cases_lt i m) [
        | inl l ↦ is.further_known i l
        | inr past ↦ subst (λ (o : ℕ). o < length t.operations)
            (sym (get_or_past w.further i 0 past)) (omega (arith, is.single_known))
      ]
