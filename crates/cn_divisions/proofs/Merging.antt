-- Teams that become one, step by step.
use Rattle.std.proofs.Common.{ℕ, zero, suc, ◌≡◌, ◌≢◌, ◌+◌, ◌<◌, ◌≤◌, ◌⊎◌, inl, inr, List, [], ◌∷◌, length, refl, sym, ◌∙◌, subst, arith}
use Rattle.std.specs.Prelude.{slice_index}
use Rattle.std.proofs.lemmas.Bool.{cases_eq}
use Rattle.cn_table.specs.TypeTable.{TypeTable}
use Rattle.cn_meetings.specs.Meeting.{Sight}
use Rattle.cn_outcomes.proofs.Packing.{below_or_last}
use Rattle.cn_stocks.specs.Words.{IsKnown}
use Rattle.cn_stocks.proofs.StockLemmas.{before_or_behind}
use Rattle.cn_stocks.proofs.Steps.{shows_first}
use Rattle.cn_divisions.specs.Joins.{AreComponents, AreComponentsSoFar, AreConnected, AreJoined, IsMerged}
use Rattle.cn_divisions.specs.Joins.AreConnected.{ByWayOf, Itself}

pub kept : (old new : List ℕ) (f g x y : ℕ) → IsMerged old f g new → x < length old → y < length old → slice_index old x ≡ slice_index old y → slice_index new x ≡ slice_index new y
kept old new f g x y m u v e = elim (cases_eq (slice_index old x) (slice_index old g)) [
  | inl a ↦ (m.1 x u).0 a ∙ sym ((m.1 y v).0 (sym e ∙ a))
  | inr n ↦ (m.1 x u).1 n ∙ (e ∙ sym ((m.1 y v).1 (λ b. n (e ∙ b))))
]

pub joins : (old new : List ℕ) (f g : ℕ) → IsMerged old f g new → f < length old → g < length old → slice_index new f ≡ slice_index new g
joins old new f g m u v = elim (cases_eq (slice_index old f) (slice_index old g)) [
  | inl a ↦ (m.1 f u).0 a ∙ sym ((m.1 g v).0 refl)
  | inr n ↦ (m.1 f u).1 n ∙ sym ((m.1 g v).0 refl)
]

pub first_teams : (f : ℕ) → f < 8 → slice_index (0 ∷ 1 ∷ 2 ∷ 3 ∷ 4 ∷ 5 ∷ 6 ∷ 7 ∷ []) f ≡ f
first_teams zero l = refl
first_teams (suc zero) l = refl
first_teams (suc (suc zero)) l = refl
first_teams (suc (suc (suc zero))) l = refl
first_teams (suc (suc (suc (suc zero)))) l = refl
first_teams (suc (suc (suc (suc (suc zero))))) l = refl
first_teams (suc (suc (suc (suc (suc (suc zero)))))) l = refl
first_teams (suc (suc (suc (suc (suc (suc (suc zero))))))) l = refl
first_teams (suc (suc (suc (suc (suc (suc (suc (suc f)))))))) l = absurd (omega (arith, l))

module _ (t : TypeTable) (sight : Sight) (start : ℕ) (stock : List ℕ) where
  abbrev Linked : ℕ → ℕ → Type 0
  Linked = AreConnected t sight start stock

  abbrev Joined : ℕ → ℕ → Type 0
  Joined = AreJoined t sight start stock

  pub chained : (p q r : ℕ) → Linked p q → Linked q r → Linked p r
  chained p q r (Itself x) b = b
  chained p q r (ByWayOf x y z j a) b = ByWayOf x y r j (chained y z r a b)

  pub joined_turned : (f g : ℕ) → Joined f g → Joined g f
  joined_turned f g j = record { to = j.to; response = j.response; saw = j.saw; told_f = j.told_g; told_g = j.told_f }

  pub turned : (p q : ℕ) → Linked p q → Linked q p
  turned p q (Itself x) = Itself x
  turned p q (ByWayOf x y z j a) = chained z y x (turned y z a) (ByWayOf y x x (joined_turned x y j) (Itself x))

  pub joined_first : (f g : ℕ) → Joined f g → (k : ℕ) → IsKnown k stock → f < k
  joined_first f g j k known = known f (shows_first t start stock f j.to j.response j.told_f.0 j.told_f.1)

  -- only connected operations are in one team
  abbrev AreLinked : List ℕ → Type 0
  AreLinked team = (x y : ℕ) → x < 8 → y < 8 → slice_index team x ≡ slice_index team y → Linked x y

  pub merged_linked : (old new : List ℕ) (f g : ℕ) → length old ≡ 8 → f < 8 → g < 8 → IsMerged old f g new → Linked f g → AreLinked old → AreLinked new
  merged_linked old new f g long u v m l all x y a b e = go (cases_eq (slice_index old x) (slice_index old g)) (cases_eq (slice_index old y) (slice_index old g))
    where
      here : (z : ℕ) → z < 8 → z < length old
      here z w = omega (arith, w, long)

      go : (slice_index old x ≡ slice_index old g) ⊎ (slice_index old x ≢ slice_index old g) → (slice_index old y ≡ slice_index old g) ⊎ (slice_index old y ≢ slice_index old g) → Linked x y
      go (inl c) (inl d) = all x y a b (c ∙ sym d)
      go (inl c) (inr d) = chained x g y (all x g a v c) (chained g f y (turned f g l) (all f y u b (sym ((m.1 x (here x a)).0 c) ∙ (e ∙ (m.1 y (here y b)).1 d))))
      go (inr c) (inl d) = chained x f y (all x f a u (sym ((m.1 x (here x a)).1 c) ∙ (e ∙ (m.1 y (here y b)).0 d))) (chained f g y l (all g y v b (sym d)))
      go (inr c) (inr d) = all x y a b (sym ((m.1 x (here x a)).1 c) ∙ (e ∙ (m.1 y (here y b)).1 d))

  pub first_far : (team : List ℕ) → team ≡ 0 ∷ 1 ∷ 2 ∷ 3 ∷ 4 ∷ 5 ∷ 6 ∷ 7 ∷ [] → AreComponentsSoFar t sight start stock 0 team
  first_far team e = record {
    long = rw e refl;
    small = λ f u. rw (e, first_teams f u) u;
    connected = λ f g u v h.
        let same : f ≡ g = sym (first_teams f u) ∙ (subst (λ (l : List ℕ). slice_index l f ≡ slice_index l g) e h ∙ first_teams g v) in
        subst (Linked f) same (Itself f);
    together = λ f g l u j. absurd (omega (arith, u));
  }

  -- the teams of the operations below g, and of g and those below f
  abbrev pub SoFarTo : ℕ → ℕ → List ℕ → Type 0
  SoFarTo g f team = AreComponentsSoFar t sight start stock g team × ((x : ℕ) → x < f → Joined x g → slice_index team x ≡ slice_index team g)

  pub merged_far : (old new : List ℕ) (f g : ℕ) → f < g → g < 8 → IsMerged old f g new → Joined f g → SoFarTo g f old → SoFarTo g (f + 1) new
  merged_far old new f g l u m j so = (
    record {
      long = m.0 ∙ so.0.long;
      small = λ x v. elim (cases_eq (slice_index old x) (slice_index old g)) [
        | inl a ↦ subst (λ (k : ℕ). k < 8) (sym ((m.1 x (omega (arith, v, so.0.long))).0 a)) (so.0.small f (omega (arith, l, u)))
        | inr a ↦ subst (λ (k : ℕ). k < 8) (sym ((m.1 x (omega (arith, v, so.0.long))).1 a)) (so.0.small x v)
      ];
      connected = merged_linked old new f g so.0.long (omega (arith, l, u)) u m (ByWayOf f g g j (Itself g)) so.0.connected;
      together = λ x y a b i. kept old new f g x y m (omega (arith, a, b, u, so.0.long)) (omega (arith, b, u, so.0.long)) (so.0.together x y a b i);
    },
    λ x a i. elim (below_or_last x f a) [
      | inl b ↦ kept old new f g x g m (omega (arith, b, l, u, so.0.long)) (omega (arith, u, so.0.long)) (so.1 x b i)
      | inr e ↦ subst (λ (z : ℕ). slice_index new z ≡ slice_index new g) (sym e) (joins old new f g m (omega (arith, l, u, so.0.long)) (omega (arith, u, so.0.long)))
    ],
  )

  pub same_far : (team : List ℕ) (f g : ℕ) → (Joined f g → slice_index team f ≡ slice_index team g) → SoFarTo g f team → SoFarTo g (f + 1) team
  same_far team f g here so = (
    so.0,
    λ x a i. elim (below_or_last x f a) [
      | inl b ↦ so.1 x b i
      | inr e ↦ subst (λ (z : ℕ). slice_index team z ≡ slice_index team g) (sym e) (here (subst (λ (z : ℕ). Joined z g) e i))
    ],
  )

  pub far_on : (team : List ℕ) (g f : ℕ) → g ≤ f → SoFarTo g f team → AreComponentsSoFar t sight start stock (g + 1) team
  far_on team g f l so = record {
    long = so.0.long;
    small = so.0.small;
    connected = so.0.connected;
    together = λ x y a b i. elim (below_or_last y g b) [
      | inl c ↦ so.0.together x y a c i
      | inr e ↦ subst (λ (z : ℕ). slice_index team x ≡ slice_index team z) (sym e) (so.1 x (omega (arith, a, e, l)) (subst (Joined x) e i))
    ];
  }

  pub kept_along : (team : ℕ → ℕ) → ((f g : ℕ) → Joined f g → team f ≡ team g) → (f g : ℕ) → Linked f g → team f ≡ team g
  kept_along team together f g (Itself x) = refl
  kept_along team together f g (ByWayOf x y z j a) = together x y j ∙ kept_along team together y z a

  pub components_are : (k : ℕ) → IsKnown k stock → (team : List ℕ) → AreComponentsSoFar t sight start stock k team → AreComponents t sight start stock 8 team
  components_are k known team so f g u v = (so.connected f g u v, kept_along (slice_index team) together f g)
    where
      together : (x y : ℕ) → Joined x y → slice_index team x ≡ slice_index team y
      together x y j = elim (before_or_behind x y) [
        | inl l ↦ so.together x y l (joined_first y x (joined_turned x y j) k known) j
        | inr l ↦ elim (below_or_last y x (omega (arith, l))) [
          | inl a ↦ sym (so.together y x a (joined_first x y j k known) (joined_turned x y j))
          | inr e ↦ subst (λ (z : ℕ). slice_index team x ≡ slice_index team z) (sym e) refl
        ]
      ]
