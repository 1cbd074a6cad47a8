-- The finest division: processes are put together one pair after another.
use Rattle.std.proofs.Common.{ℕ, ◌≡◌, ◌≢◌, ◌↔◌, ◌<◌, ◌⊎◌, inl, inr, Bool, List, [], ◌∷◌, refl, sym, ap, ◌∙◌, subst}
use Rattle.std.proofs.lemmas.Bool.{cases_eq}
use Rattle.cn_table.specs.TypeTable.{TypeTable}
use Rattle.cn_choice.proofs.ListLemmas.Members.{IsIn}
use Rattle.cn_meetings.specs.Division.{AreConnected, AreJoined, IsCoarser, IsFinest}
use Rattle.cn_meetings.specs.Division.AreConnected.{ByWayOf, Itself}
use Rattle.cn_meetings.specs.Meeting.{Meeting}
use Rattle.cn_meetings.specs.Witness.{Has, IsTeamWitness}
use Rattle.cn_meetings.proofs.Tellings.{IsSame, IsTold, Telling, decide_same, if_so, in_tellings, telling_in, tellings}
use Rattle.cn_meetings.proofs.Witnesses.{joined_decide}

module _ (t : TypeTable) (M : Meeting) (processes : ℕ → Bool) where
  abbrev Linked : ℕ → ℕ → Type 0
  Linked = AreConnected t M processes

  chained : (p q r : ℕ) → Linked p q → Linked q r → Linked p r
  chained p q r (Itself x) b = b
  chained p q r (ByWayOf x y z j a) b = ByWayOf x y r j (chained y z r a b)

  turned : (p q : ℕ) → Linked p q → Linked q p
  turned p q (Itself x) = Itself x
  turned p q (ByWayOf x y z j a) =
      chained z y x (turned y z a) (ByWayOf y x x (record { behind_p = j.behind_q; behind_q = j.behind_p; to = j.to; response = j.response; saw = j.saw; shown_p = j.shown_q; shown_q = j.shown_p }) (Itself x))

  pub kept_along : (team : ℕ → ℕ) → ((p q : ℕ) → AreJoined t M processes p q → team p ≡ team q) → (p q : ℕ) → Linked p q → team p ≡ team q
  kept_along team together p q (Itself x) = refl
  kept_along team together p q (ByWayOf x y z j a) = together x y j ∙ kept_along team together y z a

  pub coarser : (finest team : ℕ → ℕ) → IsFinest t M processes finest → IsTeamWitness t M processes team ↔ IsCoarser team finest
  coarser finest team is = (
    λ witness p q e. kept_along team ((joined_decide t M processes team).0 witness) p q ((is p q).0 e),
    λ coarse. (joined_decide t M processes team).1 (λ p q j. coarse p q ((is p q).1 (ByWayOf p q q j (Itself q)))),
  )

  -- the teams of p and q become one
  abbrev merged : (ℕ → ℕ) → ℕ → ℕ → ℕ → ℕ
  merged f p q x = if_so (cases_eq (f x) (f q)) (f p) (f x)

  abbrev AreLinked : (ℕ → ℕ) → Type 0
  AreLinked f = (x y : ℕ) → f x ≡ f y → Linked x y

  merged_linked : (f : ℕ → ℕ) (p q : ℕ) → Linked p q → AreLinked f → AreLinked (merged f p q)
  merged_linked f p q l all x y = go (cases_eq (f x) (f q)) (cases_eq (f y) (f q))
    where
      go : (a : (f x ≡ f q) ⊎ (f x ≢ f q)) (b : (f y ≡ f q) ⊎ (f y ≢ f q)) → if_so a (f p) (f x) ≡ if_so b (f p) (f y) → Linked x y
      go (inl a) (inl b) e = all x y (a ∙ sym b)
      go (inl a) (inr b) e = chained x q y (all x q a) (chained q p y (turned p q l) (all p y e))
      go (inr a) (inl b) e = chained x p y (all x p e) (chained p q y l (all q y (sym b)))
      go (inr a) (inr b) e = all x y e

  merged_keeps : (f : ℕ → ℕ) (p q x y : ℕ) → f x ≡ f y → merged f p q x ≡ merged f p q y
  merged_keeps f p q x y e = ap (λ z. if_so (cases_eq z (f q)) (f p) z) e

  merged_joins : (f : ℕ → ℕ) (p q : ℕ) → merged f p q p ≡ merged f p q q
  merged_joins f p q = go (cases_eq (f p) (f q)) (cases_eq (f q) (f q))
    where
      go : (a : (f p ≡ f q) ⊎ (f p ≢ f q)) (b : (f q ≡ f q) ⊎ (f q ≢ f q)) → if_so a (f p) (f p) ≡ if_so b (f p) (f q)
      go (inl a) (inl b) = refl
      go (inr a) (inl b) = refl
      go a (inr b) = absurd (b refl)

  abbrev with_one : (ℕ → ℕ) → Telling → Telling → ℕ → ℕ
  with_one f x y = if_so (decide_same x y) (merged f x.0 y.0) f

  abbrev with_each : (ℕ → ℕ) → Telling → List Telling → ℕ → ℕ
  with_each f x [] = f
  with_each f x (y ∷ ys) = with_each (with_one f x y) x ys

  abbrev with_all : (ℕ → ℕ) → List Telling → List Telling → ℕ → ℕ
  with_all f ys [] = f
  with_all f ys (x ∷ xs) = with_all (with_each f x ys) ys xs

  -- ---- only linked processes are put together
  abbrev AreTold : List Telling → Type 0
  AreTold xs = (x : Telling) → IsIn x xs → IsTold t M processes x

  one_linked : (f : ℕ → ℕ) (x y : Telling) → IsTold t M processes x → IsTold t M processes y → AreLinked f → AreLinked (with_one f x y)
  one_linked f x y a b all = go (decide_same x y)
    where
      go : (d : IsSame x y ⊎ ¬ IsSame x y) → AreLinked (if_so d (merged f x.0 y.0) f)
      go (inl same) = merged_linked f x.0 y.0
          (ByWayOf x.0 y.0 y.0
          (record { behind_p = a.behind; behind_q = b.behind; to = x.1; response = x.2; saw = x.3; shown_p = a.shown; shown_q = rw (same.0, same.1, same.2) b.shown })
          (Itself y.0)) all
      go (inr other) = all

  each_linked : (f : ℕ → ℕ) (x : Telling) (ys : List Telling) → IsTold t M processes x → AreTold ys → AreLinked f → AreLinked (with_each f x ys)
  each_linked f x [] a told all = all
  each_linked f x (y ∷ ys) a told all =
      each_linked (with_one f x y) x ys a (λ z i. told z (inr i)) (one_linked f x y a (told y (inl refl)) all)

  all_linked : (f : ℕ → ℕ) (ys xs : List Telling) → AreTold ys → AreTold xs → AreLinked f → AreLinked (with_all f ys xs)
  all_linked f ys [] others told all = all
  all_linked f ys (x ∷ xs) others told all =
      all_linked (with_each f x ys) ys xs others (λ z i. told z (inr i)) (each_linked f x ys (told x (inl refl)) others all)

  -- ---- processes that are together stay so
  one_keeps : (f : ℕ → ℕ) (x y : Telling) (p q : ℕ) → f p ≡ f q → with_one f x y p ≡ with_one f x y q
  one_keeps f x y p q e = go (decide_same x y)
    where
      go : (d : IsSame x y ⊎ ¬ IsSame x y) → if_so d (merged f x.0 y.0) f p ≡ if_so d (merged f x.0 y.0) f q
      go (inl same) = merged_keeps f x.0 y.0 p q e
      go (inr other) = e

  each_keeps : (f : ℕ → ℕ) (x : Telling) (ys : List Telling) (p q : ℕ) → f p ≡ f q → with_each f x ys p ≡ with_each f x ys q
  each_keeps f x [] p q e = e
  each_keeps f x (y ∷ ys) p q e = each_keeps (with_one f x y) x ys p q (one_keeps f x y p q e)

  all_keeps : (f : ℕ → ℕ) (ys xs : List Telling) (p q : ℕ) → f p ≡ f q → with_all f ys xs p ≡ with_all f ys xs q
  all_keeps f ys [] p q e = e
  all_keeps f ys (x ∷ xs) p q e = all_keeps (with_each f x ys) ys xs p q (each_keeps f x ys p q e)

  -- ---- joined processes are put together
  one_joins : (f : ℕ → ℕ) (x y : Telling) → IsSame x y → with_one f x y x.0 ≡ with_one f x y y.0
  one_joins f x y is = go (decide_same x y)
    where
      go : (d : IsSame x y ⊎ ¬ IsSame x y) → if_so d (merged f x.0 y.0) f x.0 ≡ if_so d (merged f x.0 y.0) f y.0
      go (inl same) = merged_joins f x.0 y.0
      go (inr other) = absurd (other is)

  each_joins : (f : ℕ → ℕ) (x y : Telling) (ys : List Telling) → IsIn y ys → IsSame x y → with_each f x ys x.0 ≡ with_each f x ys y.0
  each_joins f x y [] i is = absurd i
  each_joins f x y (z ∷ ys) (inl e) is =
      each_keeps (with_one f x z) x ys x.0 y.0 (rw e (one_joins f x y is))
  each_joins f x y (z ∷ ys) (inr i) is = each_joins (with_one f x z) x y ys i is

  all_joins : (f : ℕ → ℕ) (x y : Telling) (ys xs : List Telling) → IsIn x xs → IsIn y ys → IsSame x y → with_all f ys xs x.0 ≡ with_all f ys xs y.0
  all_joins f x y ys [] i j is = absurd i
  all_joins f x y ys (z ∷ xs) (inl e) j is =
      all_keeps (with_each f z ys) ys xs x.0 y.0 (rw e (each_joins f x y ys j is))
  all_joins f x y ys (z ∷ xs) (inr i) j is = all_joins (with_each f z ys) x y ys xs i j is

  pub finest : (n : ℕ) → ((p : ℕ) → Has processes p → p < n) → (team : ℕ → ℕ) × IsFinest t M processes team
  finest n few =
      let told : List Telling = tellings t M processes n in
      let in_told : AreTold told = in_tellings t M processes n in
      let team : ℕ → ℕ = with_all (λ x. x) told told in
      let together : (p q : ℕ) → AreJoined t M processes p q → team p ≡ team q = λ p q j.
      all_joins (λ x. x) (p, j.to, j.response, j.saw) (q, j.to, j.response, j.saw) told told
      (telling_in t M processes n few p j.behind_p j.to j.response j.saw j.shown_p)
      (telling_in t M processes n few q j.behind_q j.to j.response j.saw j.shown_q) (refl, refl, refl) in (
        team,
        λ p q. (
          all_linked (λ x. x) told told in_told in_told (λ x y e. subst (Linked x) e (Itself x)) p q,
          kept_along team together p q,
        ),
      )
