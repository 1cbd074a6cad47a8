-- The members of each team in the order of their operations.
use Rattle.std.proofs.Common.{◌≡◌, ℕ, zero, suc, ◌≤◌, List, [], ◌∷◌, ◌++◌, length, map, refl, ap, arith, Bool, true, false, cond, Some, leb, append_assoc}
use Rattle.std.specs.Prelude.{slice_get}
use Rattle.std.specs.List.{AllByRecursion, remove, zip}
use Rattle.std.proofs.lemmas.Bool.{leb-true, leb-false}
use Rattle.std.proofs.lemmas.List.{map-append}
use Rattle.cn_choice.specs.declared.team.Team.{Team}
use Rattle.cn_choice.specs.declared.team.Team.TheVariants.{A, B}
use Rattle.cn_choice.proofs.ListLemmas.Members.{each_at, each_from}
use Rattle.cn_choice.proofs.NumberLemmas.FewerProcesses.{skip}
use Rattle.cn_choice.proofs.ListLemmas.NonDecreasingLists.{NeverFalls}

-- the elements of the second list are taken out of the first, one after another
abbrev pub Drawn : {X : Type 0} → List X → List X → Type 0
Drawn ps [] = ps ≡ []
Drawn ps (x ∷ xs) = (d : ℕ) × (slice_get ps d ≡ Some x) × Drawn (remove ps d) xs

pub drawn_insert : {X : Type 0} (p : X) (us vs ps : List X) → Drawn ps (us ++ vs) → Drawn (p ∷ ps) (us ++ p ∷ vs)
drawn_insert p [] vs ps h = (0, refl, h)
drawn_insert p (u ∷ us) vs ps h = (suc h.0, h.1, drawn_insert p us vs (remove ps h.0) h.2)

-- x inserted before the first number that is not below it
abbrev pub placed : ℕ → List ℕ → List ℕ
placed x [] = x ∷ []
placed x (y ∷ ys) = cond (leb x y) (x ∷ y ∷ ys) (y ∷ placed x ys)

pub record Placed (x : ℕ) (xs zs : List ℕ) : Type 0 where
  pub before : List ℕ
  pub after : List ℕ
  pub was : xs ≡ before ++ after
  pub is : zs ≡ before ++ x ∷ after

pub placed_is : (x : ℕ) (xs : List ℕ) → Placed x xs (placed x xs)
placed_is x [] = record { before = []; after = []; was = refl; is = refl }
placed_is x (y ∷ ys) = by_test (leb x y) (placed_is x ys)
  where
    by_test : (b : Bool) → Placed x ys (placed x ys) → Placed x (y ∷ ys) (cond b (x ∷ y ∷ ys) (y ∷ placed x ys))
    by_test true r = record { before = []; after = y ∷ ys; was = refl; is = refl }
    by_test false r = record { before = y ∷ r.before; after = r.after; was = ap (λ l. y ∷ l) r.was; is = ap (λ l. y ∷ l) r.is }

each_placed : (P : ℕ → Type 0) (x : ℕ) (xs : List ℕ) → P x → AllByRecursion P xs → AllByRecursion P (placed x xs)
each_placed P x [] p a = (p, tt)
each_placed P x (y ∷ ys) p a = by_test (leb x y) (each_placed P x ys p a.1)
  where
    by_test : (b : Bool) → AllByRecursion P (placed x ys) → AllByRecursion P (cond b (x ∷ y ∷ ys) (y ∷ placed x ys))
    by_test true r = (p, a)
    by_test false r = (a.0, r)

pub NeverFalls-placed : (x : ℕ) (xs : List ℕ) → NeverFalls xs → NeverFalls (placed x xs)
NeverFalls-placed x [] n = (tt, tt)
NeverFalls-placed x (y ∷ ys) n = by_test (leb x y) refl (NeverFalls-placed x ys n.1)
  where
    by_test : (b : Bool) → leb x y ≡ b → NeverFalls (placed x ys) → NeverFalls (cond b (x ∷ y ∷ ys) (y ∷ placed x ys))
    by_test true t r = let l = leb-true x y t in ((l, each_from (λ z. x ≤ z) ys (λ z i. omega (arith, l, each_at (λ z. y ≤ z) ys z n.0 i))), n)
    by_test false t r = let l = leb-false x y t in (each_placed (λ z. y ≤ z) x ys (omega (arith, l)) n.0, r)

abbrev pub is_a : Team → Bool
is_a A = true
is_a B = false

-- the operations of team A, in order
abbrev pub first_team : List ℕ → List Team → List ℕ
first_team [] ms = []
first_team (o ∷ os) [] = []
first_team (o ∷ os) (m ∷ ms) = cond (is_a m) (placed o (first_team os ms)) (first_team os ms)

abbrev pub second_team : List ℕ → List Team → List ℕ
second_team [] ms = []
second_team (o ∷ os) [] = []
second_team (o ∷ os) (m ∷ ms) = cond (is_a m) (second_team os ms) (placed o (second_team os ms))

pub first_in_order : (os : List ℕ) (ms : List Team) → NeverFalls (first_team os ms)
first_in_order [] ms = tt
first_in_order (o ∷ os) [] = tt
first_in_order (o ∷ os) (A ∷ ms) = NeverFalls-placed o (first_team os ms) (first_in_order os ms)
first_in_order (o ∷ os) (B ∷ ms) = first_in_order os ms

pub second_in_order : (os : List ℕ) (ms : List Team) → NeverFalls (second_team os ms)
second_in_order [] ms = tt
second_in_order (o ∷ os) [] = tt
second_in_order (o ∷ os) (A ∷ ms) = second_in_order os ms
second_in_order (o ∷ os) (B ∷ ms) = NeverFalls-placed o (second_team os ms) (second_in_order os ms)

-- the members of both teams, A first
abbrev pub members : List ℕ → List ℕ → List (ℕ × Team)
members xs ys = map (λ o. (o, A)) xs ++ map (λ o. (o, B)) ys

pub members_drawn : (os : List ℕ) (ms : List Team) → length os ≡ length ms → Drawn (zip os ms) (members (first_team os ms) (second_team os ms))
members_drawn [] [] e = refl
members_drawn [] (m ∷ ms) e = absurd (omega (arith, e))
members_drawn (o ∷ os) [] e = absurd (omega (arith, e))
members_drawn (o ∷ os) (A ∷ ms) e =
    let r = members_drawn os ms (omega (arith, e)) in
    let p = placed_is o (first_team os ms) in
    let tail = map (λ o. let q : ℕ × Team = (o, B) in q) (second_team os ms) in
    rw (p.is, map-append (λ o. let q : ℕ × Team = (o, A) in q) p.before (o ∷ p.after), append_assoc)
    (drawn_insert (o, A) (map (λ o. (o, A)) p.before) (map (λ o. (o, A)) p.after ++ tail) (zip os ms)
    (rw (p.was, map-append (λ o. let q : ℕ × Team = (o, A) in q) p.before p.after, append_assoc) at r))
members_drawn (o ∷ os) (B ∷ ms) e =
    let r = members_drawn os ms (omega (arith, e)) in
    let p = placed_is o (second_team os ms) in
    let front : List (ℕ × Team) = map (λ o. (o, A)) (first_team os ms) in
    rw (p.is, map-append (λ o. let q : ℕ × Team = (o, B) in q) p.before (o ∷ p.after), ← append_assoc front (map (λ o. (o, B)) p.before) ((o, B) ∷ map (λ o. (o, B)) p.after))
    (drawn_insert (o, B) (front ++ map (λ o. (o, B)) p.before) (map (λ o. (o, B)) p.after) (zip os ms)
    (rw (p.was, map-append (λ o. let q : ℕ × Team = (o, B) in q) p.before p.after, ← append_assoc front (map (λ o. (o, B)) p.before) (map (λ o. (o, B)) p.after)) at r))

-- the place in the first list of each element of the second
abbrev pub drawn_from : {X : Type 0} (ps xs : List X) → Drawn ps xs → ℕ → ℕ
drawn_from ps [] h i = i
drawn_from ps (x ∷ xs) h zero = h.0
drawn_from ps (x ∷ xs) h (suc i) = skip h.0 (drawn_from (remove ps h.0) xs h.2 i)
