-- A stock of more operations than there are states does not split where no operations last.
use Rattle.std.proofs.Common.{◌≡◌, ◌≢◌, ℕ, zero, suc, ◌+◌, ◌<◌, ◌≤◌, ◌⊎◌, inl, inr, List, [], ◌∷◌, ◌++◌, length, get_or, refl, sym, ap, ◌∙◌, subst, arith, Bool, true, false, not, true≢false}
use Rattle.std.specs.Prelude.{replicate}
use Rattle.cn_table.specs.TypeTable.{IsClosed, TypeTable, transition}
use Rattle.cn_table.specs.Run.{state_after}
use Rattle.cn_outcomes.proofs.LastProcess.{state_last}
use Rattle.cn_stocks.specs.Splits.{StockSplits}
use Rattle.cn_stocks.specs.Words.{IsKnown, Shows, times}
use Rattle.cn_stocks.proofs.Times.{one, one_at, one_else, same_or, times_at, times_cons, times_last, times_none}
use Rattle.cn_stocks.specs.Lasting.{NoneLast, ManyFirst, SingleFirst}
use Rattle.cn_stocks.proofs.LastingLemmas.Counts.{less_or_not}
use Rattle.cn_stocks.proofs.LastingLemmas.Forms.{state_join}
use Rattle.cn_stocks.proofs.LastingLemmas.Pigeons.{twins}

-- ---- lists of different states

abbrev In : ℕ → List ℕ → Type 0
In q [] = ⊥
In q (x ∷ xs) = (x ≡ q) ⊎ In q xs

abbrev Different : List ℕ → Type 0
Different [] = Unit {0}
Different (x ∷ xs) = (¬ In x xs) × Different xs

in_at : (xs : List ℕ) (i : ℕ) → i < length xs → In (get_or xs i 0) xs
in_at [] i l = absurd (omega arith)
in_at (x ∷ xs) zero l = inl refl
in_at (x ∷ xs) (suc i) l = inr (in_at xs i (omega arith))

different_at : (xs : List ℕ) → Different xs → (i j : ℕ) → i < j → j < length xs → get_or xs i 0 ≡ get_or xs j 0 → ⊥
different_at [] d i j l u e = absurd (omega arith)
different_at (x ∷ xs) d zero zero l u e = absurd (omega (arith, l))
different_at (x ∷ xs) d zero (suc j) l u e = d.0 (subst (λ (q : ℕ). In q xs) (sym e) (in_at xs j (omega arith)))
different_at (x ∷ xs) d (suc i) zero l u e = absurd (omega (arith, l))
different_at (x ∷ xs) d (suc i) (suc j) l u e = different_at xs d.1 i j (omega (arith, l)) (omega arith) e

few : (s : ℕ) (xs : List ℕ) → Different xs → ((q : ℕ) → In q xs → q < s) → length xs ≤ s
few s xs d below = elim (less_or_not s (length xs)) [
  | inl l ↦ (
      let w = twins s (λ i. get_or xs i 0) (λ i u. below (get_or xs i 0) (in_at xs i (omega (arith, u, l)))) in
      absurd (different_at xs d w.first w.second w.before (omega (arith, w.inside, l)) w.same)
      )
  | inr h ↦ h
]

-- a list without one of its operations
take_one : (z : ℕ) (xs : List ℕ) → 1 ≤ times z xs → (rest : List ℕ) × ((o : ℕ) → times o xs ≡ one o z + times o rest) × (length xs ≡ suc (length rest))
take_one z [] l = absurd (omega (arith, l, times_none z))
take_one z (x ∷ xs) l = elim (same_or x z) [
  | inl e ↦ (xs, λ o. times_cons o x xs ∙ ap (λ (y : ℕ). one o y + times o xs) e, omega arith)
  | inr n ↦ (
      let r = take_one z xs (omega (arith, l, times_cons z x xs, one_else z x n)) in
      (x ∷ r.0, λ o. omega (arith, times_cons o x xs, times_cons o x r.0, r.1 o), omega (arith, r.2))
      )
]

one_le : (z : ℕ) (xs : List ℕ) → 1 ≤ times z xs → (o : ℕ) → one o z ≤ times o xs
one_le z xs l o = let r = take_one z xs l in omega (arith, r.1 o)

bool_case : (a b : Bool) → (a ≡ b) ⊎ (a ≡ not b)
bool_case true true = inl refl
bool_case true false = inr refl
bool_case false true = inr refl
bool_case false false = inl refl

not_same : (b : Bool) → b ≡ not b → ⊥
not_same true e = true≢false e
not_same false e = true≢false (sym e)

-- a word that begins in the part leads to the state, and leaves the pool and the further operations in the stock
record Reached (t : TypeTable) (start : ℕ) (stock : List ℕ) (chosen : ℕ → Bool) (part : Bool) (further pool : List ℕ) (state : ℕ) : Type 0 where
  first : ℕ
  rest : List ℕ
  part_is : chosen first ≡ part
  within : (o : ℕ) → times o (first ∷ rest) + (times o pool + times o further) ≤ times o stock
  ends : state_after t start (first ∷ rest) ≡ state

module _ (t : TypeTable) (closed : IsClosed t) (start : ℕ) (start_known : start < length t.states) (stock : List ℕ) (known : IsKnown (length t.operations) stock)
    (s : StockSplits t start stock) where
  abbrev next : ℕ → ℕ → ℕ
  next z q = (transition t z q).1

  abbrev To : Bool → List ℕ → List ℕ → ℕ → Type 0
  To part further pool q = Reached t start stock s.chosen part further pool q

  after : (part : Bool) (further pool : List ℕ) (q z : ℕ) (less more : List ℕ) → To part further pool q
      → ((o : ℕ) → one o z + (times o less + times o more) ≤ times o pool + times o further) → To part more less (next z q)
  after part further pool q z less more h room = record {
    first = h.first;
    rest = h.rest ++ z ∷ [];
    part_is = h.part_is;
    within = λ o. omega (arith, h.within o, room o, times_last o z (h.first ∷ h.rest));
    ends = state_last t start (h.first ∷ h.rest) z ∙ ap (λ (x : ℕ). (transition t z x).1) h.ends;
  }

  weaken : (part : Bool) (further pool less more : List ℕ) (q : ℕ) → To part further pool q → ((o : ℕ) → times o less + times o more ≤ times o pool + times o further) → To part more less q
  weaken part further pool less more q h room = record {
    first = h.first;
    rest = h.rest;
    part_is = h.part_is;
    within = λ o. omega (arith, h.within o, room o);
    ends = h.ends;
  }

  begin : (z : ℕ) (further pool : List ℕ) → ((o : ℕ) → one o z + (times o pool + times o further) ≤ times o stock) → To (s.chosen z) further pool (next z start)
  begin z further pool room = record {
    first = z;
    rest = [];
    part_is = refl;
    within = λ o. omega (arith, room o, times_cons o z [], times_none o);
    ends = refl;
  }

  shown_by : (part : Bool) (further pool : List ℕ) (q z : ℕ) (h : To part further pool q) → 1 ≤ times z pool → Shows t start stock h.first z (transition t z q).0 (transition t z q).1
  shown_by part further pool q z h l = record {
    before = h.first ∷ h.rest;
    after = [];
    within = λ o. omega (arith, h.within o, one_le z pool l o, times_last o z (h.first ∷ h.rest));
    begins = refl;
    answer = ap (λ (x : ℕ). (transition t z x).0) h.ends;
    ends = state_last t start (h.first ∷ h.rest) z ∙ ap (λ (x : ℕ). (transition t z x).1) h.ends;
  }

  shown_alone : (z : ℕ) → 1 ≤ times z stock → Shows t start stock z z (transition t z start).0 (transition t z start).1
  shown_alone z l = record {
    before = [];
    after = [];
    within = λ o. omega (arith, one_le z stock l o, times_cons o z [], times_none o);
    begins = refl;
    answer = refl;
    ends = refl;
  }

  apart_at : (b : Bool) (f g o r q : ℕ) → s.chosen f ≡ b → s.chosen g ≡ not b → Shows t start stock f o r q → Shows t start stock g o r q → ⊥
  apart_at true f g o r q x y h k = s.apart f g x y (o, r, q, h, k)
  apart_at false f g o r q x y h k = s.apart g f y x (o, r, q, k, h)

  -- no state is reached from both parts while an operation is left to be asked
  collide : (b : Bool) (further more pool : List ℕ) (q z : ℕ) → To b further pool q → To (not b) more pool q → 1 ≤ times z pool → ⊥
  collide b further more pool q z h k l =
      apart_at b h.first k.first z (transition t z q).0 (transition t z q).1 h.part_is k.part_is (shown_by b further pool q z h l) (shown_by (not b) more pool q z k l)

  -- nor does the start state come back
  no_return : (b : Bool) (further pool : List ℕ) (z : ℕ) → s.chosen z ≡ b → To (not b) further pool start → 1 ≤ times z pool → ⊥
  no_return b further pool z c k l =
      apart_at b z k.first z (transition t z start).0 (transition t z start).1 c k.part_is (shown_alone z (omega (arith, k.within z, l))) (shown_by (not b) further pool start z k l)

  known_in : (z : ℕ) (pool : List ℕ) → ((o : ℕ) → times o pool ≤ times o stock) → 1 ≤ times z pool → z < length t.operations
  known_in z pool room l = known z (omega (arith, room z, l))

  -- ---- growing

  record Grown (least : ℕ) (further : Bool → List ℕ) (pool states : List ℕ) : Type 0 where
    different : Different states
    below : (q : ℕ) → In q states → q < length t.states
    own : (q : ℕ) → In q states → (b : Bool) × Reached t start stock s.chosen b (further b) pool q
    room : (b : Bool) (o : ℕ) → times o pool + times o (further b) ≤ times o stock
    enough : least ≤ length pool + length states

  record Closed (free : ℕ → Type 0) (pool states : List ℕ) : Type 0 where
    moves : (z q : ℕ) → 1 ≤ times z pool → In q states → ¬ In (transition t z q).1 states → ⊥
    begins : (z : ℕ) → 1 ≤ times z pool → ¬ In (transition t z start).1 states → ⊥
    frees : (q : ℕ) → free q → ¬ In q states → ⊥

  module _ (least : ℕ) (further : Bool → List ℕ) (free : ℕ → Type 0) (whole : List ℕ) (free_known : (q : ℕ) → free q → q < length t.states)
      (free_own : (q : ℕ) → free q → (pool : List ℕ) → ((o : ℕ) → times o pool ≤ times o whole) → (b : Bool) × Reached t start stock s.chosen b (further b) pool q) where
    add : (pool less states : List ℕ) (q : ℕ) → Grown least further pool states → ¬ In q states → q < length t.states → ((b : Bool) × Reached t start stock s.chosen b (further b) less q)
        → ((o : ℕ) → times o less ≤ times o pool) → length pool ≤ length less + 1 → Grown least further less (q ∷ states)
    add pool less states q g new l own fewer long = record {
      different = (new, g.different);
      below = λ x i. elim i [ inl e ↦ subst (λ (y : ℕ). y < length t.states) e l | inr j ↦ g.below x j ];
      own = λ x i. elim i [
        | inl e ↦ subst (λ (y : ℕ). (b : Bool) × Reached t start stock s.chosen b (further b) less y) e own
        | inr j ↦ (let h = g.own x j in (h.0, weaken h.0 (further h.0) pool less (further h.0) x h.1 (λ o. omega (arith, fewer o))))
      ];
      room = λ b o. omega (arith, g.room b o, fewer o);
      enough = omega (arith, g.enough, long);
    }

    grow : (fuel : ℕ) (pool states : List ℕ) → length t.states < fuel + length states → Grown least further pool states → ((o : ℕ) → times o pool ≤ times o whole)
        → ((less more : List ℕ) → Grown least further less more → ((o : ℕ) → times o less ≤ times o pool) → ((q : ℕ) → In q states → In q more) → Closed free less more → ⊥) → ⊥
    grow zero pool states l g up k = absurd (omega (arith, l, few (length t.states) states g.different g.below))
    grow (suc fuel) pool states l g up k = k pool states g (λ o. omega arith) (λ q i. i) (record {
      moves = λ z q some i new.
          let r = take_one z pool some in
          let fewer : (o : ℕ) → times o r.0 ≤ times o pool = λ o. omega (arith, r.1 o) in
          let h = g.own q i in
          let z_known = known_in z pool (λ o. omega (arith, g.room h.0 o)) some in
          grow fuel r.0 (next z q ∷ states) (omega (arith, l))
          (add pool r.0 states (next z q) g new (closed z q z_known (g.below q i))
          (h.0, after h.0 (further h.0) pool q z r.0 (further h.0) h.1 (λ o. omega (arith, r.1 o))) fewer (omega (arith, r.2)))
          (λ o. omega (arith, fewer o, up o)) (λ less more g2 f inc c. k less more g2 (λ o. omega (arith, f o, fewer o)) (λ x j. inc x (inr j)) c);
      begins = λ z some new.
          let r = take_one z pool some in
          let fewer : (o : ℕ) → times o r.0 ≤ times o pool = λ o. omega (arith, r.1 o) in
          let b = s.chosen z in
          let z_known = known_in z pool (λ o. omega (arith, g.room b o)) some in
          grow fuel r.0 (next z start ∷ states) (omega (arith, l))
          (add pool r.0 states (next z start) g new (closed z start z_known start_known) (b, begin z (further b) r.0 (λ o. omega (arith, r.1 o, g.room b o))) fewer (omega (arith, r.2)))
          (λ o. omega (arith, fewer o, up o)) (λ less more g2 f inc c. k less more g2 (λ o. omega (arith, f o, fewer o)) (λ x j. inc x (inr j)) c);
      frees = λ q f new.
          grow fuel pool (q ∷ states) (omega (arith, l)) (add pool pool states q g new (free_known q f) (free_own q f pool up) (λ o. omega arith) (omega arith)) up
          (λ less more g2 h inc c. k less more g2 h (λ x j. inc x (inr j)) c);
    })

  -- ---- what is grown and closed stays in its part

  module _ (least : ℕ) (further : Bool → List ℕ) (free : ℕ → Type 0) (pool states : List ℕ) (g : Grown least further pool states) (c : Closed free pool states) (z other : ℕ)
      (two : (o : ℕ) → one o z + one o other ≤ times o pool) where
    abbrev Held : Bool → ℕ → Type 0
    Held b q = In q states × Reached t start stock s.chosen b (further b) pool q

    some_z : 1 ≤ times z pool
    some_z = omega (arith, two z, one_at z)

    rest : (rest : List ℕ) × ((o : ℕ) → times o pool ≡ one o z + times o rest) × (length pool ≡ suc (length rest))
    rest = take_one z pool some_z

    other_left : 1 ≤ times other rest.0
    other_left = omega (arith, two other, one_at other, rest.1 other)

    -- the word that begins in b and leaves all but z shows whose the state is
    same_part : (b : Bool) (q : ℕ) → In q states → To b (further b) rest.0 q → ¬ Held b q → ⊥
    same_part b q i h deny = by_owner (g.own q i).0 (g.own q i).1 (bool_case (g.own q i).0 b)
      where
        by_owner : (a : Bool) → Reached t start stock s.chosen a (further a) pool q → (a ≡ b) ⊎ (a ≡ not b) → ⊥
        by_owner a w (inl e) = deny (i, subst (λ (x : Bool). Reached t start stock s.chosen x (further x) pool q) e w)
        by_owner a w (inr e) =
            let v : To (not b) (further (not b)) pool q = subst (λ (x : Bool). Reached t start stock s.chosen x (further x) pool q) e w in
            collide b (further b) (further (not b)) rest.0 q other h (weaken (not b) (further (not b)) pool rest.0 (further (not b)) q v (λ o. omega (arith, rest.1 o))) other_left

    stay : (b : Bool) (q : ℕ) → Held b q → ¬ Held b (next z q) → ⊥
    stay b q h deny = c.moves z q some_z h.0 (λ i. same_part b (next z q) i (after b (further b) pool q z rest.0 (further b) h.1 (λ o. omega (arith, rest.1 o))) deny)

    stay_first : ¬ Held (s.chosen z) (next z start) → ⊥
    stay_first deny = c.begins z some_z (λ i. same_part (s.chosen z) (next z start) i (begin z (further (s.chosen z)) rest.0 (λ o. omega (arith, rest.1 o, g.room (s.chosen z) o))) deny)

    stays : (b : Bool) (k q : ℕ) → Held b q → ¬ Held b (state_after t q (replicate k z)) → ⊥
    stays b zero q h deny = deny h
    stays b (suc k) q h deny = stay b q h (λ h2. stays b k (next z q) h2 deny)

  -- ---- an operation of each part is put aside

  abbrev star : Bool → ℕ
  star true = s.inside.0
  star false = s.outside.0

  star_in : (b : Bool) → 1 ≤ times (star b) stock
  star_in true = s.inside.1
  star_in false = s.outside.1

  star_is : (b : Bool) → s.chosen (star b) ≡ b
  star_is true = s.inside.2
  star_is false = s.outside.2

  apart_ops : (z : ℕ) (b : Bool) → s.chosen z ≡ b → z ≢ star (not b)
  apart_ops z b e same = not_same b (sym e ∙ (ap s.chosen same ∙ star_is (not b)))

  abbrev aside : Bool → List ℕ
  aside b = star (not b) ∷ []

  abbrev nothing : Bool → List ℕ
  nothing b = []

  -- once these are closed, the operation that was put aside leads on
  abbrev Led : List ℕ → List ℕ → ℕ → Type 0
  Led pool states q = (b : Bool) × (r : ℕ) × In r states × Reached t start stock s.chosen b (aside b) pool r × (next (star (not b)) r ≡ q)

  module _ (pool1 states1 : List ℕ) (g1 : Grown (length t.states + 1) aside pool1 states1) (c1 : Closed (λ _. ⊥) pool1 states1)
      (has : (b : Bool) → In (next (star b) start) states1) (all : NoneLast t) where
    led_known : (q : ℕ) → Led pool1 states1 q → q < length t.states
    led_known q f = subst (λ (x : ℕ). x < length t.states) f.4 (closed (star (not f.0)) f.1 (known (star (not f.0)) (star_in (not f.0))) (g1.below f.1 f.2))

    led_to : (b : Bool) (r : ℕ) (pool : List ℕ) → ((o : ℕ) → times o pool ≤ times o pool1) → Reached t start stock s.chosen b (aside b) pool1 r → To b [] pool (next (star (not b)) r)
    led_to b r pool up h = after b (aside b) pool1 r (star (not b)) pool [] h (λ o. omega (arith, up o, times_cons o (star (not b)) [], times_none o))

    led_own : (q : ℕ) → Led pool1 states1 q → (pool : List ℕ) → ((o : ℕ) → times o pool ≤ times o pool1) → (b : Bool) × Reached t start stock s.chosen b (nothing b) pool q
    led_own q f pool up = (f.0, subst (λ (x : ℕ). Reached t start stock s.chosen f.0 [] pool x) f.4 (led_to f.0 f.1 pool up f.3))

    module _ (least : ℕ) (pool2 states2 : List ℕ) (g2 : Grown least nothing pool2 states2) (c2 : Closed (Led pool1 states1) pool2 states2)
        (fewer : (o : ℕ) → times o pool2 ≤ times o pool1) (inc : (q : ℕ) → In q states1 → In q states2)
        (z other : ℕ) (two : (o : ℕ) → one o z + one o other ≤ times o pool2) where
      two1 : (o : ℕ) → one o z + one o other ≤ times o pool1
      two1 o = omega (arith, two o, fewer o)

      some : 1 ≤ times z pool2
      some = omega (arith, two z, one_at z)

      z_known : z < length t.operations
      z_known = known_in z pool2 (λ o. omega (arith, g2.room true o)) some

      abbrev part : Bool
      part = s.chosen z

      abbrev single : ℕ
      single = star (not part)

      abbrev Held1 : ℕ → Type 0
      Held1 q = In q states1 × Reached t start stock s.chosen part (aside part) pool1 q

      abbrev Held2 : Bool → ℕ → Type 0
      Held2 b q = In q states2 × Reached t start stock s.chosen b [] pool2 q

      root : Held2 (not part) (next single start)
      root = (
        inc (next single start) (has (not part)),
        subst (λ (b : Bool). Reached t start stock s.chosen b [] pool2 (next single start)) (star_is (not part))
            (begin single [] pool2 (λ o. omega (arith, g1.room part o, fewer o, times_cons o single [], times_none o))),
      )

      once_held : (q : ℕ) → SingleFirst t start z single q → ¬ Held2 (not part) q → ⊥
      once_held q h deny = stays least nothing (Led pool1 states1) pool2 states2 g2 c2 z other two (not part) h.0 (next single start) root (λ k. deny (subst (Held2 (not part)) h.1 k))

      alone_held : (i : ℕ) → ¬ Held1 (state_after t start (z ∷ replicate i z)) → ⊥
      alone_held i deny = stay_first (length t.states + 1) aside (λ _. ⊥) pool1 states1 g1 c1 z other two1
          (λ h. stays (length t.states + 1) aside (λ _. ⊥) pool1 states1 g1 c1 z other two1 part i (next z start) h deny)

      meets_alone : (q k : ℕ) → state_after t start (replicate k z) ≡ q → To (not part) [] pool2 q → ⊥
      meets_alone q zero e h = no_return part [] pool2 z refl (subst (λ (x : ℕ). Reached t start stock s.chosen (not part) [] pool2 x) (sym e) h) some
      meets_alone q (suc i) e h = alone_held i (λ a.
          let w : To part [] pool2 (state_after t start (z ∷ replicate i z)) =
          weaken part (aside part) pool1 pool2 [] (state_after t start (z ∷ replicate i z)) a.1 (λ o. omega (arith, fewer o, times_none o)) in
          collide part [] [] pool2 q z (subst (λ (x : ℕ). Reached t start stock s.chosen part [] pool2 x) e w) h some)

      meets_mixed : (q i k : ℕ) → state_after t start (z ∷ replicate i z ++ single ∷ replicate k z) ≡ q → To (not part) [] pool2 q → ⊥
      meets_mixed q i k e h = alone_held i (λ a.
          let r = state_after t start (z ∷ replicate i z) in
          c2.frees (next single r) (part, r, a.0, a.1, refl) (λ inside.
          stays least nothing (Led pool1 states1) pool2 states2 g2 c2 z other two part k (next single r) (inside, led_to part r pool2 fewer a.1) (λ m.
          let ends : state_after t (next single r) (replicate k z) ≡ q = sym (state_join t start (z ∷ replicate i z) (single ∷ replicate k z)) ∙ e in
          collide part [] [] pool2 q z (subst (λ (x : ℕ). Reached t start stock s.chosen part [] pool2 x) ends m.1) h some)))

      ended : ⊥
      ended =
          let m = all start start_known z z_known single (known single (star_in (not part))) (apart_ops z part refl) in
          once_held m.0 m.2 (λ h. by_first m.0 m.1 h.1)
        where
          by_first : (q : ℕ) → ManyFirst t start z single q → To (not part) [] pool2 q → ⊥
          by_first q (inl r) h = meets_alone q r.0 r.1 h
          by_first q (inr r) h = meets_mixed q r.0 r.1 r.2 h

    two_of : (pool : List ℕ) → 2 ≤ length pool → (z : ℕ) × (other : ℕ) × ((o : ℕ) → one o z + one o other ≤ times o pool)
    two_of [] l = absurd (omega arith)
    two_of (x ∷ []) l = absurd (omega arith)
    two_of (x ∷ y ∷ rest) l = (x, y, λ o. omega (arith, times_cons o x (y ∷ rest), times_cons o y rest))

    -- the start state is not among these
    fresh : ¬ In start states1
    fresh i =
        let h = g1.own start i in
        let put = star (not h.0) in
        let returned : To h.0 [] (put ∷ []) start = weaken h.0 (aside h.0) pool1 (put ∷ []) [] start h.1 (λ o. omega (arith, times_none o)) in
        back h.0 put (star_is (not h.0)) returned (times_at put [])
      where
        back : (b : Bool) (put : ℕ) → s.chosen put ≡ not b → To b [] (put ∷ []) start → 1 ≤ times put (put ∷ []) → ⊥
        back true put e h l = no_return false [] (put ∷ []) put e h l
        back false put e h l = no_return true [] (put ∷ []) put e h l

    two_left : 2 ≤ length pool1
    two_left = omega (
      arith,
      g1.enough,
      few (length t.states) (start ∷ states1) (fresh, g1.different) (λ q i. elim i [ inl e ↦ subst (λ (x : ℕ). x < length t.states) e start_known | inr j ↦ g1.below q j ]),
    )

    grown_on : (q : ℕ) → Led pool1 states1 q → ¬ In q states1 → ⊥
    grown_on q f new =
        grow (length t.states + 2) nothing (Led pool1 states1) pool1 led_known led_own (suc (length t.states)) pool1 (q ∷ states1) (omega arith)
        (record {
          different = (new, g1.different);
          below = λ x i. elim i [ inl e ↦ subst (λ (y : ℕ). y < length t.states) e (led_known q f) | inr j ↦ g1.below x j ];
          own = λ x i. elim i [
            | inl e ↦ subst (λ (y : ℕ). (b : Bool) × Reached t start stock s.chosen b (nothing b) pool1 y) e (led_own q f pool1 (λ o. omega arith))
            | inr j ↦ (let h = g1.own x j in (h.0, weaken h.0 (aside h.0) pool1 pool1 [] x h.1 (λ o. omega (arith, times_none o))))
          ];
          room = λ b o. omega (arith, g1.room b o, times_none o);
          enough = omega (arith, g1.enough);
        })
        (λ o. omega arith)
        (λ pool2 states2 g2 fewer inc c2.
        let w = two_of pool2 (omega (arith, g2.enough, few (length t.states) states2 g2.different g2.below)) in
        ended (length t.states + 2) pool2 states2 g2 c2 fewer (λ x i. inc x (inr i)) w.0 w.1 w.2)

    second : ⊥
    second =
        let w = two_of pool1 two_left in
        ended (length t.states + 1) pool1 states1
        (record {
          different = g1.different;
          below = g1.below;
          own = λ q i. let h = g1.own q i in (h.0, weaken h.0 (aside h.0) pool1 pool1 [] q h.1 (λ o. omega (arith, times_none o)));
          room = λ b o. omega (arith, g1.room b o, times_none o);
          enough = g1.enough;
        })
        (record { moves = c1.moves; begins = c1.begins; frees = grown_on }) (λ o. omega arith) (λ q i. i) w.0 w.1 w.2

  module _ (some : 3 ≤ length stock) (long : length t.states + 1 ≤ length stock) (all : NoneLast t) where
    first_left : (rest : List ℕ) × ((o : ℕ) → times o stock ≡ one o (star true) + times o rest) × (length stock ≡ suc (length rest))
    first_left = take_one (star true) stock (star_in true)

    second_in : 1 ≤ times (star false) first_left.0
    second_in = omega (arith, star_in false, first_left.1 (star false), one_else (star false) (star true) (apart_ops (star true) true (star_is true)))

    both_left : (rest : List ℕ) × ((o : ℕ) → times o first_left.0 ≡ one o (star false) + times o rest) × (length first_left.0 ≡ suc (length rest))
    both_left = take_one (star false) first_left.0 second_in

    room_at : (b : Bool) (o : ℕ) → one o (star b) + (times o both_left.0 + times o (aside b)) ≤ times o stock
    room_at true o = omega (arith, first_left.1 o, both_left.1 o, times_cons o (star false) [], times_none o)
    room_at false o = omega (arith, first_left.1 o, both_left.1 o, times_cons o (star true) [], times_none o)

    root_at : (b : Bool) → Reached t start stock s.chosen b (aside b) both_left.0 (next (star b) start)
    root_at b = subst (λ (a : Bool). Reached t start stock s.chosen a (aside b) both_left.0 (next (star b) start)) (star_is b) (begin (star b) (aside b) both_left.0 (room_at b))

    some_left : (pool : List ℕ) → 1 ≤ length pool → (z : ℕ) × (1 ≤ times z pool)
    some_left [] l = absurd (omega arith)
    some_left (x ∷ xs) l = (x, times_at x xs)

    begun : Grown (length t.states + 1) aside both_left.0 (next (star true) start ∷ next (star false) start ∷ [])
    begun = record {
      different = (
        λ i. elim i [
          | inl e ↦ (
              let z = some_left both_left.0 (omega (arith, some, first_left.2, both_left.2)) in
              collide true (aside true) (aside false) both_left.0 (next (star true) start) z.0 (root_at true)
              (subst (λ (q : ℕ). Reached t start stock s.chosen false (aside false) both_left.0 q) e (root_at false)) z.1
              )
          | inr a ↦ a
        ],
        (λ i. i, tt),
      );
      below = λ q i. elim i [
        | inl e ↦ subst (λ (x : ℕ). x < length t.states) e (below_at true)
        | inr j ↦ elim j [ inl e ↦ subst (λ (x : ℕ). x < length t.states) e (below_at false) | inr a ↦ absurd a ]
      ];
      own = λ q i. elim i [
        | inl e ↦ (true, subst (λ (x : ℕ). Reached t start stock s.chosen true (aside true) both_left.0 x) e (root_at true))
        | inr j ↦ elim j [ inl e ↦ (false, subst (λ (x : ℕ). Reached t start stock s.chosen false (aside false) both_left.0 x) e (root_at false)) | inr a ↦ absurd a ]
      ];
      room = λ b o. omega (arith, room_at b o);
      enough = omega (arith, long, first_left.2, both_left.2);
    }
      where
        below_at : (b : Bool) → next (star b) start < length t.states
        below_at b = closed (star b) start (known (star b) (star_in b)) start_known

    pub too_long : ⊥
    too_long =
        grow (length t.states + 1) aside (λ _. ⊥) both_left.0 (λ q f. absurd f) (λ q f pool up. absurd f) (length t.states) both_left.0
        (next (star true) start ∷ next (star false) start ∷ []) (omega arith) begun (λ o. omega arith)
        (λ pool1 states1 g1 fewer inc c1. second pool1 states1 g1 c1 (has_root states1 inc) all)
      where
        has_root : (states1 : List ℕ) → ((q : ℕ) → In q (next (star true) start ∷ next (star false) start ∷ []) → In q states1) → (b : Bool) → In (next (star b) start) states1
        has_root states1 inc true = inc (next (star true) start) (inl refl)
        has_root states1 inc false = inc (next (star false) start) (inr (inl refl))
