-- A queue with room for one letter is not defended for three processes: each start is in a trap.
use Rattle.std.proofs.Common.{◌≡◌, ◌≢◌, ℕ, zero, suc, ◌-◌, ◌<◌, ◌⊎◌, inl, inr, refl, sym, ap}
use Rattle.std.proofs.Common.{◌∙◌, subst, arith}
use Rattle.std.specs.Prelude.{slice_index}
use Rattle.std.proofs.lemmas.List.Elements.{All-get_or}
use Rattle.cn_table.specs.TypeTable.{IsClosed, transition}
use Rattle.cn_choice.specs.RawChoices.{IsRawChoice, RawChoice}
use Rattle.cn_unread.specs.Functions.{put}
use Rattle.cn_unread.proofs.Functions.{put-other, put-same}
use Rattle.cn_unread.specs.Defended.{IsDefendedFor, Position, Status, start}
use Rattle.cn_unread.specs.Defended.Status.{AheadInFirst, AheadInSecond, Poised}
use Rattle.cn_unread.specs.Examples.{queue_1}
use Rattle.cn_unread.specs.Traps.{CatchesAll, SomeMove}
use Rattle.cn_unread.proofs.Sides.{Sides, sides, third}
use Rattle.cn_unread.proofs.Traps.{not_defended}

abbrev next : ℕ → ℕ → ℕ
next o q = (transition queue_1 o q).1

abbrev response : ℕ → ℕ → ℕ
response o q = (transition queue_1 o q).0

-- The trap. Same: one state in both runs, and process j is alike. Wiped: an operation of process b in
-- the first run, or of a in the second, makes one state of them, and process c is alike. Full: the
-- runs hold different letters, the one of the second run put in by process y, and process z is alike;
-- it finds the queue full, or takes out the letter of the first run, and then y does in the first
-- run what it did in the second.
data Caught (x : Position) : Type 0 where
  Same : (j o : ℕ) → j < 3 → x.first ≡ x.second → x.status j ≡ Poised o → Caught x
  SameAhead : (j o r : ℕ) → j < 3 → x.first ≡ next o x.second → r ≡ response o x.second
      → x.status j ≡ AheadInFirst o r → Caught x
  WipedFirst : (b c o r m : ℕ) → b < 3 → c < 3 → c ≢ b → next o x.first ≡ x.second
      → x.status b ≡ AheadInSecond o r → x.status c ≡ Poised m → Caught x
  WipedSecond : (a c o r m : ℕ) → a < 3 → c < 3 → c ≢ a → next o x.second ≡ x.first
      → x.status a ≡ AheadInFirst o r → x.status c ≡ Poised m → Caught x
  Full : (y z e m : ℕ) → y < 3 → z < 3 → z ≢ y → e < 2 → m < 3 → x.first ≡ 2 - e
      → x.second ≡ suc e → x.status y ≡ AheadInSecond e 0 → x.status z ≡ Poised m → Caught x
  FullAhead : (y z e m : ℕ) → y < 3 → z < 3 → z ≢ y → e < 2 → m < 2 → x.first ≡ 2 - e
      → x.second ≡ suc e → x.status y ≡ AheadInSecond e 0 → x.status z ≡ AheadInFirst m 1
      → Caught x
  Taken : (y e : ℕ) → y < 3 → e < 2 → x.first ≡ 0 → x.second ≡ suc e
      → x.status y ≡ AheadInSecond e 0 → Caught x

-- ---- the table

far : {X : Type 0} (i : ℕ) → suc (suc i) < 2 → X
far i l = absurd (omega (arith, l))

-- to put in a letter where there is one
full_first : (m e : ℕ) → m < 2 → e < 2 → (next m (2 - e) ≡ 2 - e) × (response m (2 - e) ≡ 1)
full_first zero zero l k = (refl, refl)
full_first zero (suc zero) l k = (refl, refl)
full_first zero (suc (suc e)) l k = far e k
full_first (suc zero) zero l k = (refl, refl)
full_first (suc zero) (suc zero) l k = (refl, refl)
full_first (suc zero) (suc (suc e)) l k = far e k
full_first (suc (suc m)) e l k = far m l

pub full_second : (m e : ℕ) → m < 2 → e < 2 → (next m (suc e) ≡ suc e) × (response m (suc e) ≡ 1)
full_second zero zero l k = (refl, refl)
full_second zero (suc zero) l k = (refl, refl)
full_second zero (suc (suc e)) l k = far e k
full_second (suc zero) zero l k = (refl, refl)
full_second (suc zero) (suc zero) l k = (refl, refl)
full_second (suc zero) (suc (suc e)) l k = far e k
full_second (suc (suc m)) e l k = far m l

-- to put in a letter where there is none
put_in : (e : ℕ) → e < 2 → (next e 0 ≡ suc e) × (response e 0 ≡ 0)
put_in zero k = (refl, refl)
put_in (suc zero) k = (refl, refl)
put_in (suc (suc e)) k = far e k

-- to take out a letter
taken_out : (e : ℕ) → e < 2 → next 2 (2 - e) ≡ 0
taken_out zero k = refl
taken_out (suc zero) k = refl
taken_out (suc (suc e)) k = far e k

pub queue_closed : IsClosed queue_1
queue_closed zero zero l k = omega arith
queue_closed zero (suc zero) l k = omega arith
queue_closed zero (suc (suc zero)) l k = omega arith
queue_closed (suc zero) zero l k = omega arith
queue_closed (suc zero) (suc zero) l k = omega arith
queue_closed (suc zero) (suc (suc zero)) l k = omega arith
queue_closed (suc (suc zero)) zero l k = omega arith
queue_closed (suc (suc zero)) (suc zero) l k = omega arith
queue_closed (suc (suc zero)) (suc (suc zero)) l k = omega arith
queue_closed o (suc (suc (suc q))) l k = absurd (omega (arith, k))
queue_closed (suc (suc (suc o))) q l k = absurd (omega (arith, l))

-- ---- the moves

module _ (x : Position) where
  other : (j i : ℕ) (new s : Status) → i ≢ j → x.status i ≡ s → put x.status j new i ≡ s
  other j i new s d e = put-other x.status j new i d ∙ e

  by_full : (y z e m : ℕ) → y < 3 → z < 3 → z ≢ y → e < 2 → (m < 2) ⊎ (m ≡ 2) → x.first ≡ 2 - e
      → x.second ≡ suc e → x.status y ≡ AheadInSecond e 0 → x.status z ≡ Poised m
      → SomeMove queue_1 Caught x z (Poised m)
  by_full y z e m ly lz d le (inl few) f g u v =
      let full = full_first m e few le in
      inl (FullAhead y z e m ly lz d le few (ap (next m) f ∙ full.0) g
      (other z y _ _ (λ h. d (sym h)) u)
      (put-same x.status z _ ∙ ap (AheadInFirst m) (ap (response m) f ∙ full.1)))
  by_full y z e m ly lz d le (inr two) f g u v =
      inl (Taken y e ly le (ap (λ (o : ℕ). next o x.first) two ∙ (ap (next 2) f ∙ taken_out e le)) g
      (other z y _ _ (λ h. d (sym h)) u))

  few_or_two : (m : ℕ) → m < 3 → (m < 2) ⊎ (m ≡ 2)
  few_or_two zero l = inl (omega arith)
  few_or_two (suc zero) l = inl (omega arith)
  few_or_two (suc (suc zero)) l = inr refl
  few_or_two (suc (suc (suc m))) l = absurd (omega (arith, l))

  trap : Caught x → (j : ℕ) × (j < 3) × SomeMove queue_1 Caught x j (x.status j)
  trap (Same j o l e s) = (
    j,
    l,
    subst (SomeMove queue_1 Caught x j) (sym s) (inl (SameAhead j o (response o x.first) l
        (ap (next o) e) (ap (response o) e) (put-same x.status j _))),
  )
  trap (SameAhead j o r l e f s) = (
    j,
    l,
    subst (SomeMove queue_1 Caught x j) (sym s) (
      λ g m k. Same j m l e (put-same x.status j _),
      λ n. absurd (n (sym f)),
    ),
  )
  trap (WipedFirst b c o r m lb lc d e s u) = (
    b,
    lb,
    subst (SomeMove queue_1 Caught x b) (sym s) (
      λ g k l. Same c m lc e (other b c _ _ d u),
      λ n. Same c m lc e (other b c _ _ d u),
    ),
  )
  trap (WipedSecond a c o r m la lc d e s u) = (
    a,
    la,
    subst (SomeMove queue_1 Caught x a) (sym s) (
      λ g k l. Same c m lc (sym e) (other a c _ _ d u),
      λ n. Same c m lc (sym e) (other a c _ _ d u),
    ),
  )
  trap (Full y z e m ly lz d le lm f g u v) = (
    z,
    lz,
    subst (SomeMove queue_1 Caught x z) (sym v)
        (by_full y z e m ly lz d le (few_or_two m lm) f g u v),
  )
  trap (FullAhead y z e m ly lz d le lm f g u v) =
      let full = full_second m e lm le in (
        z,
        lz,
        subst (SomeMove queue_1 Caught x z) (sym v) (
          λ same k l. Full y z e k ly lz d le l f (ap (next m) g ∙ full.0)
              (other z y _ _ (λ h. d (sym h)) u) (put-same x.status z _),
          λ n. absurd (n (ap (response m) g ∙ full.1)),
        ),
      )
  trap (Taken y e ly le f g u) =
      let in_it = put_in e le in (
        y,
        ly,
        subst (SomeMove queue_1 Caught x y) (sym u) (
          λ same k l. Same y k ly (ap (next e) f ∙ (in_it.0 ∙ sym g)) (put-same x.status y _),
          λ n. absurd (n (ap (response e) f ∙ in_it.1)),
        ),
      )

-- ---- the starts

-- what two operations on one state leave
data Begins (q o p : ℕ) : Type 0 where
  Equal : next o q ≡ next p q → Begins q o p
  Over : next p (next o q) ≡ next p q → Begins q o p
  Under : next o (next p q) ≡ next o q → Begins q o p
  Letters : p < 2 → next o q ≡ 2 - p → next p q ≡ suc p → response p q ≡ 0 → Begins q o p

past : {X : Type 0} (i : ℕ) → suc (suc (suc i)) < 3 → X
past i l = absurd (omega (arith, l))

begins : (q o p : ℕ) → q < 3 → o < 3 → p < 3 → Begins q o p
begins zero zero zero l k m = Equal refl
begins zero zero (suc zero) l k m = Letters (omega arith) refl refl refl
begins zero zero (suc (suc zero)) l k m = Over refl
begins zero (suc zero) zero l k m = Letters (omega arith) refl refl refl
begins zero (suc zero) (suc zero) l k m = Equal refl
begins zero (suc zero) (suc (suc zero)) l k m = Over refl
begins zero (suc (suc zero)) zero l k m = Under refl
begins zero (suc (suc zero)) (suc zero) l k m = Under refl
begins zero (suc (suc zero)) (suc (suc zero)) l k m = Equal refl
begins (suc zero) zero zero l k m = Equal refl
begins (suc zero) zero (suc zero) l k m = Equal refl
begins (suc zero) zero (suc (suc zero)) l k m = Over refl
begins (suc zero) (suc zero) zero l k m = Equal refl
begins (suc zero) (suc zero) (suc zero) l k m = Equal refl
begins (suc zero) (suc zero) (suc (suc zero)) l k m = Over refl
begins (suc zero) (suc (suc zero)) zero l k m = Under refl
begins (suc zero) (suc (suc zero)) (suc zero) l k m = Under refl
begins (suc zero) (suc (suc zero)) (suc (suc zero)) l k m = Equal refl
begins (suc (suc zero)) zero zero l k m = Equal refl
begins (suc (suc zero)) zero (suc zero) l k m = Equal refl
begins (suc (suc zero)) zero (suc (suc zero)) l k m = Over refl
begins (suc (suc zero)) (suc zero) zero l k m = Equal refl
begins (suc (suc zero)) (suc zero) (suc zero) l k m = Equal refl
begins (suc (suc zero)) (suc zero) (suc (suc zero)) l k m = Over refl
begins (suc (suc zero)) (suc (suc zero)) zero l k m = Under refl
begins (suc (suc zero)) (suc (suc zero)) (suc zero) l k m = Under refl
begins (suc (suc zero)) (suc (suc zero)) (suc (suc zero)) l k m = Equal refl
begins q o (suc (suc (suc p))) l k m = past p m
begins q (suc (suc (suc o))) p l k m = past o k
begins (suc (suc (suc q))) o p l k m = past q l

module _ (c : RawChoice) (is : IsRawChoice queue_1 3 c) where
  abbrev s : Sides 3 c
  s = sides queue_1 3 c is

  abbrev op : ℕ → ℕ
  op i = slice_index c.operations i

  known : (i : ℕ) → i < 3 → op i < 3
  known i l = All-get_or (λ o. o < 3) c.operations i 0
      (subst (λ (k : ℕ). i < k) (sym is.one_operation_each) l) is.operations_known

  abbrev z : ℕ
  z = (third s.a s.b).0

  lz : z < 3
  lz = (third s.a s.b).1

  not_a : z ≢ s.a
  not_a e = (third s.a s.b).2 (sym e)

  not_b : z ≢ s.b
  not_b e = (third s.a s.b).3 (sym e)

  abbrev x : Position
  x = start queue_1 c s.a s.b

  -- the statuses without those of the processes that have moved
  abbrev unmoved : ℕ → Status
  unmoved i = Poised (op i)

  abbrev ahead : Status
  ahead = AheadInFirst (op s.a) (response (op s.a) c.state)

  poised : x.status z ≡ Poised (op z)
  poised = put-other (put unmoved s.a ahead) s.b _ z not_b ∙ put-other unmoved s.a ahead z not_a

  first_ahead : x.status s.a ≡ ahead
  first_ahead = put-other (put unmoved s.a ahead) s.b _ s.a s.apart ∙ put-same unmoved s.a ahead

  second_ahead : x.status s.b ≡ AheadInSecond (op s.b) (response (op s.b) c.state)
  second_ahead = put-same (put unmoved s.a ahead) s.b _

  by_start : Begins c.state (op s.a) (op s.b) → Caught x
  by_start (Equal e) = Same z (op z) lz e poised
  by_start (Over e) = WipedFirst s.b z (op s.b) _ (op z) s.b_known lz not_b e second_ahead poised
  by_start (Under e) = WipedSecond s.a z (op s.a) _ (op z) s.a_known lz not_a e first_ahead poised
  by_start (Letters l e f g) = Full s.b z (op s.b) (op z) s.b_known lz not_b l (known z lz) e f
      (second_ahead ∙ ap (AheadInSecond (op s.b)) g) poised

catches : CatchesAll queue_1 3 Caught
catches c is =
    let s = sides queue_1 3 c is in (
      s.a,
      s.b,
      s.a_known,
      s.b_known,
      s.a_mark,
      s.b_mark,
      by_start c is (begins c.state (op c is s.a) (op c is s.b) is.state_known
          (known c is s.a s.a_known) (known c is s.b s.b_known)),
    )

pub queue_undefended : IsDefendedFor queue_1 3 → ⊥
queue_undefended = not_defended queue_1 3 Caught trap catches
