-- A walk over the live choices of one block.
use Rattle.std.proofs.Common.{◌≡◌, ◌∙◌, ◌<◌, ◌+◌, ◌-◌, ℕ, List, [], ◌∷◌, length, map, refl, sym, ap, arith, subst, Bool, true, false, cond, ltb, get_or, replicate, Some, None, All}
use Rattle.std.specs.List.{AllByRecursion, filter, list_all}
use Rattle.std.proofs.lemmas.List.Elements.{recursion_from_All}
use Rattle.cn_table.specs.TypeTable.{TypeTable}
use Rattle.cn_choice.specs.Blocks.{Block, choices_of_block}
use Rattle.cn_choice.specs.Canonical.{Choice, second_lists}
use Rattle.cn_choice.specs.Live.{all_move, is_live}
use Rattle.cn_choice.specs.LiveLeft.{AreMoving, block_after, first_choice, first_second, live_after, live_from}
use Rattle.cn_choice.specs.Rising.{next_rising, rising_after, rising_lists}
use Rattle.cn_choice.proofs.ListLemmas.NextLists.{rising_after-next, rising_first}

abbrev pub choice_of : ℕ → List ℕ → List ℕ → Choice
choice_of q a b = record { state = q; a = a; b = b }

-- the second lists begin with the first one
second_first : (m n : ℕ) (a : List ℕ) → 0 < m → second_lists m n a ≡ first_second n a ∷ rising_after m (first_second n a)
second_first m n a l = by_test (ltb (length a + length a) n)
  where
    by_test : (b : Bool) → cond b (rising_lists 0 m (n - length a)) (a ∷ rising_after m a) ≡ cond b (replicate (n - length a) 0) a ∷ rising_after m (cond b (replicate (n - length a) 0) a)
    by_test true = rising_first (n - length a) 0 m l
    by_test false = refl

-- the choices of a block begin with the first one that has its state and first list
pub block_begins : (m : ℕ) (k : Block) → 0 < m → choices_of_block m k ≡ first_choice k.n k.state k.a ∷ block_after m (first_choice k.n k.state k.a)
block_begins m k l = rw (second_first m k.n k.a l) refl

-- ---- the choices behind one of a block

after_next : (m : ℕ) (c : Choice) (b : List ℕ) → All (λ o. o < m) c.b → next_rising m c.b ≡ Some b → block_after m c ≡ choice_of c.state c.a b ∷ block_after m (choice_of c.state c.a b)
after_next m c b known e = rw (rising_after-next m c.b (recursion_from_All (λ o. o < m) c.b known), e) refl

after_last : (m : ℕ) (c : Choice) → All (λ o. o < m) c.b → next_rising m c.b ≡ None → block_after m c ≡ []
after_last m c known e = rw (rising_after-next m c.b (recursion_from_All (λ o. o < m) c.b known), e) refl

pub fewer_left : (m : ℕ) (c : Choice) (b : List ℕ) → All (λ o. o < m) c.b → next_rising m c.b ≡ Some b → length (block_after m (choice_of c.state c.a b)) < length (block_after m c)
fewer_left m c b known e = omega (arith, ap (λ (cs : List Choice). length cs) (after_next m c b known e))

-- ---- those of them that are live

pub live_next : (t : TypeTable) (m : ℕ) (c : Choice) (b : List ℕ) → m ≡ length t.operations → All (λ o. o < m) c.b → next_rising m c.b ≡ Some b
    → live_after t c ≡ live_from t true (choice_of c.state c.a b)
live_next t m c b same known e =
    ap (filter (is_live t)) (ap (λ (k : ℕ). block_after k c) (sym same) ∙ (after_next m c b known e ∙ ap (λ (k : ℕ). choice_of c.state c.a b ∷ block_after k (choice_of c.state c.a b)) same))

pub none_live_after : (t : TypeTable) (m : ℕ) (c : Choice) → m ≡ length t.operations → All (λ o. o < m) c.b → next_rising m c.b ≡ None → live_after t c ≡ []
none_live_after t m c same known e = ap (filter (is_live t)) (ap (λ (k : ℕ). block_after k c) (sym same) ∙ after_last m c known e)

-- a choice that is not live
pub passed_over : (t : TypeTable) (c : Choice) → is_live t c ≡ false → live_from t true c ≡ live_after t c
passed_over t c e = rw e refl

-- one that is live
pub stopped_at : (t : TypeTable) (c : Choice) → is_live t c ≡ true → live_from t true c ≡ c ∷ live_after t c
stopped_at t c e = rw e refl

-- ---- the marks of the operations that lead away

marked_each : (t : TypeTable) (q : ℕ) (marks : List Bool) (os : List ℕ) → AreMoving t q marks → AllByRecursion (λ o. o < length t.operations) os
    → list_all (λ o. get_or marks o false) os ≡ all_move t q os
marked_each t q marks [] h known = refl
marked_each t q marks (o ∷ os) h known = rw (h o known.0, marked_each t q marks os h known.1) refl

pub marked_moves : (t : TypeTable) (q : ℕ) (marks : List Bool) (os : List ℕ) → AreMoving t q marks → All (λ o. o < length t.operations) os
    → list_all (λ o. get_or marks o false) os ≡ all_move t q os
marked_moves t q marks os h known = marked_each t q marks os h (recursion_from_All (λ o. o < length t.operations) os known)

-- where those of team A lead away, the marks tell whether a choice of the block is live
pub marked_live : (t : TypeTable) (m : ℕ) (marks : List Bool) (old : Choice) (q : ℕ) (a b : List ℕ) → m ≡ length t.operations → q ≡ old.state → a ≡ old.a
    → AreMoving t old.state marks → all_move t old.state old.a ≡ true → All (λ o. o < m) b → is_live t (choice_of q a b) ≡ list_all (λ o. get_or marks o false) b
marked_live t m marks old q a b number same_q same_a h moves known =
    let below : All (λ o. o < length t.operations) b = subst (λ (k : ℕ). All (λ o. o < k) b) number known in
    rw (same_q, same_a, moves) (sym (marked_moves t old.state marks b h below))

-- ---- from the first choice of a block on

each_kept : (t : TypeTable) (q : ℕ) (a : List ℕ) (bs : List (List ℕ)) → all_move t q a ≡ false → filter (is_live t) (map (choice_of q a) bs) ≡ []
each_kept t q a [] e = refl
each_kept t q a (b ∷ bs) e = rw e (each_kept t q a bs e)

-- where an operation of team A keeps the start state, no choice is live
pub none_from : (t : TypeTable) (c : Choice) → all_move t c.state c.a ≡ false → live_from t true c ≡ []
none_from t c e = each_kept t c.state c.a (c.b ∷ rising_after (length t.operations) c.b) e

pub b_keeps : (t : TypeTable) (c : Choice) → all_move t c.state c.a ≡ true → all_move t c.state c.b ≡ false → is_live t c ≡ false
b_keeps t c e f = rw (e, f) refl

pub both_move : (t : TypeTable) (c : Choice) → all_move t c.state c.a ≡ true → all_move t c.state c.b ≡ true → is_live t c ≡ true
both_move t c e f = rw (e, f) refl
