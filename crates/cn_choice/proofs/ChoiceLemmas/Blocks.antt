-- One block after the other, and the choices of all of them.
use Rattle.std.proofs.Common.{◌≡◌, ℕ, suc, ◌+◌, ◌-◌, ◌*◌, ◌/◌, ◌<◌, ◌≤◌, inl, List, [], ◌∷◌, ◌++◌, length, map, refl, sym, ap, ◌∙◌, subst, arith, Some, None, replicate, All, append_assoc}
use Rattle.std.specs.List.{flat_map, range_with_len}
use Rattle.std.proofs.Math.Path.{fun_ext}
use Rattle.std.proofs.lemmas.Grind.{flat_map-append}
use Rattle.std.proofs.lemmas.List.Elements.{All-from_recursion, recursion_from_All}
use Rattle.std.proofs.lemmas.List.Folds.{flat_map-map}
use Rattle.std.proofs.lemmas.List.{length-replicate}
use Rattle.cn_choice.specs.Blocks.{Block, IsBlock, blocks_from, blocks_with_size, blocks_with_state, canonical_blocks, choices_of_block}
use Rattle.cn_choice.specs.Canonical.{Choice, canonical_choices, with_size, with_state}
use Rattle.cn_choice.specs.Rising.{next_rising, rising_after, rising_lists}
use Rattle.cn_choice.proofs.ChoiceLemmas.ListedChoices.{IsRising, above_zero, after_from, rising_from, to_rising}
use Rattle.cn_choice.proofs.ListLemmas.Members.{IsIn, IsIn-flat_map, IsIn-flat_map_any, IsIn-flat_map_from, IsIn-map, IsIn-map_from}
use Rattle.cn_choice.proofs.ListLemmas.NonDecreasingLists.{is_non_decreasing, never_falls}
use Rattle.cn_choice.proofs.ListLemmas.NextLists.{from_next, next_long, rising_after-next, rising_first}
use Rattle.cn_table.proofs.Lists.{range_first, range_none}

abbrev pub block_of : ℕ → List ℕ → ℕ → Block
block_of q a n = record { state = q; a = a; n = n }

flat_map_flat : {X Y Z : Type 0} (g : Y → List Z) (h : X → List Y) (xs : List X) → flat_map g (flat_map h xs) ≡ flat_map (λ x. flat_map g (h x)) xs
flat_map_flat g h [] = refl
flat_map_flat g h (x ∷ xs) = flat_map-append g (h x) (flat_map h xs) ∙ ap (λ l. flat_map g (h x) ++ l) (flat_map_flat g h xs)

-- the choices of all blocks are all choices
pub blocks_cover : (states m n : ℕ) → flat_map (choices_of_block m) (canonical_blocks states m n) ≡ canonical_choices states m n
unfolding canonical_blocks canonical_choices
blocks_cover states m n = flat_map_flat (choices_of_block m) (blocks_with_state m n) (range_with_len 0 states) ∙ ap (λ f. flat_map f (range_with_len 0 states)) (fun_ext with_states)
  where
    with_sizes : (q k : ℕ) → flat_map (choices_of_block m) (blocks_with_size m n q k) ≡ with_size m n q k
    with_sizes q k = flat_map-map (choices_of_block m) (λ a. record { state = q; a = a; n = n }) (rising_lists 0 m k)

    with_states : (q : ℕ) → flat_map (choices_of_block m) (blocks_with_state m n q) ≡ with_state m n q
    with_states q = flat_map_flat (choices_of_block m) (blocks_with_size m n q) (range_with_len 1 (n / 2)) ∙ ap (λ f. flat_map f (range_with_len 1 (n / 2))) (fun_ext (with_sizes q))

-- each is a block
pub blocks_are : (states m n : ℕ) (k : Block) → n ≤ 8 → IsIn k (canonical_blocks states m n) → IsBlock states m k × (k.n ≡ n)
unfolding canonical_blocks
blocks_are states m n k few i =
    let q = IsIn-flat_map_from (blocks_with_state m n) k 0 states i in
    let s = IsIn-flat_map_from (blocks_with_size m n q.0) k 1 (n / 2) q.3 in
    let a = IsIn-map_from (λ a. let b : Block = record { state = q.0; a = a; n = n } in b) k (rising_lists 0 m s.0) s.3 in
    let r = rising_from s.0 0 m a.0 a.2 in
    let b : Block = record { state = q.0; a = a.0; n = n } in
    let is : IsBlock states m b = record {
      known_state = omega (arith, q.2);
      known = All-from_recursion _ _ r.below;
      someone_in_a = omega (arith, r.long, s.1);
      at_most_half = (let size : s.0 < 1 + n / 2 = s.2 in omega (arith, r.long, size));
      in_order = is_non_decreasing a.0 r.in_order;
      few = few;
    } in
    subst (λ (b : Block). IsBlock states m b × (b.n ≡ n)) {x = b} a.1 (is, refl)

-- each such block is listed
pub to_blocks : (states m n : ℕ) (k : Block) → IsBlock states m k → k.n ≡ n → IsIn k (canonical_blocks states m n)
unfolding canonical_blocks
to_blocks states m n k is same =
    let half : length k.a + length k.a ≤ n = omega (arith, is.at_most_half, same) in
    let rising : IsRising 0 m (length k.a) k.a = record { long = refl; above = above_zero k.a; below = recursion_from_All (λ o. o < m) k.a is.known; in_order = never_falls k.a is.in_order } in
    let here : IsIn (block_of k.state k.a n) (blocks_with_size m n k.state (length k.a)) =
    IsIn-map (λ a. block_of k.state a n) k.a (rising_lists 0 m (length k.a)) (to_rising (length k.a) 0 m k.a rising) in
    IsIn-flat_map (blocks_with_state m n) k k.state 0 states (omega arith) (omega (arith, is.known_state))
    (IsIn-flat_map (blocks_with_size m n k.state) k (length k.a) 1 (n / 2) is.someone_in_a (omega (arith, half))
    (subst (λ (z : ℕ). IsIn (block_of k.state k.a z) (blocks_with_size m n k.state (length k.a))) (sym same) here))

-- the next list makes a block too
pub next_is_block : (states m n q : ℕ) (a new : List ℕ) → IsBlock states m (block_of q a n) → next_rising m a ≡ Some new → All (λ o. o < m) new
    → IsBlock states m (block_of q new n)
next_is_block states m n q a new is e known =
    let below = recursion_from_All (λ o. o < m) a is.known in
    let rising : IsRising 0 m (length a) a = record { long = refl; above = above_zero a; below = below; in_order = never_falls a is.in_order } in
    let listed : rising_after m a ≡ new ∷ rising_after m new = rising_after-next m a below ∙ ap (from_next m) e in
    let long = next_long m a new e in
    record {
      known_state = is.known_state;
      known = known;
      someone_in_a = omega (arith, long, is.someone_in_a);
      at_most_half = omega (arith, long, is.at_most_half);
      in_order = is_non_decreasing new (after_from 0 m a new rising (subst (IsIn new) (sym listed) (inl refl))).0.in_order;
      few = is.few;
    }

-- the choices of a block are listed
pub blocks_listed : (states m n : ℕ) (k : Block) (c : Choice) → IsIn k (canonical_blocks states m n) → IsIn c (choices_of_block m k) → IsIn c (canonical_choices states m n)
blocks_listed states m n k c i j = subst (IsIn c) (blocks_cover states m n) (IsIn-flat_map_any (choices_of_block m) c k (canonical_blocks states m n) i j)

-- the blocks after all first lists of this length
abbrev later_blocks : ℕ → ℕ → ℕ → ℕ → List ℕ → List Block
later_blocks states m n q a =
    flat_map (blocks_with_size m n q) (range_with_len (length a + 1) (n / 2 - length a))
    ++ flat_map (blocks_with_state m n) (range_with_len (q + 1) (states - (q + 1)))

pub after_list : (states m n q : ℕ) (a new : List ℕ) → All (λ o. o < m) a → next_rising m a ≡ Some new → length new ≡ length a
    → blocks_from states m (block_of q a n) ≡ block_of q a n ∷ blocks_from states m (block_of q new n)
unfolding blocks_from
after_list states m n q a new known e same = rw (rising_after-next m a (recursion_from_All (λ o. o < m) a known), e, same) refl

last_list : (states m n q : ℕ) (a : List ℕ) → All (λ o. o < m) a → next_rising m a ≡ None → blocks_from states m (block_of q a n) ≡ block_of q a n ∷ later_blocks states m n q a
unfolding blocks_from
last_list states m n q a known e = rw (rising_after-next m a (recursion_from_All (λ o. o < m) a known), e) refl

begin_size : (states m n q k j : ℕ) → 0 < m → n / 2 ≡ k + j
    → flat_map (blocks_with_size m n q) (range_with_len k (suc j)) ++ flat_map (blocks_with_state m n) (range_with_len (q + 1) (states - (q + 1))) ≡ blocks_from states m (block_of q (replicate k 0) n)
unfolding blocks_from
begin_size states m n q k j l e =
    let left : n / 2 - k ≡ j = omega (arith, e) in
    rw (length-replicate {A = ℕ} k 0, left, rising_first k 0 m l) (append_assoc (map (λ a. block_of q a n) (replicate k 0 ∷ rising_after m (replicate k 0))) _ _)

begin_state : (states m n q : ℕ) → 0 < m → 2 ≤ n
    → blocks_with_state m n q ++ flat_map (blocks_with_state m n) (range_with_len (q + 1) (states - (q + 1))) ≡ blocks_from states m (block_of q (replicate 1 0) n)
begin_state states m n q l two =
    let j : ℕ = n / 2 - 1 in
    let e : n / 2 ≡ 1 + j = omega arith in
    let f : n / 2 ≡ suc j = omega arith in
    ap (λ (k : ℕ). flat_map (blocks_with_size m n q) (range_with_len 1 k) ++ flat_map (blocks_with_state m n) (range_with_len (q + 1) (states - (q + 1)))) f ∙ begin_size states m n q 1 j l e

pub after_size : (states m n q : ℕ) (a : List ℕ) → 0 < m → All (λ o. o < m) a → next_rising m a ≡ None → 2 * (length a + 1) ≤ n
    → blocks_from states m (block_of q a n) ≡ block_of q a n ∷ blocks_from states m (block_of q (replicate (length a + 1) 0) n)
after_size states m n q a l known e room =
    let j : ℕ = n / 2 - (length a + 1) in
    let f : n / 2 - length a ≡ suc j = omega arith in
    last_list states m n q a known e ∙ ap (λ (ks : List Block). block_of q a n ∷ ks) (rw f (begin_size states m n q (length a + 1) j l (omega arith)))

pub after_state : (states m n q : ℕ) (a : List ℕ) → 0 < m → 2 ≤ n → All (λ o. o < m) a → next_rising m a ≡ None → n < 2 * (length a + 1) → q + 1 < states
    → blocks_from states m (block_of q a n) ≡ block_of q a n ∷ blocks_from states m (block_of (q + 1) (replicate 1 0) n)
after_state states m n q a l two known e none less =
    let f : n / 2 - length a ≡ 0 = omega arith in
    last_list states m n q a known e ∙ ap (λ (ks : List Block). block_of q a n ∷ ks) (rw (f, range_first (q + 1) states less) (begin_state states m n (q + 1) l two))

pub after_all : (states m n q : ℕ) (a : List ℕ) → All (λ o. o < m) a → next_rising m a ≡ None → n < 2 * (length a + 1) → states ≤ q + 1 → blocks_from states m (block_of q a n) ≡ block_of q a n ∷ []
after_all states m n q a known e none last =
    let f : n / 2 - length a ≡ 0 = omega arith in
    last_list states m n q a known e ∙ ap (λ (ks : List Block). block_of q a n ∷ ks) (rw (f, range_none (q + 1) states last) refl)

pub all_blocks : (states m n : ℕ) → 0 < m → 2 ≤ n → 0 < states → canonical_blocks states m n ≡ blocks_from states m (block_of 0 (replicate 1 0) n)
unfolding canonical_blocks
all_blocks states m n l two some =
    let f : states ≡ suc (states - 1) = omega arith in
    ap (λ (s : ℕ). flat_map (blocks_with_state m n) (range_with_len 0 s)) f ∙ begin_state states m n 0 l two
