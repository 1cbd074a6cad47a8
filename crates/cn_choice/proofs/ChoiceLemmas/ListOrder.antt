-- The canonical choices ascend, and so do the blocks.
use Rattle.std.proofs.Common.{◌≡◌, ℕ, zero, suc, ◌+◌, ◌-◌, ◌/◌, ◌<◌, inl, inr, List, [], ◌∷◌, length, map, refl, sym, ap, ◌∙◌, subst, arith, Bool, true, false, cond, ltb}
use Rattle.std.specs.List.{flat_map, range_with_len}
use Rattle.cn_choice.specs.Blocks.{Block, BlockComesBefore, blocks_with_size, blocks_with_state, canonical_blocks}
use Rattle.cn_choice.specs.Canonical.{Choice, ChoiceComesBefore, canonical_choices, second_lists, with_first, with_size, with_state}
use Rattle.cn_choice.specs.Orders.{ComesBefore}
use Rattle.cn_choice.specs.Rising.{rising_after, rising_lists}
use Rattle.cn_choice.proofs.ListLemmas.Arrangements.{Precedes, Precedes-head, Precedes-tail}
use Rattle.cn_choice.proofs.ChoiceLemmas.ListedChoices.{IsRising, after_from, rising_from}
use Rattle.cn_choice.proofs.ListLemmas.Members.{IsIn, IsIn-flat_map_any_from, IsIn-flat_map_from, IsIn-map_from, Pairs, Pairs-append, Pairs-flat_map, Pairs-map, Pairs-weaker, each_at, each_from}

Pairs-flat_map_list : {X Y : Type 0} (Q : X → X → Type 0) (R : Y → Y → Type 0) (f : X → List Y) (xs : List X) → Pairs Q xs
    → ((x : X) → IsIn x xs → Pairs R (f x))
    → ((x y : X) (u v : Y) → IsIn x xs → IsIn y xs → Q x y → IsIn u (f x) → IsIn v (f y) → R u v)
    → Pairs R (flat_map f xs)
Pairs-flat_map_list Q R f [] q p h = tt
Pairs-flat_map_list Q R f (x ∷ xs) q p h =
    Pairs-append R (f x) (flat_map f xs) (p x (inl refl)) (Pairs-flat_map_list Q R f xs q.1 (λ y i. p y (inr i)) (λ y z u v i j. h y z u v (inr i) (inr j)))
    (λ u v i j. let r = IsIn-flat_map_any_from f v xs j in h x r.0 u v (inl refl) (inr r.1) (each_at (Q x) xs r.0 q.0 r.1) i r.2)

rising_lists_rise : (k low m : ℕ) → Pairs Precedes (rising_lists low m k)
rising_lists_rise zero low m = (tt, tt)
rising_lists_rise (suc k) low m =
    Pairs-flat_map Precedes (λ d. map (λ ds. d ∷ ds) (rising_lists d m k)) low (m - low)
    (λ d l u. Pairs-map (λ ds. d ∷ ds) Precedes Precedes (rising_lists d m k) (Precedes-tail d) (rising_lists_rise k d m))
    (λ d e xs ys l g u i j.
    let s = IsIn-map_from (λ ds. d ∷ ds) xs (rising_lists d m k) i in
    let r = IsIn-map_from (λ ds. e ∷ ds) ys (rising_lists e m k) j in
    subst (λ (zs : List ℕ). Precedes zs ys) s.1 (subst (λ (zs : List ℕ). Precedes (d ∷ s.0) zs) r.1 (Precedes-head d e s.0 r.0 g)))

rising_after_rises : (m : ℕ) (xs : List ℕ) → Pairs Precedes (rising_after m xs)
rising_after_rises m [] = tt
rising_after_rises m (x ∷ xs) =
    let later : List (List ℕ) = flat_map (λ d. map (λ ds. d ∷ ds) (rising_lists d m (length xs))) (range_with_len (x + 1) (m - (x + 1))) in
    Pairs-append Precedes (map (λ ds. x ∷ ds) (rising_after m xs)) later
    (Pairs-map (λ ds. x ∷ ds) Precedes Precedes (rising_after m xs) (Precedes-tail x) (rising_after_rises m xs))
    (Pairs-flat_map Precedes (λ d. map (λ ds. d ∷ ds) (rising_lists d m (length xs))) (x + 1) (m - (x + 1))
    (λ d l u. Pairs-map (λ ds. d ∷ ds) Precedes Precedes (rising_lists d m (length xs)) (Precedes-tail d) (rising_lists_rise (length xs) d m))
    (λ d e us vs l g u i j. by_heads d e (length xs) us vs g i j))
    (λ us vs i j.
    let s = IsIn-map_from (λ ds. x ∷ ds) us (rising_after m xs) i in
    let r = IsIn-flat_map_from (λ d. map (λ ds. d ∷ ds) (rising_lists d m (length xs))) vs (x + 1) (m - (x + 1)) j in
    let q = IsIn-map_from (λ ds. r.0 ∷ ds) vs (rising_lists r.0 m (length xs)) r.3 in
    subst (λ (zs : List ℕ). Precedes zs vs) s.1 (subst (λ (zs : List ℕ). Precedes (x ∷ s.0) zs) q.1 (Precedes-head x r.0 s.0 q.0 (omega (arith, r.1)))))
  where
    by_heads : (d e k : ℕ) (us vs : List ℕ) → d < e → IsIn us (map (λ ds. d ∷ ds) (rising_lists d m k)) → IsIn vs (map (λ ds. e ∷ ds) (rising_lists e m k)) → Precedes us vs
    by_heads d e k us vs g i j =
        let s = IsIn-map_from (λ ds. d ∷ ds) us (rising_lists d m k) i in
        let r = IsIn-map_from (λ ds. e ∷ ds) vs (rising_lists e m k) j in
        subst (λ (zs : List ℕ). Precedes zs vs) s.1 (subst (λ (zs : List ℕ). Precedes (d ∷ s.0) zs) r.1 (Precedes-head d e s.0 r.0 g))

rising_lists_ascend : (k m : ℕ) → Pairs ComesBefore (rising_lists 0 m k)
rising_lists_ascend k m = Pairs-weaker Precedes ComesBefore (rising_lists 0 m k) (λ x y i j p. inr ((rising_from k 0 m x i).long ∙ sym (rising_from k 0 m y j).long, p)) (rising_lists_rise k 0 m)

second_lists_ascend : (m n : ℕ) (a : List ℕ) → IsRising 0 m (length a) a → Pairs ComesBefore (second_lists m n a)
second_lists_ascend m n a r = by_test (ltb (length a + length a) n)
  where
    by_test : (b : Bool) → Pairs ComesBefore (cond b (rising_lists 0 m (n - length a)) (a ∷ rising_after m a))
    by_test true = rising_lists_ascend (n - length a) m
    by_test false = (
      each_from (ComesBefore a) (rising_after m a) (λ y i. let f = after_from 0 m a y r i in inr (sym f.0.long, f.1)),
      Pairs-weaker Precedes ComesBefore (rising_after m a) (λ x y i j p. inr ((after_from 0 m a x r i).0.long ∙ sym (after_from 0 m a y r j).0.long, p)) (rising_after_rises m a),
    )

-- the state and the first list of a choice in this part of the list
pub in_with_first : (m n q : ℕ) (a : List ℕ) (c : Choice) → IsIn c (with_first m n q a) → (c.state ≡ q) × (c.a ≡ a)
in_with_first m n q a c h =
    let r = IsIn-map_from (λ b. let d : Choice = record { state = q; a = a; b = b } in d) c (second_lists m n a) h in
    (sym (ap (λ (d : Choice). d.state) r.1), sym (ap (λ (d : Choice). d.a) r.1))

in_with_size : (m n q k : ℕ) (c : Choice) → IsIn c (with_size m n q k) → (c.state ≡ q) × (length c.a ≡ k)
in_with_size m n q k c h =
    let r = IsIn-flat_map_any_from (with_first m n q) c (rising_lists 0 m k) h in
    let f = in_with_first m n q r.0 c r.2 in
    (f.0, ap length f.1 ∙ (rising_from k 0 m r.0 r.1).long)

in_with_state : (m n q : ℕ) (c : Choice) → IsIn c (with_state m n q) → c.state ≡ q
in_with_state m n q c h = let r = IsIn-flat_map_from (with_size m n q) c 1 (n / 2) h in (in_with_size m n q r.0 c r.3).0

pub with_first_ascends : (m n q : ℕ) (a : List ℕ) → IsRising 0 m (length a) a → Pairs ChoiceComesBefore (with_first m n q a)
with_first_ascends m n q a r =
    Pairs-map (λ b. let d : Choice = record { state = q; a = a; b = b } in d) ComesBefore ChoiceComesBefore (second_lists m n a) (λ x y p. inr (refl, inr (refl, p))) (second_lists_ascend m n a r)

with_size_ascends : (m n q k : ℕ) → Pairs ChoiceComesBefore (with_size m n q k)
with_size_ascends m n q k =
    Pairs-flat_map_list ComesBefore ChoiceComesBefore (with_first m n q) (rising_lists 0 m k) (rising_lists_ascend k m)
    (λ a i. let r = rising_from k 0 m a i in with_first_ascends m n q a (subst (λ (z : ℕ). IsRising 0 m z a) (sym r.long) r))
    (λ x y u v i j p k l.
    let f = in_with_first m n q x u k in
    let g = in_with_first m n q y v l in
    inr (f.0 ∙ sym g.0, inl (rw (f.1, g.1) p)))

with_state_ascends : (m n q : ℕ) → Pairs ChoiceComesBefore (with_state m n q)
with_state_ascends m n q =
    Pairs-flat_map ChoiceComesBefore (with_size m n q) 1 (n / 2) (λ k l u. with_size_ascends m n q k)
    (λ d e u v l g h i j.
    let r = in_with_size m n q d u i in
    let s = in_with_size m n q e v j in
    inr (r.0 ∙ sym s.0, inl (inl (omega (arith, r.1, s.1, g)))))

pub canonical_ascend : (states m n : ℕ) → Pairs ChoiceComesBefore (canonical_choices states m n)
unfolding canonical_choices
canonical_ascend states m n =
    Pairs-flat_map ChoiceComesBefore (with_state m n) 0 states (λ q l u. with_state_ascends m n q)
    (λ d e u v l g h i j. inl (omega (arith, in_with_state m n d u i, in_with_state m n e v j, g)))

-- ---- the same for blocks

-- the state and the first list of a block in this part of the list
in_blocks_with_size : (m n q k : ℕ) (b : Block) → IsIn b (blocks_with_size m n q k) → (b.state ≡ q) × (length b.a ≡ k)
in_blocks_with_size m n q k b h =
    let r = IsIn-map_from (λ a. let d : Block = record { state = q; a = a; n = n } in d) b (rising_lists 0 m k) h in
    (sym (ap (λ (d : Block). d.state) r.1), sym (ap (λ (d : Block). length d.a) r.1) ∙ (rising_from k 0 m r.0 r.2).long)

in_blocks_with_state : (m n q : ℕ) (b : Block) → IsIn b (blocks_with_state m n q) → b.state ≡ q
in_blocks_with_state m n q b h = let r = IsIn-flat_map_from (blocks_with_size m n q) b 1 (n / 2) h in (in_blocks_with_size m n q r.0 b r.3).0

blocks_with_size_ascend : (m n q k : ℕ) → Pairs BlockComesBefore (blocks_with_size m n q k)
blocks_with_size_ascend m n q k =
    Pairs-map (λ a. let d : Block = record { state = q; a = a; n = n } in d) ComesBefore BlockComesBefore (rising_lists 0 m k) (λ x y p. inr (refl, p)) (rising_lists_ascend k m)

blocks_with_state_ascend : (m n q : ℕ) → Pairs BlockComesBefore (blocks_with_state m n q)
blocks_with_state_ascend m n q =
    Pairs-flat_map BlockComesBefore (blocks_with_size m n q) 1 (n / 2) (λ k l u. blocks_with_size_ascend m n q k)
    (λ d e u v l g h i j.
    let r = in_blocks_with_size m n q d u i in
    let s = in_blocks_with_size m n q e v j in
    inr (r.0 ∙ sym s.0, inl (omega (arith, r.1, s.1, g))))

pub blocks_ascend : (states m n : ℕ) → Pairs BlockComesBefore (canonical_blocks states m n)
unfolding canonical_blocks
blocks_ascend states m n =
    Pairs-flat_map BlockComesBefore (blocks_with_state m n) 0 states (λ q l u. blocks_with_state_ascend m n q)
    (λ d e u v l g h i j. inl (omega (arith, in_blocks_with_state m n d u i, in_blocks_with_state m n e v j, g)))
