-- Lines, one after another.
use Rattle.std.proofs.Common.{◌≡◌, ℕ, zero, suc, ◌+◌, List, ◌++◌, append-nil, append_assoc, ap, arith, flat_map, sym, ◌∙◌}
use Rattle.std.specs.List.{range_with_len}

-- one line more
pub lines_more : (line : ℕ → List ℕ) (text before now : List ℕ) (n : ℕ) → before ≡ text ++ flat_map line (range_with_len 0 n) → now ≡ before ++ line n
    → now ≡ text ++ flat_map line (range_with_len 0 (n + 1))
lines_more line text before now n e f = f
    ∙ (ap (λ t. t ++ line n) e ∙ (append_assoc text (flat_map line (range_with_len 0 n)) (line n) ∙ ap (λ t. text ++ t) (sym (one_more (more 0 n n (omega arith))))))
  where
    one_more : flat_map line (range_with_len 0 (suc n)) ≡ flat_map line (range_with_len 0 n) ++ line n → flat_map line (range_with_len 0 (n + 1)) ≡ flat_map line (range_with_len 0 n) ++ line n
    one_more h = let same : n + 1 ≡ suc n = omega arith in rw same h

    more : (a n j : ℕ) → a + n ≡ j → flat_map line (range_with_len a (suc n)) ≡ flat_map line (range_with_len a n) ++ line j
    more a zero j e = let same : a ≡ j = omega (arith, e) in rw same (append-nil (line j))
    more a (suc n) j e =
        ap (λ t. line a ++ t) (more (a + 1) n j (omega (arith, e))) ∙ sym (append_assoc (line a) (flat_map line (range_with_len (a + 1) n)) (line j))
