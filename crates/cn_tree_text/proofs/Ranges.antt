-- Lines for the numbers from one on.
use Rattle.std.proofs.Common.{◌≡◌, ℕ, zero, suc, ◌+◌, ◌-◌, ◌≤◌, List, ◌++◌, append-nil, append_assoc, ap, arith, flat_map, sym, ◌∙◌}
use Rattle.std.specs.List.{range_with_len}

more_from : (line : ℕ → List ℕ) (a n j : ℕ) → a + n ≡ j → flat_map line (range_with_len a (suc n)) ≡ flat_map line (range_with_len a n) ++ line j
more_from line a zero j e = let same : a ≡ j = omega (arith, e) in rw same (append-nil (line j))
more_from line a (suc n) j e =
    ap (λ t. line a ++ t) (more_from line (a + 1) n j (omega (arith, e))) ∙ sym (append_assoc (line a) (flat_map line (range_with_len (a + 1) n)) (line j))

-- the line of the next number
pub range_more : (line : ℕ → List ℕ) (text before now : List ℕ) (a p : ℕ) → a ≤ p → before ≡ text ++ flat_map line (range_with_len a (p - a)) → now ≡ before ++ line p
    → now ≡ text ++ flat_map line (range_with_len a (p + 1 - a))
range_more line text before now a p h e f =
    let next : p + 1 - a ≡ suc (p - a) = omega (arith, h) in
    f
    ∙ (ap (λ t. t ++ line p) e
    ∙ (append_assoc text (flat_map line (range_with_len a (p - a))) (line p)
    ∙ ap (λ t. text ++ t) (sym (rw next (more_from line a (p - a) p (omega (arith, h)))))))
