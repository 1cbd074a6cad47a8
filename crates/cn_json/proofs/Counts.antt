-- How many numbers of a range are so.
use Rattle.std.proofs.Common.{◌≡◌, ℕ, ◌+◌, ◌-◌, ◌≤◌, Bool, true, false, cond, ap, arith, count_by, map, sym, ◌∙◌}
use Rattle.std.specs.List.{range_with_len, sum_by}
use Rattle.std.proofs.lemmas.List.{map-id}
use Rattle.std.proofs.lemmas.List.FromFn.{length-range_with_len, sum_by-map-range_with_len_more}
use Rattle.std.proofs.lemmas.List.Sums.{count_by-le-length}

abbrev as_one : Bool → ℕ
as_one b = cond b 1 0

-- for one number more
count_more : (f : ℕ → Bool) (a p : ℕ) → a ≤ p → count_by f (range_with_len a (p + 1 - a)) ≡ count_by f (range_with_len a (p - a)) + as_one (f p)
count_more f a p h =
    let next : p + 1 - a ≡ p - a + 1 = omega (arith, h) in
    let g : ℕ → ℕ = λ x. as_one (f x) in
    let more = sum_by-map-range_with_len_more g (λ (x : ℕ). x) a (p - a) p (omega (arith, h)) in
    ap (λ n. sum_by g (range_with_len a n)) next
    ∙ (ap (sum_by g) (sym (map-id (range_with_len a (p - a + 1))))
    ∙ (more ∙ ap (λ xs. sum_by g xs + as_one (f p)) (map-id (range_with_len a (p - a)))))

-- for a number that is so, and for one that is not
pub count_here : (f : ℕ → Bool) (a p size : ℕ) → a ≤ p → f p ≡ true → size ≡ count_by f (range_with_len a (p - a)) → size + 1 ≡ count_by f (range_with_len a (p + 1 - a))
count_here f a p size h here so_far = omega (arith, count_more f a p h, ap as_one here, so_far)

pub count_elsewhere : (f : ℕ → Bool) (a p size : ℕ) → a ≤ p → f p ≡ false → size ≡ count_by f (range_with_len a (p - a)) → size ≡ count_by f (range_with_len a (p + 1 - a))
count_elsewhere f a p size h here so_far = omega (arith, count_more f a p h, ap as_one here, so_far)

-- there are no more than numbers
pub count_few : (f : ℕ → Bool) (a n : ℕ) → count_by f (range_with_len a n) ≤ n
count_few f a n = omega (arith, count_by-le-length f (range_with_len a n), length-range_with_len a n)
