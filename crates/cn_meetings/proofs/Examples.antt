-- The operations of the examples part.
use Rattle.std.proofs.Common.{ℕ, zero, suc, ◌≡◌, ◌+◌, ◌-◌, ◌<◌, true, [], ◌∷◌, length, get_or, refl, ap, ◌∙◌, arith}
use Rattle.std.specs.List.{range_with_len}
use Rattle.std.proofs.lemmas.Bool.Decides.{nat_tests}
use Rattle.std.proofs.lemmas.List.{length-replicate}
use Rattle.std.proofs.lemmas.List.FromFn.{get_or-map-range_with_len, get_or-range_with_len, length-map-range_with_len}
use Rattle.cn_table.specs.TypeTable.{IsClosed, Row, TypeTable, transition}
use Rattle.cn_unread.specs.Views.{IsSilent}
use Rattle.cn_meetings.specs.Meeting.{Sight, sees}
use Rattle.cn_meetings.specs.Meeting.Sight.{Response, State}
use Rattle.cn_meetings.specs.Examples.{compare_and_swap, found_by, is_set, is_swapped, puts, quiet_bit, quiet_puts, sticky_bit, swaps}
use Rattle.cn_meetings.specs.Parting.{ArePart, IsPartingOf}

-- ---- two operations over three states
abbrev Each : (ℕ → ℕ → Type 0) → Type 0
Each P = P 0 1 × P 0 2 × P 1 1 × P 1 2

each : (P : ℕ → ℕ → Type 0) → Each P → (g q : ℕ) → g < 2 → is_set q ≡ true → P g q
each P h g zero lt m = absurd cc
each P h zero (suc zero) lt m = h.0
each P h zero (suc (suc zero)) lt m = h.1
each P h (suc zero) (suc zero) lt m = h.2
each P h (suc zero) (suc (suc zero)) lt m = h.3
each P h (suc (suc g)) (suc q) lt m = absurd (omega arith)
each P h g (suc (suc (suc q))) lt m = absurd cc

pub sticky_bit_parts : ArePart sticky_bit 2 puts
sticky_bit_parts = record {
  begins = λ g lt. begins g lt;
  stays = λ g q lt m. each (λ g q. (is_set (transition sticky_bit g q).1 ≡ true) × ((transition sticky_bit g q).1 - 1 ≡ q - 1)) ((refl, refl), (refl, refl), (refl, refl), (refl, refl)) g q lt m;
  first_judges = λ g last lt m e. first g lt;
  later_judges = λ g q last lt m ml e. each (λ g q. (transition sticky_bit g q).0 ≡ q - 1) (refl, refl, refl, refl) g q lt m ∙ e;
}
  where
    begins : (g : ℕ) → g < 2 → (is_set (transition sticky_bit g 0).1 ≡ true) × ((transition sticky_bit g 0).1 - 1 ≡ g)
    begins zero lt = (refl, refl)
    begins (suc zero) lt = (refl, refl)
    begins (suc (suc g)) lt = absurd (omega arith)

    first : (g : ℕ) → g < 2 → (transition sticky_bit g 0).0 ≡ g
    first zero lt = refl
    first (suc zero) lt = refl
    first (suc (suc g)) lt = absurd (omega arith)

-- what is seen is the state
quiet_bit_parts : (sight : Sight) → ((q : ℕ) → is_set q ≡ true → sees quiet_bit sight q ≡ q) → ArePart quiet_bit 2 (quiet_puts sight)
quiet_bit_parts sight tells = record {
  begins = λ g lt. begins g lt;
  stays = λ g q lt m. each (λ g q. (is_set (transition quiet_bit g q).1 ≡ true) × ((transition quiet_bit g q).1 - 1 ≡ q - 1)) ((refl, refl), (refl, refl), (refl, refl), (refl, refl)) g q lt m;
  first_judges = λ g last lt m e. ap (λ q. q - 1) (tells last m) ∙ e;
  later_judges = λ g q last lt m ml e. ap (λ q. q - 1) (tells last ml);
}
  where
    begins : (g : ℕ) → g < 2 → (is_set (transition quiet_bit g 0).1 ≡ true) × ((transition quiet_bit g 0).1 - 1 ≡ g)
    begins zero lt = (refl, refl)
    begins (suc zero) lt = (refl, refl)
    begins (suc (suc g)) lt = absurd (omega arith)

pub quiet_bit_read : ArePart quiet_bit 2 (quiet_puts State)
quiet_bit_read = quiet_bit_parts State (λ q m. refl)

pub quiet_bit_got : ArePart quiet_bit 2 (quiet_puts (Response 2))
quiet_bit_got = quiet_bit_parts (Response 2) (λ q m. tells q m)
  where
    tells : (q : ℕ) → is_set q ≡ true → (transition quiet_bit 2 q).0 ≡ q
    tells zero m = absurd cc
    tells (suc zero) m = refl
    tells (suc (suc zero)) m = refl
    tells (suc (suc (suc q))) m = absurd cc

-- ---- compare-and-swap
module _ (k : ℕ) where
  abbrev swap_to : ℕ → Row
  swap_to g = record { name = []; response = range_with_len 0 (k + 1); next = (g + 1) ∷ range_with_len 1 k }

  swap_is : (g q : ℕ) → g < k → transition (compare_and_swap k) g q ≡ (get_or (swap_to g).response q 0, get_or (swap_to g).next q 0)
  swap_is g q lt = ap (λ (r : Row). (get_or r.response q 0, get_or r.next q 0)) (get_or-map-range_with_len swap_to 0 k g g _ lt (omega arith))

  found : (g q : ℕ) → g < k → q < k + 1 → (transition (compare_and_swap k) g q).0 ≡ q
  found g q lt l = ap (λ (z : ℕ × ℕ). z.0) (swap_is g q lt) ∙ (get_or-range_with_len 0 (k + 1) q 0 l ∙ omega arith)

  kept : (g q : ℕ) → g < k → q < k → (transition (compare_and_swap k) g (suc q)).1 ≡ suc q
  kept g q lt l = ap (λ (z : ℕ × ℕ). z.1) (swap_is g (suc q) lt) ∙ (get_or-range_with_len 1 k q 0 l ∙ omega arith)

  put : (g : ℕ) → g < k → (transition (compare_and_swap k) g 0).1 ≡ suc g
  put g lt = ap (λ (z : ℕ × ℕ). z.1) (swap_is g 0 lt) ∙ omega arith

  pub swaps_part : ArePart (compare_and_swap k) k (swaps k)
  swaps_part = record {
    begins = λ g lt. (let e = put g lt in (rw e (grind (arith, nat_tests)), rw e (omega arith)));
    stays = λ g q lt m. stays g q lt m;
    first_judges = λ g last lt m e. rw (found g 0 lt (omega arith)) refl;
    later_judges = λ g q last lt m ml e. later g q last lt m e;
  }
    where
      stays : (g q : ℕ) → g < k → is_swapped k q ≡ true → (is_swapped k (transition (compare_and_swap k) g q).1 ≡ true) × ((transition (compare_and_swap k) g q).1 - 1 ≡ q - 1)
      stays g zero lt m = absurd cc
      stays g (suc q) lt m = let l : q < k = grind (arith, nat_tests) in let e = kept g q lt l in (rw e m, rw e refl)

      later : (g q last : ℕ) → g < k → is_swapped k q ≡ true → q - 1 ≡ last - 1 → found_by g (transition (compare_and_swap k) g q).0 ≡ last - 1
      later g zero last lt m e = absurd cc
      later g (suc q) last lt m e = let l : q < k = grind (arith, nat_tests) in rw (found g (suc q) lt (omega arith)) (omega arith)

-- ---- closed types
closed_bit : (t : TypeTable) → length t.states ≡ 3 → (o : ℕ) → (transition t o 0).1 < 3 × (transition t o 1).1 < 3 × (transition t o 2).1 < 3 → (q : ℕ) → q < length t.states → (transition t o q).1 < length t.states
closed_bit t three o h q lt = rw three (go q (rw three at lt))
  where
    go : (q : ℕ) → q < 3 → (transition t o q).1 < 3
    go zero lt = h.0
    go (suc zero) lt = h.1
    go (suc (suc zero)) lt = h.2
    go (suc (suc (suc q))) lt = absurd (omega arith)

pub sticky_bit_closed : IsClosed sticky_bit
sticky_bit_closed zero q lo lq = closed_bit sticky_bit refl 0 (omega arith, omega arith, omega arith) q lq
sticky_bit_closed (suc zero) q lo lq = closed_bit sticky_bit refl 1 (omega arith, omega arith, omega arith) q lq
sticky_bit_closed (suc (suc o)) q lo lq = absurd (omega arith)

pub quiet_bit_closed : IsClosed quiet_bit
quiet_bit_closed zero q lo lq = closed_bit quiet_bit refl 0 (omega arith, omega arith, omega arith) q lq
quiet_bit_closed (suc zero) q lo lq = closed_bit quiet_bit refl 1 (omega arith, omega arith, omega arith) q lq
quiet_bit_closed (suc (suc zero)) q lo lq = closed_bit quiet_bit refl 2 (omega arith, omega arith, omega arith) q lq
quiet_bit_closed (suc (suc (suc o))) q lo lq = absurd (omega arith)

pub get_is_silent : IsSilent quiet_bit 2
get_is_silent = record { known = omega arith; same_state = λ q lt. same q lt }
  where
    same : (q : ℕ) → q < 3 → (transition quiet_bit 2 q).1 ≡ q
    same zero lt = refl
    same (suc zero) lt = refl
    same (suc (suc zero)) lt = refl
    same (suc (suc (suc q))) lt = absurd (omega arith)

pub swaps_closed : (k : ℕ) → IsClosed (compare_and_swap k)
swaps_closed k o q lo lq = go q (rw (length-replicate (k + 1)) at lq)
  where
    go : (q : ℕ) → q < k + 1 → (transition (compare_and_swap k) o q).1 < length (compare_and_swap k).states
    go zero l = let lt : o < k = rw length-map-range_with_len at lo in rw (put k o lt, length-replicate (k + 1)) (omega arith)
    go (suc q) l = let lt : o < k = rw length-map-range_with_len at lo in rw (kept k o q lt (omega arith), length-replicate (k + 1)) (omega arith)

pub swaps_of : (k : ℕ) → IsPartingOf (compare_and_swap k) k (swaps k)
swaps_of k = record {
  start = rw (length-replicate (k + 1)) (omega arith);
  operations = λ g lt. rw (length-map-range_with_len (swap_to k) 0 k) lt;
  sight = tt;
}
