-- Parts of a list of events.
use Rattle.std.proofs.Common.{ℕ, zero, suc, ◌≡◌, true, ◌+◌, ◌<◌, ◌≤◌, List, [], ◌∷◌, ◌++◌, take, drop, slice_get, Some, refl, ap, ◌∙◌, arith, cond}
use Rattle.std.proofs.lemmas.List.Sums.{sum_by-cons}
use Rattle.std.proofs.lemmas.Bool.Decides.{nat_tests}
use Rattle.cn_log.specs.declared.event.Event.{Event}
use Rattle.cn_log.specs.declared.event.Event.TheVariants.{Invoke}
use Rattle.cn_log.specs.Log.{Setting, World, after_events, after_event, MayAllCome}
use Rattle.cn_log.specs.Linearized.{is_call_of, calls_of}

pub get_take : {A : Type 0} (xs : List A) (i k : ℕ) → k < i → slice_get (take i xs) k ≡ slice_get xs k
get_take [] zero k less = absurd (omega arith)
get_take [] (suc i) k less = refl
get_take (x ∷ xs) zero k less = absurd (omega arith)
get_take (x ∷ xs) (suc i) zero less = refl
get_take (x ∷ xs) (suc i) (suc k) less = get_take xs i k (omega arith)

pub get_take_low : {A : Type 0} (xs : List A) (i k : ℕ) (x : A) → slice_get (take i xs) k ≡ Some x → k < i
get_take_low [] zero k x h = absurd cc
get_take_low [] (suc i) k x h = absurd cc
get_take_low (y ∷ xs) zero k x h = absurd cc
get_take_low (y ∷ xs) (suc i) zero x h = omega arith
get_take_low (y ∷ xs) (suc i) (suc k) x h = let l = get_take_low xs i k x h in omega arith

pub take_take : {A : Type 0} (xs : List A) (i k : ℕ) → k ≤ i → take k (take i xs) ≡ take k xs
take_take [] zero zero le = refl
take_take [] zero (suc k) le = absurd (omega arith)
take_take [] (suc i) zero le = refl
take_take [] (suc i) (suc k) le = refl
take_take (x ∷ xs) zero zero le = refl
take_take (x ∷ xs) zero (suc k) le = absurd (omega arith)
take_take (x ∷ xs) (suc i) zero le = refl
take_take (x ∷ xs) (suc i) (suc k) le = ap (λ ys. x ∷ ys) (take_take xs i k (omega arith))

pub split_at : {A : Type 0} (xs : List A) (i : ℕ) (x : A) → slice_get xs i ≡ Some x → xs ≡ take i xs ++ x ∷ drop (suc i) xs
split_at [] i x h = absurd cc
split_at (y ∷ xs) zero x h = let e : y ≡ x = cc in ap (λ z. z ∷ xs) e
split_at (y ∷ xs) (suc i) x h = ap (λ ys. y ∷ ys) (split_at xs i x h)

pub calls_cons : (p : ℕ) (e : Event) (events : List Event) → calls_of p (e ∷ events) ≡ cond (is_call_of p e) 1 0 + calls_of p events
calls_cons p e events = sum_by-cons (λ x. cond (is_call_of p x) 1 0) e events

pub calls_own : (p operation : ℕ) → is_call_of p (Invoke p operation) ≡ true
calls_own p operation = grind (arith, nat_tests)

-- the calls of a process have different numbers
pub number_once : (events : List Event) (p a b i j : ℕ) → slice_get events i ≡ Some (Invoke p a) → slice_get events j ≡ Some (Invoke p b)
    → calls_of p (take i events) ≡ calls_of p (take j events) → a ≡ b
number_once [] p a b i j hi hj same = absurd cc
number_once (e ∷ events) p a b zero zero hi hj same = cc
number_once (e ∷ events) p a b zero (suc j) hi hj same =
    let is : e ≡ Invoke p a = cc in
    let own : is_call_of p e ≡ true = rw is (calls_own p a) in
    let more : calls_of p (e ∷ take j events) ≡ 1 + calls_of p (take j events) = calls_cons p e (take j events) ∙ ap (λ b. cond b 1 0 + calls_of p (take j events)) own in
    let none : calls_of p (take zero (e ∷ events)) ≡ 0 = refl in
    let same' : calls_of p (take zero (e ∷ events)) ≡ calls_of p (e ∷ take j events) = same in
    absurd (omega arith)
number_once (e ∷ events) p a b (suc i) zero hi hj same =
    let is : e ≡ Invoke p b = cc in
    let own : is_call_of p e ≡ true = rw is (calls_own p b) in
    let more : calls_of p (e ∷ take i events) ≡ 1 + calls_of p (take i events) = calls_cons p e (take i events) ∙ ap (λ b. cond b 1 0 + calls_of p (take i events)) own in
    let none : calls_of p (take zero (e ∷ events)) ≡ 0 = refl in
    let same' : calls_of p (e ∷ take i events) ≡ calls_of p (take zero (e ∷ events)) = same in
    absurd (omega arith)
number_once (e ∷ events) p a b (suc i) (suc j) hi hj same =
    let x = calls_cons p e (take i events) in
    let y = calls_cons p e (take j events) in
    let same' : calls_of p (e ∷ take i events) ≡ calls_of p (e ∷ take j events) = same in
    number_once events p a b i j hi hj (omega arith)

module _ {R : Type 0} (L : Setting R) where
  pub run_append : (xs ys : List Event) (w : World R) → after_events L (xs ++ ys) w ≡ after_events L ys (after_events L xs w)
  run_append [] ys w = refl
  run_append (x ∷ xs) ys w = run_append xs ys (after_event L w x)

  pub may_left : (xs ys : List Event) (w : World R) → MayAllCome L (xs ++ ys) w → MayAllCome L xs w
  may_left [] ys w may = tt
  may_left (x ∷ xs) ys w may = (may.0, may_left xs ys (after_event L w x) may.1)

  pub may_right : (xs ys : List Event) (w : World R) → MayAllCome L (xs ++ ys) w → MayAllCome L ys (after_events L xs w)
  may_right [] ys w may = may
  may_right (x ∷ xs) ys w may = may_right xs ys (after_event L w x) may.1
