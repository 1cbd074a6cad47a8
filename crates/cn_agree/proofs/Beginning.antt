-- A round while its processes begin.
use Rattle.std.proofs.Common.{ℕ, zero, suc, ◌≡◌, ◌+◌, ◌<◌, ◌≤◌, List, [], ◌∷◌, length, map, set, replicate, get_or, slice_index_or, Some, None, refl, ap, sym, ◌∙◌, subst, arith}
use Rattle.std.proofs.lemmas.Option.{get_or_from_slice_get}
use Rattle.cn_table.proofs.Lists.{there_is}
use Rattle.cn_proto.specs.Protocol.{ProtocolOfRounds}
use Rattle.cn_agree.specs.declared.local.Stage.TheVariants.{Write}
use Rattle.cn_agree.specs.declared.local.Local.TheVariants.{NotBegun, Active}
use Rattle.cn_agree.specs.World.{World, fresh_node, local_at}
use Rattle.cn_agree.specs.Steps.{after_begin}
use Rattle.cn_agree.specs.Reached.{IsReached, Opens, Begins, HasBegun}
use Rattle.cn_agree.specs.Schedules.{all_begun}
use Rattle.cn_agree.specs.Beginning.{front, some_begun}

front_more : {A B : Type 0} (f : A → B) (d : B) (n : ℕ) (xs : List A) (i : ℕ) (z : A) → length xs ≡ n → i < n → set (front f d n xs i) i (f (get_or xs i z)) ≡ front f d n xs (suc i)
front_more f d n [] i z e lt = absurd (omega arith)
front_more f d zero (x ∷ xs) i z e lt = absurd (omega arith)
front_more f d (suc n) (x ∷ xs) zero z e lt = refl
front_more f d (suc n) (x ∷ xs) (suc i) z e lt = ap (λ r. f x ∷ r) (front_more f d n xs i z (omega arith) (omega arith))

front_next : {A B : Type 0} (f : A → B) (d : B) (n : ℕ) (xs : List A) (i : ℕ) → length xs ≡ n → i < n → get_or (front f d n xs i) i d ≡ d
front_next f d n [] i e lt = absurd (omega arith)
front_next f d zero (x ∷ xs) i e lt = absurd (omega arith)
front_next f d (suc n) (x ∷ xs) zero e lt = refl
front_next f d (suc n) (x ∷ xs) (suc i) e lt = front_next f d n xs i (omega arith) (omega arith)

front_all : {A B : Type 0} (f : A → B) (d : B) (n : ℕ) (xs : List A) → length xs ≡ n → front f d n xs n ≡ map f xs
front_all f d zero [] e = refl
front_all f d (suc n) [] e = absurd (omega arith)
front_all f d zero (x ∷ xs) e = absurd (omega arith)
front_all f d (suc n) (x ∷ xs) e = ap (λ r. f x ∷ r) (front_all f d n xs (omega arith))

module _ {V : Type 0} (P : ProtocolOfRounds) (n nodes : ℕ) (inputs : List V) (many : length inputs ≡ n) where
  -- the next process has not begun
  pub next_waits : (i : ℕ) → i < n → local_at (some_begun P n nodes inputs i) i ≡ NotBegun
  next_waits i lt = front_next (λ x. Active 0 x Write) NotBegun n inputs i many lt

  pub next_begins : (i : ℕ) (x : V) → i < n → x ≡ get_or inputs i x → after_begin i x (some_begun P n nodes inputs i) ≡ some_begun P n nodes inputs (i + 1)
  next_begins i x lt read =
      let suc_is : i + 1 ≡ suc i = omega arith in
      let locals : set (front (λ (y : V). Active 0 y Write) NotBegun n inputs i) i (Active 0 x Write) ≡ front (λ y. Active 0 y Write) NotBegun n inputs (suc i) =
      ap (λ y. set (front (λ (y : V). Active 0 y Write) NotBegun n inputs i) i (Active 0 y Write)) read ∙ front_more (λ y. Active 0 y Write) NotBegun n inputs i x many lt in
      let begins : set (front (λ (y : V). Some y) None n inputs i) i (Some x) ≡ front (λ y. Some y) None n inputs (suc i) =
      ap (λ y. set (front (λ (y : V). Some y) None n inputs i) i (Some y)) read ∙ front_more (λ y. Some y) None n inputs i x many lt in
      rw suc_is (λ d. record { nodes = replicate nodes (fresh_node P.start); locals = locals d; inputs = begins d; first = None })

  pub all_is : some_begun P n nodes inputs n ≡ all_begun P nodes inputs
  all_is =
      let locals = front_all (λ (y : V). Active 0 y Write) NotBegun n inputs many in
      let begins = front_all (λ (y : V). Some y) None n inputs many in
      λ d. record { nodes = replicate nodes (fresh_node P.start); locals = locals d; inputs = begins d; first = None }

  reached_some : (i : ℕ) → i ≤ n → IsReached P n nodes [] (some_begun P n nodes inputs i)
  reached_some zero le = Opens
  reached_some (suc i) le =
      let x = there_is inputs i (rw many (omega arith)) in
      let read = sym (get_or_from_slice_get inputs i x.0 x.0 x.1) in
      let suc_is : i + 1 ≡ suc i = omega arith in
      let T : World V → Type 0 = IsReached P n nodes [] in
      let T' : ℕ → Type 0 = λ k. T (some_begun P n nodes inputs k) in
      subst T' suc_is (subst T (next_begins i x.0 (omega arith) read) (Begins i x.0 (omega arith) (next_waits i (omega arith)) (reached_some i (omega arith))))

  -- a round can reach the world in which all have begun
  pub reached_all : IsReached P n nodes [] (all_begun P nodes inputs)
  reached_all = let T : World V → Type 0 = IsReached P n nodes [] in subst T all_is (reached_some n (omega arith))

  pub begun_all : (p : ℕ) → p < n → HasBegun (all_begun P nodes inputs) p
  begun_all p lt e = go inputs p (rw many lt) e
    where
      go : (xs : List V) (p : ℕ) → p < length xs → slice_index_or (map (λ x. Active 0 x Write) xs) p NotBegun ≡ NotBegun → ⊥
      go [] p lt e = absurd (omega arith)
      go (x ∷ xs) zero lt e = let f : Active 0 x Write ≡ NotBegun = e in cc
      go (x ∷ xs) (suc p) lt e = go xs p (omega arith) e
