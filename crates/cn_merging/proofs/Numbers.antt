-- Numbering classes, place after place.
use Rattle.std.proofs.Common.{◌≡◌, ◌≢◌, ℕ, ◌+◌, ◌<◌, List, [], ◌∷◌, ◌++◌, length, refl, sym, ap, ◌∙◌, arith, inl, inr, subst}
use Rattle.std.specs.Prelude.{slice_index}
use Rattle.std.proofs.lemmas.Bool.{cases_lt}
use Rattle.std.proofs.lemmas.List.{get_or_append_left, get_or_push, length_push}
use Rattle.cn_merging.specs.Numbering.{AreOwnFirsts, IsNumbering}

-- an element before the last
left : (xs : List ℕ) (y i : ℕ) → i < length xs → slice_index (xs ++ y ∷ []) i ≡ slice_index xs i
left xs y i l = get_or_append_left xs (y ∷ []) 0 i l

-- the last
last : (xs : List ℕ) (y i : ℕ) → length xs ≡ i → slice_index (xs ++ y ∷ []) i ≡ y
last xs y i l = get_or_push xs y 0 i l

module _ (firsts : List ℕ) (n : ℕ) (kept classes : List ℕ) (is : IsNumbering n firsts kept classes) where
  -- the next place is the first of a class
  pub first_more : slice_index firsts n ≡ n → IsNumbering (n + 1) firsts (kept ++ n ∷ []) (classes ++ length kept ∷ [])
  first_more new =
      let kl : length (kept ++ n ∷ []) ≡ length kept + 1 = length_push kept n in
      let cl : length (classes ++ length kept ∷ []) ≡ length classes + 1 = length_push classes (length kept) in
      record {
        long = omega (arith, cl, is.long);
        few = omega (arith, kl, is.few);
        kept_known = λ s l. elim (cases_lt s (length kept)) [
          | inl h ↦ omega (arith, left kept n s h, is.kept_known s h)
          | inr h ↦ omega (arith, last kept n s (omega (arith, l, kl, h)))
        ];
        ascending = λ i j h l. elim (cases_lt j (length kept)) [
          | inl m ↦ (let mi : i < length kept = omega (arith, h, m) in
              omega (arith, left kept n i mi, left kept n j m, is.ascending i j h m))
          | inr m ↦ (let mi : i < length kept = omega (arith, h, l, kl) in
              omega (arith, left kept n i mi, last kept n j (omega (arith, l, kl, m)), is.kept_known i mi))
        ];
        known = λ q l. elim (cases_lt q n) [
          | inl h ↦ omega (arith, kl, left classes (length kept) q (omega (arith, h, is.long)), is.known q h)
          | inr h ↦ omega (arith, kl, last classes (length kept) q (omega (arith, l, h, is.long)))
        ];
        first = λ q l. elim (cases_lt q n) [
          | inl h ↦ ap (slice_index (kept ++ n ∷ [])) (left classes (length kept) q (omega (arith, h, is.long)))
              ∙ (left kept n (slice_index classes q) (is.known q h) ∙ is.first q h)
          | inr h ↦ (let e : q ≡ n = omega (arith, l, h) in
              ap (slice_index (kept ++ n ∷ [])) (last classes (length kept) q (omega (arith, e, is.long)))
              ∙ (last kept n (length kept) refl ∙ (sym new ∙ ap (slice_index firsts) (sym e))))
        ];
        own = λ s l. elim (cases_lt s (length kept)) [
          | inl h ↦ ap (slice_index (classes ++ length kept ∷ [])) (left kept n s h)
              ∙ (left classes (length kept) (slice_index kept s) (omega (arith, is.kept_known s h, is.long)) ∙ is.own s h)
          | inr h ↦ (let e : s ≡ length kept = omega (arith, l, h, kl) in
              ap (slice_index (classes ++ length kept ∷ [])) (last kept n s (sym e))
              ∙ (last classes (length kept) n is.long ∙ sym e))
        ];
      }

  -- the next place is in a class that has a number
  pub later_more : AreOwnFirsts firsts → n < length firsts → slice_index firsts n ≢ n
      → IsNumbering (n + 1) firsts kept (classes ++ slice_index classes (slice_index firsts n) ∷ [])
  later_more owns below different =
      let own = owns n below in
      let f : ℕ = slice_index firsts n in
      let lf : f < n = omega (arith, own.0, different) in
      let c : ℕ = slice_index classes f in
      let cl : length (classes ++ c ∷ []) ≡ length classes + 1 = length_push classes c in
      record {
        long = omega (arith, cl, is.long);
        few = omega (arith, is.few);
        kept_known = λ s l. omega (arith, is.kept_known s l);
        ascending = is.ascending;
        known = λ q l. elim (cases_lt q n) [
          | inl h ↦ omega (arith, left classes c q (omega (arith, h, is.long)), is.known q h)
          | inr h ↦ omega (arith, last classes c q (omega (arith, l, h, is.long)), is.known f lf)
        ];
        first = λ q l. elim (cases_lt q n) [
          | inl h ↦ ap (slice_index kept) (left classes c q (omega (arith, h, is.long))) ∙ is.first q h
          | inr h ↦ (let e : q ≡ n = omega (arith, l, h) in
              ap (slice_index kept) (last classes c q (omega (arith, e, is.long)))
              ∙ (is.first f lf ∙ (own.1 ∙ ap (slice_index firsts) (sym e))))
        ];
        own = λ s l. left classes c (slice_index kept s) (omega (arith, is.kept_known s l, is.long)) ∙ is.own s l;
      }

-- a property of each place and its element, with one place more
pub each_more : (P : ℕ → ℕ → Type 0) (xs ys : List ℕ) (y n : ℕ) → ys ≡ xs ++ y ∷ [] → length xs ≡ n → ((k : ℕ) → k < n → P k (slice_index xs k)) → P n y
    → (k : ℕ) → k < n + 1 → P k (slice_index ys k)
each_more P xs ys y n e long each here k l =
    subst (λ (zs : List ℕ). P k (slice_index zs k)) (sym e) (elim (cases_lt k n) [
      | inl h ↦ subst (λ (z : ℕ). P k z) (sym (left xs y k (omega (arith, h, long)))) (each k h)
      | inr h ↦ (let same : n ≡ k = omega (arith, l, h) in
          subst (λ (z : ℕ). P k z) (sym (last xs y k (long ∙ same))) (subst (λ (m : ℕ). P m y) same here))
    ])

-- the next place, as the code has it
pub with_first : (firsts : List ℕ) (n : ℕ) (kept classes : List ℕ) → IsNumbering n firsts kept classes → (more_kept more_classes : List ℕ) (x y : ℕ)
    → slice_index firsts n ≡ n → x ≡ n → y ≡ length kept → more_kept ≡ kept ++ x ∷ [] → more_classes ≡ classes ++ y ∷ [] → IsNumbering (n + 1) firsts more_kept more_classes
with_first firsts n kept classes is more_kept more_classes x y new ex ey ek ec = rw (ek, ec, ex, ey) (first_more firsts n kept classes is new)

pub with_later : (firsts : List ℕ) (n : ℕ) (kept classes : List ℕ) → IsNumbering n firsts kept classes → (more_kept more_classes : List ℕ) (y : ℕ) → AreOwnFirsts firsts → n < length firsts
    → slice_index firsts n ≢ n → y ≡ slice_index classes (slice_index firsts n) → more_kept ≡ kept → more_classes ≡ classes ++ y ∷ [] → IsNumbering (n + 1) firsts more_kept more_classes
with_later firsts n kept classes is more_kept more_classes y owns below different ey ek ec = rw (ek, ec, ey) (later_more firsts n kept classes is owns below different)
