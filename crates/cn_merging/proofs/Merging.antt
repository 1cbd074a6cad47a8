-- Merged classes: what the table of the kept states is to the whole one.
use Rattle.std.proofs.Common.{◌≡◌, ℕ, zero, suc, ◌<◌, ◌≤◌, List, [], ◌∷◌, length, map, get_or, refl, sym, ap, ◌∙◌, arith, inl, inr, subst}
use Rattle.std.specs.Prelude.{slice_index, slice_index_or}
use Rattle.std.proofs.lemmas.Bool.{cases_order}
use Rattle.std.specs.List.{AllByRecursion}
use Rattle.std.proofs.lemmas.Grind.{get_or_default_zero, same_number_lists}
use Rattle.std.proofs.lemmas.List.{ext_get_or, length-map}
use Rattle.cn_table.specs.FewerStates.{AreClasses, row_with, with_states}
use Rattle.cn_table.specs.Run.{responses_along}
use Rattle.cn_table.specs.TypeTable.{IsRow, IsTypeTable, Row, TypeTable, no_row, transition}
use Rattle.cn_table.proofs.ReachLemmas.{next_below}
use Rattle.cn_table.proofs.Rows.{all_at}
use Rattle.cn_unread.specs.Merging.{Merges}
use Rattle.cn_unread.specs.Undisturbed.{AreOperations}
use Rattle.cn_merging.specs.Alike.{AreAlike, AreFirsts, AreToldApart}
use Rattle.cn_merging.specs.Merged.{AllAreToldApart, IsWhollyMerged, class_in}
use Rattle.cn_merging.specs.Numbering.{AreOwnFirsts, IsNumbering}
use Rattle.cn_merging.proofs.Refining.{apart_sym}

-- ---- first states

module _ (t : TypeTable) (f : List ℕ) (are : AreFirsts t f) where
  not_less : (p q : ℕ) → p < length t.states → q < length t.states → AreAlike t p q → slice_index f p < slice_index f q → ⊥
  not_less p q l m alike less =
      let h = are.before (slice_index f p) q m less in
      h.2 (are.alike p l h.0 h.1 ∙ alike h.0 h.1)

  pub same_first : (p q : ℕ) → p < length t.states → q < length t.states → AreAlike t p q → slice_index f p ≡ slice_index f q
  same_first p q l m alike = elim (cases_order (slice_index f p) (slice_index f q)) [
    | inl e ↦ e
    | inr h ↦ elim h [
      | inl less ↦ absurd (not_less p q l m alike less)
      | inr more ↦ absurd (not_less q p m l (λ os known. sym (alike os known)) more)
    ]
  ]

  pub alike_first : (p q : ℕ) → p < length t.states → q < length t.states → slice_index f p ≡ slice_index f q → AreAlike t p q
  alike_first p q l m e os known =
      sym (are.alike p l os known) ∙ (ap (λ k. responses_along t k os) e ∙ are.alike q m os known)

  pub own_firsts : AreOwnFirsts f
  own_firsts q l =
      let m : q < length t.states = omega (arith, l, are.long) in
      let low : slice_index f q ≤ q = are.known q m in
      (low, same_first (slice_index f q) q (omega (arith, low, m)) m (are.alike q m))

head_of : (x y : ℕ) (xs ys : List ℕ) → x ∷ xs ≡ y ∷ ys → x ≡ y
head_of x y xs ys e = cc

tail_of : (x y : ℕ) (xs ys : List ℕ) → x ∷ xs ≡ y ∷ ys → xs ≡ ys
tail_of x y xs ys e = cc

alike_response : (t : TypeTable) (o p q : ℕ) → o < length t.operations → AreAlike t p q → (transition t o p).0 ≡ (transition t o q).0
alike_response t o p q l alike = head_of _ _ [] [] (alike (o ∷ []) (l, tt))

alike_next : (t : TypeTable) (o p q : ℕ) → o < length t.operations → AreAlike t p q → AreAlike t (transition t o p).1 (transition t o q).1
alike_next t o p q l alike = λ os known. tail_of _ _ _ _ (alike (o ∷ os) (l, known))

-- ---- the table of the kept states

at_mapped : {X Y : Type 0} (h : X → Y) (xs : List X) (i : ℕ) (d : Y) (e : X) → i < length xs → get_or (map h xs) i d ≡ h (get_or xs i e)
at_mapped h [] i d e l = absurd (omega arith)
at_mapped h (x ∷ xs) zero d e l = refl
at_mapped h (x ∷ xs) (suc i) d e l = at_mapped h xs i d e (omega arith)

module _ (t : TypeTable) (kept classes : List ℕ) where
  abbrev u : TypeTable
  u = with_states t kept classes

  row_of : (o : ℕ) → o < length t.operations → slice_index_or u.operations o no_row ≡ row_with kept classes (slice_index_or t.operations o no_row)
  row_of o l = at_mapped (row_with kept classes) t.operations o no_row no_row l

  pub response_kept : (o s : ℕ) → o < length t.operations → s < length kept → (transition u o s).0 ≡ (transition t o (slice_index kept s)).0
  response_kept o s l m =
      ap (λ (row : Row). slice_index row.response s) (row_of o l)
      ∙ at_mapped (λ q. slice_index (slice_index_or t.operations o no_row).response q) kept s 0 0 m

  pub next_kept : (o s : ℕ) → o < length t.operations → s < length kept → (transition u o s).1 ≡ slice_index classes (transition t o (slice_index kept s)).1
  next_kept o s l m =
      ap (λ (row : Row). slice_index row.next s) (row_of o l)
      ∙ at_mapped (λ q. slice_index classes (slice_index (slice_index_or t.operations o no_row).next q)) kept s 0 0 m

-- ---- runs through a merging

pub same_run : (h : ℕ → ℕ) (t u : TypeTable) → IsTypeTable t → Merges h t u → (os : List ℕ) (q : ℕ) → q < length t.states → AreOperations t os
    → responses_along u (h q) os ≡ responses_along t q os
same_run h t u table merges [] q l known = refl
same_run h t u table merges (o ∷ os) q l known =
    ap (λ k. k ∷ responses_along u (transition u o (h q)).1 os) (merges.same_response o q known.0 l)
    ∙ ap (λ rs. (transition t o q).0 ∷ rs)
    (ap (λ k. responses_along u k os) (merges.same_next o q known.0 l)
    ∙ same_run h t u table merges os (transition t o q).1 (next_below t o q table known.0 l) known.1)

-- ---- the whole

module _ (t : TypeTable) (table : IsTypeTable t) (f kept classes : List ℕ) (are : AreFirsts t f) (numbers : IsNumbering (length f) f kept classes) where
  in_f : (q : ℕ) → q < length t.states → q < length f
  in_f q l = omega (arith, l, are.long)

  in_t : (q : ℕ) → q < length f → q < length t.states
  in_t q l = omega (arith, l, are.long)

  kept_count : length (u t kept classes).states ≡ length kept
  kept_count = length-map kept (λ q. slice_index_or t.states q [])

  class_of_first : (q : ℕ) → q < length t.states → slice_index classes q ≡ slice_index classes (slice_index f q)
  class_of_first q l =
      sym (numbers.own (slice_index classes q) (numbers.known q (in_f q l)))
      ∙ ap (slice_index classes) (numbers.first q (in_f q l))

  same_class : (p q : ℕ) → p < length t.states → q < length t.states → AreAlike t p q → slice_index classes p ≡ slice_index classes q
  same_class p q l m alike =
      class_of_first p l ∙ (ap (slice_index classes) (same_first t f are p q l m alike) ∙ sym (class_of_first q m))

  pub alike_in_class : (p q : ℕ) → p < length t.states → q < length t.states → slice_index classes p ≡ slice_index classes q → AreAlike t p q
  alike_in_class p q l m e =
      alike_first t f are p q l m (sym (numbers.first p (in_f p l)) ∙ (ap (slice_index kept) e ∙ numbers.first q (in_f q m)))

  -- the state that stands for the class of q is like q
  like_kept : (q : ℕ) → q < length t.states → AreAlike t (slice_index kept (slice_index classes q)) q
  like_kept q l = subst (λ (k : ℕ). AreAlike t k q) (sym (numbers.first q (in_f q l))) (are.alike q l)

  pub classes_merge : Merges (class_in classes) t (u t kept classes)
  classes_merge = record {
    same_operations = sym (length-map t.operations (row_with kept classes));
    known = λ q l. omega (arith, kept_count, numbers.known q (in_f q l));
    same_response = λ o q l m. response_kept t kept classes o (slice_index classes q) l (numbers.known q (in_f q m))
        ∙ alike_response t o _ q l (like_kept q m);
    same_next = λ o q l m.
        let k : ℕ = slice_index kept (slice_index classes q) in
        let there : k < length t.states = in_t k (numbers.kept_known (slice_index classes q) (numbers.known q (in_f q m))) in
        next_kept t kept classes o (slice_index classes q) l (numbers.known q (in_f q m))
        ∙ same_class _ _ (next_below t o k table l there) (next_below t o q table l m) (alike_next t o k q l (like_kept q m));
  }

  own_first : (s : ℕ) → s < length kept → slice_index f (slice_index kept s) ≡ slice_index kept s
  own_first s l = sym (numbers.first (slice_index kept s) (numbers.kept_known s l)) ∙ ap (slice_index kept) (numbers.own s l)

  less_apart : (p q : ℕ) → p < length kept → q < length kept → slice_index kept p < slice_index kept q → AreToldApart (u t kept classes) p q
  less_apart p q l m less =
      let a : ℕ = slice_index kept p in
      let b : ℕ = slice_index kept q in
      let la : a < length t.states = in_t a (numbers.kept_known p l) in
      let lb : b < length t.states = in_t b (numbers.kept_known q m) in
      let h = are.before a b lb (omega (arith, less, own_first q m)) in
      let left : responses_along (u t kept classes) p h.0 ≡ responses_along t a h.0 =
      ap (λ k. responses_along (u t kept classes) k h.0) (sym (numbers.own p l)) ∙ same_run (class_in classes) t (u t kept classes) table classes_merge h.0 a la h.1 in
      let right : responses_along (u t kept classes) q h.0 ≡ responses_along t b h.0 =
      ap (λ k. responses_along (u t kept classes) k h.0) (sym (numbers.own q m)) ∙ same_run (class_in classes) t (u t kept classes) table classes_merge h.0 b lb h.1 in
      (h.0, operations_known h.0 h.1, λ e. h.2 (sym left ∙ (e ∙ right)))
    where
      operations_known : (os : List ℕ) → AreOperations t os → AreOperations (u t kept classes) os
      operations_known [] known = tt
      operations_known (o ∷ os) known = (omega (arith, known.0, classes_merge.same_operations), operations_known os known.1)

  pub wholly_merged : length classes ≡ length t.states → IsWhollyMerged t (u t kept classes) classes
  wholly_merged each = record {
    merged = record {
      merges = classes_merge;
      reached = λ s l. let m : s < length kept = omega (arith, l, kept_count) in
          (slice_index kept s, in_t (slice_index kept s) (numbers.kept_known s m), numbers.own s m);
    };
    each = each;
    alike = alike_in_class;
    apart = λ p q l m different.
        let lp : p < length kept = omega (arith, l, kept_count) in
        let lq : q < length kept = omega (arith, m, kept_count) in
        elim (cases_order (slice_index kept p) (slice_index kept q)) [
          | inl e ↦ absurd (different (sym (numbers.own p lp) ∙ (ap (slice_index classes) e ∙ numbers.own q lq)))
          | inr h ↦ elim h [
            | inl less ↦ less_apart p q lp lq less
            | inr more ↦ apart_sym (u t kept classes) q p (less_apart q p lq lp more)
          ]
        ];
    kept = (
      kept,
      record {
        known = λ s l. in_t (slice_index kept s) (numbers.kept_known s l);
        own = numbers.own;
        first = λ q s l m e less. let low : slice_index f q ≤ q = are.known q l in
            omega (arith, low, less, sym (numbers.first q (in_f q l)) ∙ ap (slice_index kept) e);
        ascending = numbers.ascending;
      },
      refl,
    );
  }

  pub are_classes : AreClasses t kept classes
  are_classes = record {
    some = let z : 0 < length t.states = omega (arith, table.states.some) in omega (arith, numbers.known 0 (in_f 0 z));
    known = λ k d l. omega (arith, get_or_default_zero kept k d l, in_t (slice_index kept k) (numbers.kept_known k l));
    ascending = λ i j d l m. let li : i < length kept = omega (arith, l, m) in
        omega (arith, get_or_default_zero kept i d li, get_or_default_zero kept j d m, numbers.ascending i j l m);
    each = numbers.long ∙ are.long;
    class = λ k d l. let lk : k < length f = omega (arith, l, numbers.long) in
        omega (arith, get_or_default_zero classes k d l, numbers.known k lk);
  }

  -- ---- a table whose states are all told apart

  module _ (apart : AllAreToldApart t) where
    first_is : (q : ℕ) → q < length t.states → slice_index f q ≡ q
    first_is q l = let low : slice_index f q ≤ q = are.known q l in elim (cases_order (slice_index f q) q) [
      | inl e ↦ e
      | inr h ↦ elim h [
        | inl less ↦ (let k = apart (slice_index f q) q (omega (arith, low, l)) l (λ e. absurd (omega (arith, e, less))) in
            absurd (k.2 (are.alike q l k.0 k.1)))
        | inr more ↦ absurd (omega (arith, more, low))
      ]
    ]

    kept_class : (q : ℕ) → q < length t.states → slice_index kept (slice_index classes q) ≡ q
    kept_class q l = numbers.first q (in_f q l) ∙ first_is q l

    class_rises : (q : ℕ) → suc q < length t.states → slice_index classes q < slice_index classes (suc q)
    class_rises q l =
        let m : q < length t.states = omega (arith, l) in
        elim (cases_order (slice_index classes q) (slice_index classes (suc q))) [
          | inl e ↦ absurd (omega (arith, sym (kept_class q m) ∙ (ap (slice_index kept) e ∙ kept_class (suc q) l)))
          | inr h ↦ elim h [
            | inl less ↦ less
            | inr more ↦ absurd (omega (
              arith,
              kept_class q m,
              kept_class (suc q) l,
              numbers.ascending (slice_index classes (suc q)) (slice_index classes q) more (numbers.known q (in_f q m)),
            ))
          ]
        ]

    class_up : (q : ℕ) → q < length t.states → q ≤ slice_index classes q
    class_up zero l = omega arith
    class_up (suc q) l = omega (arith, class_up q (omega (arith, l)), class_rises q l)

    kept_up : (s : ℕ) → s < length kept → s ≤ slice_index kept s
    kept_up zero l = omega arith
    kept_up (suc s) l = omega (arith, kept_up s (omega (arith, l)), numbers.ascending s (suc s) (omega arith) l)

    class_is : (q : ℕ) → q < length t.states → slice_index classes q ≡ q
    class_is q l = omega (arith, class_up q l, kept_up (slice_index classes q) (numbers.known q (in_f q l)), kept_class q l)

    kept_is : (q : ℕ) → q < length t.states → slice_index kept q ≡ q
    kept_is q l = ap (slice_index kept) (sym (class_is q l)) ∙ kept_class q l

    all_kept : length kept ≡ length t.states
    all_kept = elim (cases_order (length kept) (length t.states)) [
      | inl e ↦ e
      | inr h ↦ elim h [
        | inl less ↦ absurd (omega (arith, class_is (length kept) less, numbers.known (length kept) (in_f (length kept) less)))
        | inr more ↦ absurd (omega (arith, more, numbers.few, are.long))
      ]
    ]

    same_states : map (λ q. slice_index_or t.states q []) kept ≡ t.states
    same_states = ext_get_or [] (map (λ q. slice_index_or t.states q []) kept) t.states (kept_count ∙ all_kept)
        (λ i l. let m : i < length kept = omega (arith, l, kept_count) in
        at_mapped (λ q. slice_index_or t.states q []) kept i [] 0 m
        ∙ ap (λ (q : ℕ). slice_index_or t.states q []) (kept_is i (omega (arith, m, all_kept))))

    same_row : (row : Row) → IsRow (length t.states) (length t.responses) row → row_with kept classes row ≡ row
    same_row row is =
        let other : List ℕ = map (λ q. slice_index classes (slice_index row.next q)) kept in
        let responses : map (λ q. slice_index row.response q) kept ≡ row.response =
        same_number_lists _ row.response (length-map kept (λ q. slice_index row.response q) ∙ (all_kept ∙ sym is.response_len))
        (λ i l. let m : i < length kept = omega (arith, l, length-map kept (λ q. slice_index row.response q)) in
        at_mapped (λ q. slice_index row.response q) kept i 0 0 m ∙ ap (slice_index row.response) (kept_is i (omega (arith, m, all_kept)))) in
        let next : other ≡ row.next =
        same_number_lists _ row.next (length-map kept (λ q. slice_index classes (slice_index row.next q)) ∙ (all_kept ∙ sym is.next_len))
        (λ i l. let m : i < length kept = omega (arith, l, length-map kept (λ q. slice_index classes (slice_index row.next q))) in
        let n : i < length t.states = omega (arith, m, all_kept) in
        at_mapped (λ q. slice_index classes (slice_index row.next q)) kept i 0 0 m
        ∙ (ap (λ (q : ℕ). slice_index classes (slice_index row.next q)) (kept_is i n)
        ∙ class_is (slice_index row.next i) (all_at (λ s. s < length t.states) row.next i 0 (omega (arith, n, is.next_len)) is.next))) in
        ap (λ (rs : List ℕ). let r : Row = record { name = row.name; response = rs; next = other } in r) responses
        ∙ ap (λ (ns : List ℕ). let r : Row = record { name = row.name; response = row.response; next = ns } in r) next

    same_rows : (rows : List Row) → AllByRecursion (IsRow (length t.states) (length t.responses)) rows → map (row_with kept classes) rows ≡ rows
    same_rows [] is = refl
    same_rows (row ∷ rows) is = ap (λ (r : Row). r ∷ map (row_with kept classes) rows) (same_row row is.0) ∙ ap (λ (rs : List Row). row ∷ rs) (same_rows rows is.1)

    pub whole_again : u t kept classes ≡ t
    whole_again =
        ap (λ (ss : List (List ℕ)). let x : TypeTable = record t { states = ss; operations = map (row_with kept classes) t.operations } in x) same_states
        ∙ ap (λ (rows : List Row). let x : TypeTable = record t { operations = rows } in x) (same_rows t.operations table.rows)
