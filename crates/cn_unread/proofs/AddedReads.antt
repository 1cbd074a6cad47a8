-- A type with a read is discerning for as many as the type itself, and by views.
use Rattle.std.proofs.Common.{◌≡◌, ◌≢◌, ℕ, zero, suc, ◌+◌, ◌<◌, ◌≤◌, inl, inr, List, [], ◌∷◌, ◌++◌, length}
use Rattle.std.proofs.Common.{refl, sym, ap, ◌∙◌, subst, arith, Some, length-append}
use Rattle.std.specs.Prelude.{slice_index, slice_index_or}
use Rattle.std.specs.List.{AllByRecursion, range_with_len}
use Rattle.std.specs.Option.{option_map}
use Rattle.std.proofs.lemmas.Bool.{cases_lt}
use Rattle.std.proofs.lemmas.List.Elements.{All-from_get_or, All-get_or, All-weaker, recursion_from_All}
use Rattle.std.proofs.lemmas.List.FromFn.{get_or-range_with_len}
use Rattle.cn_table.specs.Run.{responses_along, state_after}
use Rattle.cn_table.specs.TypeTable.{IsClosed, Row, TypeTable, no_row, transition}
use Rattle.cn_choice.specs.declared.team.Team.{Team}
use Rattle.cn_choice.specs.declared.team.Team.TheVariants.{A, B}
use Rattle.cn_choice.specs.Discerning.{IsDiscerning, IsWitness}
use Rattle.cn_choice.specs.Live.{IsLive}
use Rattle.cn_choice.specs.Orders.{IsOrder}
use Rattle.cn_choice.specs.OutcomeSets.{InOutcomeSet, operations_of, pair_of, response_of}
use Rattle.cn_choice.specs.RawChoices.{IsRawChoice, RawChoice}
use Rattle.cn_choice.proofs.OrderLemmas.Walks.{pair_of-response_of}
use Rattle.cn_unread.specs.AddedReads.{AddsRead, with_read}
use Rattle.cn_unread.specs.Views.{IsViewDiscerning}
use Rattle.cn_unread.proofs.Outcomes.{operations_known, outcome_known}

-- what the law `witnesses_are_live` says
abbrev pub WitnessesAreLive : Type 0
WitnessesAreLive =
    (t : TypeTable) (n : ℕ) (c : RawChoice) → IsRawChoice t n c → ¬ IsLive t c → ¬ IsWitness t c

module _ (t u : TypeTable) (closed : IsClosed t) (adds : AddsRead t u) where
  pub closed_too : IsClosed u
  closed_too o q lo lq = elim (cases_lt o (length t.operations)) [
    | inl l ↦ subst (λ (m : ℕ). (transition u o q).1 < m) (sym adds.same_states)
        (subst (λ (x : ℕ × ℕ). x.1 < length t.states) (sym (adds.same_operations o q l known))
        (closed o q l known))
    | inr more ↦ (let last : o ≡ length t.operations = omega (arith, more, lo, adds.one_more) in
        subst (λ (m : ℕ). m < length u.states) (sym (ap (λ (m : ℕ). (transition u m q).1) last
        ∙ adds.leaves q known)) lq)
  ]
    where
      known : q < length t.states
      known = omega (arith, lq, adds.same_states)

  same_run : (os : List ℕ) (q : ℕ) → AllByRecursion (λ o. o < length t.operations) os
      → q < length t.states → (responses_along u q os ≡ responses_along t q os)
      × (state_after u q os ≡ state_after t q os)
  same_run [] q h l = (refl, refl)
  same_run (o ∷ os) q h l =
      let e = adds.same_operations o q h.0 l in
      let r = same_run os (transition t o q).1 h.1 (closed o q h.0 l) in (
        ap (λ (x : ℕ × ℕ). x.0 ∷ responses_along u x.1 os) e
            ∙ ap (λ (rs : List ℕ). (transition t o q).0 ∷ rs) r.0,
        ap (λ (x : ℕ × ℕ). state_after u x.1 os) e ∙ r.1,
      )

  module _ (n : ℕ) (c : RawChoice) (is : IsRawChoice t n c) where
    same_pair : (order : List ℕ) → IsOrder (length c.operations) order → (j : ℕ)
        → pair_of u c order j ≡ pair_of t c order j
    same_pair order o j =
        let r = same_run (operations_of c order) c.state (operations_known t n c is order
        (recursion_from_All (λ p. p < length c.operations) order o.known)) is.state_known in
        pair_of-response_of u c order j
        ∙ (ap (λ (s : ℕ). option_map (λ x. let p : ℕ × ℕ = (x, s) in p)
        (response_of j order (responses_along u c.state (operations_of c order)))) r.1
        ∙ (ap (λ (rs : List ℕ). option_map (λ x. let p : ℕ × ℕ =
        (x, state_after t c.state (operations_of c order)) in p) (response_of j order rs)) r.0
        ∙ sym (pair_of-response_of t c order j)))

    outcome_of_t : (team : Team) (j : ℕ) (pair : ℕ × ℕ) → InOutcomeSet u c team j pair
        → InOutcomeSet t c team j pair
    outcome_of_t team j pair o = (o.0, o.1, o.2, sym (same_pair o.0 o.1 j) ∙ o.3)

    outcome_of_u : (team : Team) (j : ℕ) (pair : ℕ × ℕ) → InOutcomeSet t c team j pair
        → InOutcomeSet u c team j pair
    outcome_of_u team j pair o = (o.0, o.1, o.2, same_pair o.0 o.1 j ∙ o.3)

    raw_too : IsRawChoice u n c
    raw_too = record {
      state_known = omega (arith, is.state_known, adds.same_states);
      operations_known = All-weaker (λ o. o < length t.operations) (λ o. o < length u.operations)
          (λ o l. omega (arith, l, adds.one_more)) c.operations is.operations_known;
      one_operation_each = is.one_operation_each;
      one_team_each = is.one_team_each;
      someone_in_a = is.someone_in_a;
      someone_in_b = is.someone_in_b;
    }

  pub discerning_up : (n : ℕ) → IsDiscerning t n → IsDiscerning u n
  discerning_up n d = (
    d.0,
    raw_too n d.0 d.1,
    λ j pair a b. d.2 j pair (outcome_of_t n d.0 d.1 A j pair a) (outcome_of_t n d.0 d.1 B j pair b),
  )

  module _ (live : WitnessesAreLive) (n : ℕ) (c : RawChoice) (is : IsRawChoice u n c)
      (w : IsWitness u c) where
    state_of_t : c.state < length t.states
    state_of_t = omega (arith, is.state_known, adds.same_states)

    -- no process of a witness reads
    no_read : (i : ℕ) → i < length c.operations
        → slice_index c.operations i < length t.operations
    no_read i l = elim (cases_lt (slice_index c.operations i) (length t.operations)) [
      | inl few ↦ few
      | inr more ↦ absurd (live u n c is (λ moves. All-get_or (λ o. (transition u o c.state).1 ≢ c.state)
          c.operations i 0 l moves (ap (λ (o : ℕ). (transition u o c.state).1) (last more)
          ∙ adds.leaves c.state state_of_t)) w)
    ]
      where
        last : length t.operations ≤ slice_index c.operations i
            → slice_index c.operations i ≡ length t.operations
        last more = omega (
          arith,
          more,
          adds.one_more,
          All-get_or (λ o. o < length u.operations) c.operations i 0 l is.operations_known,
        )

    raw_of_t : IsRawChoice t n c
    raw_of_t = record {
      state_known = state_of_t;
      operations_known =
          All-from_get_or (λ o. o < length t.operations) c.operations 0 (λ i l. no_read i l);
      one_operation_each = is.one_operation_each;
      one_team_each = is.one_team_each;
      someone_in_a = is.someone_in_a;
      someone_in_b = is.someone_in_b;
    }

    discerning_of_t : IsDiscerning t n
    discerning_of_t = (
      c,
      raw_of_t,
      λ j pair a b. w j pair (outcome_of_u n c raw_of_t A j pair a)
          (outcome_of_u n c raw_of_t B j pair b),
    )

  pub discerning_down : WitnessesAreLive → (n : ℕ) → IsDiscerning u n → IsDiscerning t n
  discerning_down live n d = discerning_of_t live n d.0 d.1 d.2

  some_same : {x y : ℕ} → Some x ≡ Some y → x ≡ y
  some_same e = cc e

  pub views_up : (n : ℕ) → IsDiscerning t n → IsViewDiscerning u n
  views_up n d =
      let r = discerning_up n d in (
        λ o s. Some (length t.operations),
        λ o s v e. record {
          known = subst (λ (m : ℕ). m < length u.operations) (some_same e) (omega (arith, adds.one_more));
          same_state = λ q l. ap (λ (m : ℕ). (transition u m q).1) (sym (some_same e))
              ∙ adds.leaves q (omega (arith, l, adds.same_states));
        },
        r.0,
        r.1,
        λ j s p q a b same. (let e : p ≡ q = adds.tells p q
            (omega (arith, outcome_known u closed_too n r.0 r.1 A j (s, p) a, adds.same_states))
            (omega (arith, outcome_known u closed_too n r.0 r.1 B j (s, q) b, adds.same_states)) same in
            r.2 j (s, p) a (subst (λ (x : ℕ). InOutcomeSet u r.0 B j (s, x)) (sym e) b)),
      )

-- ---- the type with its read

at_front : (rows : List Row) (row : Row) (i : ℕ) → i < length rows
    → slice_index_or (rows ++ row ∷ []) i no_row ≡ slice_index_or rows i no_row
at_front [] row i l = absurd (omega (arith, l))
at_front (x ∷ rows) row zero l = refl
at_front (x ∷ rows) row (suc i) l = at_front rows row i (omega (arith, l))

at_end : (rows : List Row) (row : Row) → slice_index_or (rows ++ row ∷ []) (length rows) no_row ≡ row
at_end [] row = refl
at_end (x ∷ rows) row = at_end rows row

module _ (t : TypeTable) where
  abbrev read : Row
  read = record {
    name = [];
    response = range_with_len (length t.responses) (length t.states);
    next = range_with_len 0 (length t.states);
  }

  abbrev by_row : Row → ℕ → ℕ × ℕ
  by_row row q = (slice_index row.response q, slice_index row.next q)

  reading : (q : ℕ) → transition (with_read t) (length t.operations) q ≡ by_row read q
  reading q = ap (λ (row : Row). by_row row q) (at_end t.operations read)

  told : (q : ℕ) → q < length t.states
      → (transition (with_read t) (length t.operations) q).0 ≡ length t.responses + q
  told q l = ap (λ (x : ℕ × ℕ). x.0) (reading q)
      ∙ get_or-range_with_len (length t.responses) (length t.states) q 0 l

  pub adds_read : AddsRead t (with_read t)
  adds_read = record {
    same_states = refl;
    one_more = omega (arith, length-append t.operations (read ∷ []));
    same_operations = λ o q lo lq.
        ap (λ (row : Row). by_row row q) (at_front t.operations read o lo);
    leaves = λ q l. omega (
      arith,
      ap (λ (x : ℕ × ℕ). x.1) (reading q),
      get_or-range_with_len 0 (length t.states) q 0 l,
    );
    tells = λ p q lp lq e. omega (arith, told p lp, told q lq, e);
  }
