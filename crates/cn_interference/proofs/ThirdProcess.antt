-- Operations that interfere hide from a third process who was first.
use Rattle.std.proofs.Common.{◌≡◌, ◌≢◌, ◌⊎◌, ℕ, zero, suc, ◌<◌, ◌≤◌, inl, inr, [], ◌∷◌, length, Some, None, refl, sym, ap, ◌∙◌, subst, arith}
use Rattle.std.specs.Prelude.{slice_get, slice_index}
use Rattle.std.proofs.lemmas.Bool.{cases_order, eq-eqb}
use Rattle.std.proofs.lemmas.Option.{slice_get-get_or}
use Rattle.cn_table.specs.TypeTable.{IsTypeTable, TypeTable}
use Rattle.cn_table.proofs.ReachLemmas.{next_below}
use Rattle.cn_choice.specs.declared.team.Team.{Team}
use Rattle.cn_choice.specs.declared.team.Team.TheVariants.{A, B}
use Rattle.cn_choice.specs.Discerning.{IsDiscerning, IsNumberUpTo, IsWitness}
use Rattle.cn_choice.specs.Moves.{answer_of, next_of}
use Rattle.cn_choice.specs.OutcomeSets.{InOutcomeSet}
use Rattle.cn_choice.specs.RawChoices.{IsRawChoice, RawChoice}
use Rattle.cn_choice.proofs.OrderLemmas.ShortOrders.{alone_gets, known_two, second_gets}
use Rattle.cn_choice.proofs.OrderLemmas.LastMoves.{known_last, last_self, order_from, pair_whole}
use Rattle.cn_choice.proofs.ListLemmas.Members.{IsIn}
use Rattle.cn_interference.specs.Interference.{AllHide, AllInterfere, Interfere, NoneAnswers, TellsNothing, next}

-- of the first three numbers, one that is neither k nor l
third : (k l : ℕ) → (m : ℕ) × (m < 3) × (k ≢ m) × (l ≢ m)
third zero zero = (1, omega arith, omega arith, omega arith)
third zero (suc zero) = (2, omega arith, omega arith, omega arith)
third zero (suc (suc l)) = (1, omega arith, omega arith, omega arith)
third (suc zero) zero = (2, omega arith, omega arith, omega arith)
third (suc zero) (suc l) = (0, omega arith, omega arith, omega arith)
third (suc (suc k)) zero = (1, omega arith, omega arith, omega arith)
third (suc (suc k)) (suc l) = (0, omega arith, omega arith, omega arith)

module _ (t : TypeTable) (c : RawChoice) (team : Team) (j : ℕ) (l : j < length c.operations) where
  -- what process j gets behind two others
  third_gets : (i k : ℕ) → i < length c.operations → k < length c.operations → i ≢ k → i ≢ j → k ≢ j
      → slice_get c.marks i ≡ Some team
      → InOutcomeSet t c team j (answer_of t c j (next_of t c k (next_of t c i c.state)), next_of t c j (next_of t c k (next_of t c i c.state)))
  third_gets i k u v apart d e m = (
    i ∷ k ∷ j ∷ [],
    order_from (length c.operations) i (k ∷ j ∷ [])
        (known_last (length c.operations) (i ∷ k ∷ []) j (known_two (length c.operations) i k u v apart) differs l),
    (i, refl, m),
    pair_whole t c j (i ∷ k ∷ j ∷ []) _ _ (last_self t c j (i ∷ k ∷ []) (λ h. differs j h refl)) refl,
  )
    where
      differs : (x : ℕ) → IsIn x (i ∷ k ∷ []) → x ≢ j
      differs x h = elim h [
        | inl same ↦ subst (λ (y : ℕ). y ≢ j) same d
        | inr h ↦ elim h [ inl same ↦ subst (λ (y : ℕ). y ≢ j) same e | inr a ↦ absurd a ]
      ]

  -- what process j gets before another one
  early_gets : (k : ℕ) → k < length c.operations → j ≢ k → slice_get c.marks j ≡ Some team
      → InOutcomeSet t c team j (answer_of t c j c.state, next_of t c k (next_of t c j c.state))
  early_gets k u apart m = (
    j ∷ k ∷ [],
    order_from (length c.operations) j (k ∷ []) (known_two (length c.operations) j k l u apart),
    (j, refl, m),
    pair_whole t c j (j ∷ k ∷ []) _ _ (rw (eq-eqb j j refl) refl) refl,
  )

-- a process of each team, with their operations
pub record Movers (t : TypeTable) (c : RawChoice) : Type 0 where
  pub p : ℕ
  pub q : ℕ
  pub p_in : p < length c.operations
  pub q_in : q < length c.operations
  pub apart : p ≢ q
  pub p_mark : slice_get c.marks p ≡ Some A
  pub q_mark : slice_get c.marks q ≡ Some B
  pub p_known : slice_index c.operations p < length t.operations
  pub q_known : slice_index c.operations q < length t.operations

movers : (t : TypeTable) (n : ℕ) (c : RawChoice) → IsRawChoice t n c → Movers t c
movers t n c is =
    let a = is.someone_in_a in
    let b = is.someone_in_b in
    let a_in : a.0 < length c.operations = omega (arith, a.1, is.one_operation_each, is.one_team_each) in
    let b_in : b.0 < length c.operations = omega (arith, b.1, is.one_operation_each, is.one_team_each) in
    let a_mark : slice_get c.marks a.0 ≡ Some A = slice_get-get_or c.marks a.0 A a.1 ∙ ap Some a.2 in
    let b_mark : slice_get c.marks b.0 ≡ Some B = slice_get-get_or c.marks b.0 B b.1 ∙ ap Some b.2 in
    record {
      p = a.0;
      q = b.0;
      p_in = a_in;
      q_in = b_in;
      apart = λ e. let two : Some A ≡ Some B = sym a_mark ∙ (ap (slice_get c.marks) e ∙ b_mark) in absurd (cc two);
      p_mark = a_mark;
      q_mark = b_mark;
      p_known = is.operations_known a.0 0 a_in;
      q_known = is.operations_known b.0 0 b_in;
    }

-- where a process of team A and one of team B interfere, a third one sees the same after either
refuted_by : (t : TypeTable) (c : RawChoice) (m : Movers t c) (r : ℕ) → r < length c.operations → m.p ≢ r → m.q ≢ r
    → Interfere t (slice_index c.operations m.p) (slice_index c.operations m.q) c.state → IsWitness t c → ⊥
refuted_by t c m r l d e interfere w =
    let pq = third_gets t c A r l m.p m.q m.p_in m.q_in m.apart d e m.p_mark in
    let qp = third_gets t c B r l m.q m.p m.q_in m.p_in (λ s. m.apart (sym s)) e d m.q_mark in
    elim interfere [
      | inl same ↦ w r _ (subst (λ (s : ℕ). InOutcomeSet t c A r (answer_of t c r s, next_of t c r s)) same pq) qp
      | inr h ↦ elim h [
        | inl same ↦ w r _ (second_gets t c A r l m.p m.p_in d m.p_mark) (subst (λ (s : ℕ). InOutcomeSet t c B r (answer_of t c r s, next_of t c r s)) same qp)
        | inr same ↦ w r _ (subst (λ (s : ℕ). InOutcomeSet t c A r (answer_of t c r s, next_of t c r s)) same pq) (second_gets t c B r l m.q m.q_in e m.q_mark)
      ]
    ]

pub not_for_three : (t : TypeTable) → AllInterfere t → (n : ℕ) → 3 ≤ n → ¬ IsDiscerning t n
not_for_three t all n some (c, is, w) =
    let m = movers t n c is in
    let r = third m.p m.q in
    refuted_by t c m r.0 (omega (arith, r.1, is.one_operation_each)) r.2 r.3
    (all (slice_index c.operations m.p) m.p_known (slice_index c.operations m.q) m.q_known c.state is.state_known) w

pub two_at_most : (t : TypeTable) (limit n : ℕ) → AllInterfere t → IsNumberUpTo t limit (Some n) → n ≡ 2
two_at_most t limit n all is = elim (cases_order n 2) [
  | inl e ↦ e
  | inr o ↦ elim o [
    | inl less ↦ absurd (omega (arith, less, is.0))
    | inr more ↦ absurd (not_for_three t all n (omega (arith, more)) is.2)
  ]
]

-- ---- two processes

-- a process that gets the same whether or not the other one goes first
tells_gets : (t : TypeTable) (c : RawChoice) (own other : Team) (p q : ℕ) → p < length c.operations → q < length c.operations → p ≢ q
    → slice_get c.marks p ≡ Some own → slice_get c.marks q ≡ Some other
    → TellsNothing t (slice_index c.operations p) (slice_index c.operations q) c.state
    → (pair : ℕ × ℕ) × InOutcomeSet t c own p pair × InOutcomeSet t c other p pair
tells_gets t c own other p q l u apart m k tells =
    let second = second_gets t c other p l q u (λ s. apart (sym s)) k in
    elim tells.1 [
      | inl same ↦ (
        (answer_of t c p (next_of t c q c.state), next_of t c p (next_of t c q c.state)),
        equal (answer_of t c p c.state) (answer_of t c p (next_of t c q c.state)) (next_of t c q (next_of t c p c.state)) (next_of t c p (next_of t c q c.state))
            (sym tells.0) same (early_gets t c own p l q u apart m),
        second,
      )
      | inr same ↦ (
        (answer_of t c p (next_of t c q c.state), next_of t c p (next_of t c q c.state)),
        equal (answer_of t c p c.state) (answer_of t c p (next_of t c q c.state)) (next_of t c p c.state) (next_of t c p (next_of t c q c.state))
            (sym tells.0) (sym same) (alone_gets t c own p l m),
        second,
      )
    ]
  where
    equal : (r s x y : ℕ) → r ≡ s → x ≡ y → InOutcomeSet t c own p (r, x) → InOutcomeSet t c own p (s, y)
    equal r s x y e f h = subst (λ (z : ℕ). InOutcomeSet t c own p (s, z)) f (subst (λ (z : ℕ). InOutcomeSet t c own p (z, x)) e h)

pub not_for_two : (t : TypeTable) → AllHide t → (n : ℕ) → 2 ≤ n → ¬ IsDiscerning t n
not_for_two t all n some (c, is, w) =
    let m = movers t n c is in
    elim (all (slice_index c.operations m.p) m.p_known (slice_index c.operations m.q) m.q_known c.state is.state_known) [
      | inl tells ↦ (let g = tells_gets t c A B m.p m.q m.p_in m.q_in m.apart m.p_mark m.q_mark tells in w m.p g.0 g.1 g.2)
      | inr tells ↦ (let g = tells_gets t c B A m.q m.p m.q_in m.p_in (λ s. m.apart (sym s)) m.q_mark m.p_mark tells in w m.q g.0 g.2 g.1)
    ]

pub none_hidden : (t : TypeTable) (limit : ℕ) → AllHide t → IsNumberUpTo t limit None
none_hidden t limit all m l u = not_for_two t all m l

-- operations that interfere and answer nothing tell nothing
pub all_hide : (t : TypeTable) → IsTypeTable t → AllInterfere t → NoneAnswers t → AllHide t
all_hide t table interfere none f fs g gs q qs = elim (interfere f fs g gs q qs) [
  | inl same ↦ inl (none f fs (next t g q) (next_below t g q table gs qs) q qs, inl same)
  | inr h ↦ elim h [
    | inl same ↦ inl (none f fs (next t g q) (next_below t g q table gs qs) q qs, inr same)
    | inr same ↦ inr (none g gs (next t f q) (next_below t f q table fs qs) q qs, inr same)
  ]
]

-- ---- two states

pub same_or_not : (x y : ℕ) → (x ≡ y) ⊎ (x ≢ y)
same_or_not x y = elim (cases_order x y) [
  | inl e ↦ inl e
  | inr o ↦ inr (λ e. elim o [ inl l ↦ absurd (omega (arith, l, e)) | inr l ↦ absurd (omega (arith, l, e)) ])
]

-- of two states, those that are not the third are the same
other_state : (x y z n : ℕ) → n ≡ 2 → x < n → y < n → z < n → x ≢ z → y ≢ z → x ≡ y
other_state x y z n two l k m d e = elim (cases_order x y) [
  | inl same ↦ same
  | inr o ↦ elim o [
    | inl less ↦ absurd (omega (arith, less, two, l, k, m, d, e))
    | inr less ↦ absurd (omega (arith, less, two, l, k, m, d, e))
  ]
]

pub two_states : (t : TypeTable) → IsTypeTable t → length t.states ≡ 2 → AllInterfere t
two_states t table two f fs g gs q qs =
    let fq : next t f q < length t.states = next_below t f q table fs qs in
    let gq : next t g q < length t.states = next_below t g q table gs qs in
    elim (same_or_not (next t f q) q) [
      | inl e ↦ inr (inr (ap (next t g) e))
      | inr d ↦ elim (same_or_not (next t g q) q) [
        | inl e ↦ inr (inl (ap (next t f) e))
        | inr h ↦ both_move (other_state (next t f q) (next t g q) q (length t.states) two fq gq qs d h)
            (next_below t f (next t f q) table fs fq) (next_below t g (next t f q) table gs fq) fq
      ]
    ]
  where
    -- both lead to the other state
    both_move : next t f q ≡ next t g q → next t f (next t f q) < length t.states → next t g (next t f q) < length t.states
        → next t f q < length t.states → Interfere t f g q
    both_move same ff gf a = elim (same_or_not (next t f (next t f q)) (next t f q)) [
      | inl e ↦ inr (inl (ap (next t f) (sym same) ∙ e))
      | inr y ↦ elim (same_or_not (next t g (next t f q)) (next t f q)) [
        | inl e ↦ inr (inr (e ∙ same))
        | inr z ↦ inl (sym (other_state (next t f (next t f q)) (next t g (next t f q)) (next t f q) (length t.states) two ff gf a y z) ∙ ap (next t f) same)
      ]
    ]
