-- When a choice is a witness, by the words that show its processes what they see.
use Rattle.std.proofs.Common.{◌≡◌, ◌≢◌, ℕ, zero, suc, ◌+◌, ◌<◌, ◌≤◌, ◌⊎◌, inl, inr, ◌↔◌, List, [], ◌∷◌, ◌++◌, length, map, get_or, replicate, refl, sym, ap, ◌∙◌, subst, arith, Some, Contains, length-append, Bool, true, false, not, true≢false}
use Rattle.std.specs.Prelude.{slice_index, slice_get, IsTrue}
use Rattle.std.proofs.lemmas.List.{get_or_default, map-append}
use Rattle.std.proofs.lemmas.List.Elements.{All-contains, Contains-append_left, Contains-append_right, Contains-get_or}
use Rattle.std.proofs.lemmas.Option.{get_or_from_slice_get, same_Some, slice_get_within}
use Rattle.cn_table.specs.TypeTable.{TypeTable, transition}
use Rattle.cn_table.specs.Run.{state_after}
use Rattle.cn_choice.specs.Canonical.{Choice, raw_choice_of}
use Rattle.cn_choice.specs.declared.team.Team.{Team}
use Rattle.cn_choice.specs.declared.team.Team.TheVariants.{A, B}
use Rattle.cn_choice.specs.Discerning.{IsWitness}
use Rattle.cn_choice.specs.Orders.{IsOrder}
use Rattle.cn_choice.specs.OutcomeSets.{InOutcomeSet, operations_of, pair_of}
use Rattle.cn_choice.specs.RawChoices.{IsRawChoice, RawChoice}
use Rattle.cn_choice.proofs.OrderLemmas.LastMoves.{last_self, pair_whole}
use Rattle.cn_stocks.specs.Words.{BeginsWith, IsWithin, Shows, times}
use Rattle.cn_stocks.proofs.Steps.{shows_asked}
use Rattle.cn_stocks.proofs.StockLemmas.{before_or_behind}
use Rattle.cn_stocks.proofs.Teams.{operations_known}
use Rattle.cn_stocks.proofs.Times.{place_in, times_append}
use Rattle.cn_stocks.proofs.WordOrders.{order_within, seen, to_order}
use Rattle.cn_joins.specs.Evidence.{NoticesItself}
use Rattle.cn_joins.proofs.TwoProcesses.{notices, outcome, pair_is_witness}
use Rattle.cn_stock_check.specs.Needs.{HasCounts}
use Rattle.cn_stock_check.specs.Seen.{AreCounts, BeginsAmong, ShowsAmong, TeamsMeet}

-- ---- what a process sees, by a word

begins_at : (f : ℕ → ℕ) (order : List ℕ) (p : ℕ) → slice_get order 0 ≡ Some p → BeginsWith (f p) (map f order)
begins_at f [] p e = absurd (cc e)
begins_at f (x ∷ xs) p e = ap f (same_Some x p e)

-- the first process of an order that shows the pair, and its word
record ShownBy (t : TypeTable) (c : RawChoice) (team : Team) (j r q : ℕ) : Type 0 where
  first : ℕ
  known : first < length c.operations
  marked : slice_get c.marks first ≡ Some team
  shows : Shows t c.state c.operations (slice_index c.operations first) (slice_index c.operations j) r q

shown : (t : TypeTable) (c : RawChoice) (team : Team) (j r q : ℕ) → InOutcomeSet t c team j (r, q) → ShownBy t c team j r q
shown t c team j r q o =
    let x = seen c t o.0 j r q o.3 in
    let first = o.2.0 in
    let word : operations_of c o.0 ≡ operations_of c x.before ++ slice_index c.operations j ∷ operations_of c x.after =
    ap (operations_of c) x.is ∙ map-append (λ p. slice_index c.operations p) x.before (j ∷ x.after) in record {
      first = first;
      known = subst (λ (p : ℕ). p < length c.operations) (get_or_from_slice_get o.0 0 first 0 o.2.1) (o.1.known 0 0 (slice_get_within o.0 0 first o.2.1));
      marked = o.2.2;
      shows = record {
        before = operations_of c x.before;
        after = operations_of c x.after;
        within = subst (λ (w : List ℕ). IsWithin c.operations w) word (order_within c o.0 o.1);
        begins = subst (λ (w : List ℕ). BeginsWith (slice_index c.operations first) w) word (begins_at (λ p. slice_index c.operations p) o.0 first o.2.1);
        answer = x.answer;
        ends = ap (λ (w : List ℕ). state_after t c.state w) (sym word) ∙ x.ends;
      };
    }

-- ---- teams

abbrev marks_of : List ℕ → List ℕ → List Team
marks_of a b = replicate (length a) A ++ replicate (length b) B

all_b : (b : List ℕ) (p : ℕ) → p < length b → slice_get (replicate (length b) B) p ≡ Some B
all_b [] p l = absurd (omega (arith, l))
all_b (x ∷ b) zero l = refl
all_b (x ∷ b) (suc p) l = all_b b p (omega (arith, l))

-- the team of a process, and its operation there
team_at : (a b : List ℕ) (p : ℕ) → p < length (a ++ b)
    → ((slice_get (marks_of a b) p ≡ Some A) × Contains a (slice_index (a ++ b) p)) ⊎ ((slice_get (marks_of a b) p ≡ Some B) × Contains b (slice_index (a ++ b) p))
team_at [] b p l = inr (all_b b p l, (p, l, get_or_default b p (slice_index b p) 0 l))
team_at (x ∷ a) b zero l = inl (refl, (0, omega arith, refl))
team_at (x ∷ a) b (suc p) l = elim (team_at a b p (omega (arith, l))) [
  | inl h ↦ inl (h.0, Contains-append_right (x ∷ []) a (slice_index (a ++ b) p) h.1)
  | inr h ↦ inr h
]

-- a process of the team with the operation
record HasProcess (a b : List ℕ) (team : Team) (o : ℕ) : Type 0 where
  process : ℕ
  known : process < length (a ++ b)
  is : slice_index (a ++ b) process ≡ o
  marked : slice_get (marks_of a b) process ≡ Some team

in_a : (a b : List ℕ) (o i : ℕ) → i < length a → get_or a i o ≡ o → HasProcess a b A o
in_a [] b o i l e = absurd (omega (arith, l))
in_a (x ∷ a) b o zero l e = record { process = 0; known = omega arith; is = e; marked = refl }
in_a (x ∷ a) b o (suc i) l e = let r = in_a a b o i (omega (arith, l)) e in record { process = suc r.process; known = omega (arith, r.known); is = r.is; marked = r.marked }

in_b : (a b : List ℕ) (o i : ℕ) → i < length b → get_or b i o ≡ o → HasProcess a b B o
in_b [] b o i l e = record { process = i; known = l; is = get_or_default b i 0 o l ∙ e; marked = all_b b i l }
in_b (x ∷ a) b o i l e = let r = in_b a b o i l e in record { process = suc r.process; known = omega (arith, r.known); is = r.is; marked = r.marked }

-- ---- words that begin in a team

among : (team : List ℕ) (f : ℕ) (word : List ℕ) → Contains team f → BeginsWith f word → BeginsAmong team word
among team f [] h b = absurd b
among team f (x ∷ xs) h b = subst (Contains team) (sym b) h

begun : (team word : List ℕ) → BeginsAmong team word → (f : ℕ) × Contains team f × BeginsWith f word
begun team [] b = absurd b
begun team (x ∷ xs) b = (x, b, refl)

module _ (t : TypeTable) (start : ℕ) (stock counts : List ℕ) (has : HasCounts counts stock) where
  to_among : (team : List ℕ) (f o r q : ℕ) → Contains team f → Shows t start stock f o r q → ShowsAmong t start team counts o r q
  to_among team f o r q h s = record {
    before = s.before;
    after = s.after;
    room = λ x. (let e = has x in let l = s.within x in omega (arith, e, l));
    begins = among team f (s.before ++ o ∷ s.after) h s.begins;
    answer = s.answer;
    ends = s.ends;
  }

  from_among : (team : List ℕ) (o r q : ℕ) → ShowsAmong t start team counts o r q → (f : ℕ) × Contains team f × Shows t start stock f o r q
  from_among team o r q s =
      let f = begun team (s.before ++ o ∷ s.after) s.begins in (
        f.0,
        f.1,
        record {
          before = s.before;
          after = s.after;
          within = λ x. (let e = has x in let l = s.room x in omega (arith, e, l));
          begins = f.2;
          answer = s.answer;
          ends = s.ends;
        },
      )

-- ---- teams with no common operation

module _ (t : TypeTable) (n : ℕ) (c : Choice) (is : IsRawChoice t n (raw_choice_of c)) where
  long : (p : ℕ) → p < n → p < length (c.a ++ c.b)
  long p l = let e = is.one_operation_each in omega (arith, e, l)

  module _ (none : (o : ℕ) → Contains c.a o → ¬ Contains c.b o) where
    twins : (p q : ℕ) → p < n → q < n → slice_index (c.a ++ c.b) p ≡ slice_index (c.a ++ c.b) q → slice_get (marks_of c.a c.b) p ≡ Some A → slice_get (marks_of c.a c.b) q ≡ Some B → ⊥
    twins p q l u e a b = elim (team_at c.a c.b p (long p l)) [
      | inr h ↦ absurd (cc (sym a ∙ h.0))
      | inl h ↦ elim (team_at c.a c.b q (long q u)) [
        | inl g ↦ absurd (cc (sym b ∙ g.0))
        | inr g ↦ none (slice_index (c.a ++ c.b) q) (subst (Contains c.a) e h.1) g.1
      ]
    ]

    all_a : (f : ℕ) → Contains c.a f → (p : ℕ) → p < n → slice_index (c.a ++ c.b) p ≡ f → slice_get (marks_of c.a c.b) p ≡ Some A
    all_a f h p l e = elim (team_at c.a c.b p (long p l)) [ inl g ↦ g.0 | inr g ↦ absurd (none f h (subst (Contains c.b) e g.1)) ]

    all_in_b : (f : ℕ) → Contains c.b f → (p : ℕ) → p < n → slice_index (c.a ++ c.b) p ≡ f → slice_get (marks_of c.a c.b) p ≡ Some B
    all_in_b f h p l e = elim (team_at c.a c.b p (long p l)) [ inl g ↦ absurd (none f (subst (Contains c.a) e g.1) h) | inr g ↦ g.0 ]

    module _ (counts : List ℕ) (has : HasCounts counts (c.a ++ c.b)) where
      pub no_witness : TeamsMeet t c.state c.a c.b counts → ¬ IsWitness t (raw_choice_of c)
      no_witness m w =
          let o = m.0 in
          let r = m.1.0 in
          let q = m.1.1 in
          let f = from_among t c.state (c.a ++ c.b) counts has c.a o r q m.1.2 in
          let g = from_among t c.state (c.a ++ c.b) counts has c.b o r q m.1.3 in
          let here = place_in o (c.a ++ c.b) (shows_asked t c.state (c.a ++ c.b) f.0 o r q f.2) in
          w here.0 (r, q) (outcome t n (raw_choice_of c) is w twins A f.0 o r q here.0 (all_a f.0 f.1) here.1 here.2 f.2)
          (outcome t n (raw_choice_of c) is w twins B g.0 o r q here.0 (all_in_b g.0 g.1) here.1 here.2 g.2)

      pub a_witness : ¬ TeamsMeet t c.state c.a c.b counts → IsWitness t (raw_choice_of c)
      a_witness apart j pair x y =
          let f = shown t (raw_choice_of c) A j pair.0 pair.1 x in
          let g = shown t (raw_choice_of c) B j pair.0 pair.1 y in
          elim (team_at c.a c.b f.first f.known) [
            | inr h ↦ absurd (cc (sym f.marked ∙ h.0))
            | inl h ↦ elim (team_at c.a c.b g.first g.known) [
              | inl k ↦ absurd (cc (sym g.marked ∙ k.0))
              | inr k ↦ apart (
                slice_index (c.a ++ c.b) j,
                (
                  pair.0,
                  pair.1,
                  to_among t c.state (c.a ++ c.b) counts has c.a (slice_index (c.a ++ c.b) f.first) (slice_index (c.a ++ c.b) j) pair.0 pair.1 h.1 f.shows,
                  to_among t c.state (c.a ++ c.b) counts has c.b (slice_index (c.a ++ c.b) g.first) (slice_index (c.a ++ c.b) j) pair.0 pair.1 k.1 g.shows,
                ),
              )
            ]
          ]

  -- ---- teams with a common operation

  third : (p q : ℕ) → 3 ≤ n → (k : ℕ) × (k < n) × (k ≢ p) × (k ≢ q)
  third zero zero l = (1, omega (arith, l), λ e. absurd (omega (arith, e)), λ e. absurd (omega (arith, e)))
  third zero (suc zero) l = (2, omega (arith, l), λ e. absurd (omega (arith, e)), λ e. absurd (omega (arith, e)))
  third zero (suc (suc q)) l = (1, omega (arith, l), λ e. absurd (omega (arith, e)), λ e. absurd (omega (arith, e)))
  third (suc zero) zero l = (2, omega (arith, l), λ e. absurd (omega (arith, e)), λ e. absurd (omega (arith, e)))
  third (suc (suc p)) zero l = (1, omega (arith, l), λ e. absurd (omega (arith, e)), λ e. absurd (omega (arith, e)))
  third (suc p) (suc q) l = (0, omega (arith, l), λ e. absurd (omega (arith, e)), λ e. absurd (omega (arith, e)))

  abbrev operation_of : ℕ → ℕ
  operation_of p = slice_index (c.a ++ c.b) p

  -- what a process sees behind one with the operation
  abbrev see_by : ℕ → ℕ → ℕ × ℕ
  see_by o k = ((transition t (operation_of k) (transition t o c.state).1).0, (transition t (operation_of k) (transition t o c.state).1).1)

  pair_after : (p k : ℕ) → k ≢ p → pair_of t (raw_choice_of c) (p ∷ k ∷ []) k ≡ Some (see_by (operation_of p) k)
  pair_after p k d =
      pair_whole t (raw_choice_of c) k (p ∷ k ∷ []) (transition t (operation_of k) (transition t (operation_of p) c.state).1).0 (transition t (operation_of k) (transition t (operation_of p) c.state).1).1
      (last_self t (raw_choice_of c) k (p ∷ []) (λ i. elim i [ inl e ↦ d (sym e) | inr a ↦ absurd a ])) refl

  two_order : (p k : ℕ) → p < length (c.a ++ c.b) → k < length (c.a ++ c.b) → k ≢ p → IsOrder (length (c.a ++ c.b)) (p ∷ k ∷ [])
  two_order p k l u d =
      to_order (length (c.a ++ c.b)) (p ∷ k ∷ []) (λ e. absurd (cc e))
      (λ x i. elim i [ inl e ↦ subst (λ (y : ℕ). y < length (c.a ++ c.b)) e l | inr j ↦ elim j [ inl e ↦ subst (λ (y : ℕ). y < length (c.a ++ c.b)) e u | inr a ↦ absurd a ] ])
      (((λ e. d (sym e)), tt), (tt, tt))

  pub no_common : 3 ≤ n → (o : ℕ) → Contains c.a o → Contains c.b o → ¬ IsWitness t (raw_choice_of c)
  no_common l o a b w =
      let p = in_a c.a c.b o a.0 a.1 a.2 in
      let q = in_b c.a c.b o b.0 b.1 b.2 in
      let k = third p.process q.process l in
      let same : operation_of q.process ≡ operation_of p.process = q.is ∙ sym p.is in
      w k.0 (see_by (operation_of p.process) k.0)
      (p.process ∷ k.0 ∷ [], two_order p.process k.0 p.known (long k.0 k.1) k.2, (p.process, refl, p.marked), pair_after p.process k.0 k.2)
      (q.process ∷ k.0 ∷ [], two_order q.process k.0 q.known (long k.0 k.1) k.3, (q.process, refl, q.marked), pair_after q.process k.0 k.3 ∙ ap (λ (x : ℕ). Some (see_by x k.0)) same)

-- one operation alone
single : (xs : List ℕ) (o : ℕ) → length xs ≡ 1 → Contains xs o → xs ≡ o ∷ []
single [] o l h = absurd (omega (arith, l))
single (x ∷ y ∷ xs) o l h = absurd (omega (arith, l))
single (x ∷ []) o l h = at h.0 h.1 h.2
  where
    at : (i : ℕ) → i < 1 → get_or (x ∷ []) i o ≡ o → x ∷ [] ≡ o ∷ []
    at zero l e = ap (λ (y : ℕ). y ∷ []) e
    at (suc i) l e = absurd (omega (arith, l))

contains_some : (xs : List ℕ) (o : ℕ) → Contains xs o → 1 ≤ length xs
contains_some xs o h = let l = h.1 in omega (arith, l)

of_two : (t : TypeTable) (start o : ℕ) → IsRawChoice t 2 (raw_choice_of (record { state = start; a = o ∷ []; b = o ∷ [] }))
    → IsWitness t (raw_choice_of (record { state = start; a = o ∷ []; b = o ∷ [] })) ↔ NoticesItself t start o
of_two t start o is = (
  λ w. notices t (raw_choice_of (record { state = start; a = o ∷ []; b = o ∷ [] })) is w 0 1 (omega arith) (omega arith) refl refl refl,
  λ h. pair_is_witness t start o is.state_known (is.operations_known 0 0 (omega arith)) h,
)

-- two processes with one operation
pub for_two : (t : TypeTable) (c : Choice) → IsRawChoice t 2 (raw_choice_of c) → (o : ℕ) → Contains c.a o → Contains c.b o → IsWitness t (raw_choice_of c) ↔ NoticesItself t c.state o
for_two t c is o a b =
    let whole = is.one_operation_each in
    let parts = length-append c.a c.b in
    let some_a = contains_some c.a o a in
    let some_b = contains_some c.b o b in
    let only_a : c.a ≡ o ∷ [] = single c.a o (omega (arith, whole, parts, some_a, some_b)) a in
    let only_b : c.b ≡ o ∷ [] = single c.b o (omega (arith, whole, parts, some_a, some_b)) b in
    let same : ◌≡◌ {A = Choice} (record { state = c.state; a = o ∷ []; b = o ∷ [] }) c = ap (λ (x : List ℕ). record { state = c.state; a = x; b = o ∷ [] }) (sym only_a)
    ∙ ap (λ (x : List ℕ). record { state = c.state; a = c.a; b = x }) (sym only_b) in
    subst (λ (d : Choice). IsRawChoice t 2 (raw_choice_of d) → IsWitness t (raw_choice_of d) ↔ NoticesItself t d.state o) same (of_two t c.state o) is

-- ---- how often the teams have each operation

pub counts_known : (t : TypeTable) (n : ℕ) (c : Choice) (counts : List ℕ) → IsRawChoice t n (raw_choice_of c) → HasCounts counts (c.a ++ c.b) → AreCounts t counts
counts_known t n c counts is has o l = operations_known t n (raw_choice_of c) is o (let e = has o in omega (arith, e, l))

pub has_counts : (t : TypeTable) (n : ℕ) (c : Choice) (counts : List ℕ) → IsRawChoice t n (raw_choice_of c) → length t.operations ≤ 8 → ((o : ℕ) → o < 8 → slice_index counts o ≡ times o c.a + times o c.b)
    → ((o : ℕ) → 8 ≤ o → slice_index counts o ≡ 0) → HasCounts counts (c.a ++ c.b)
has_counts t n c counts is few each rest o = elim (before_or_behind o 8) [
  | inl l ↦ each o l ∙ sym (times_append o c.a c.b)
  | inr l ↦ rest o l ∙ sym (none (before_or_behind 0 (times o (c.a ++ c.b))) l)
]
  where
    none : (0 < times o (c.a ++ c.b)) ⊎ (times o (c.a ++ c.b) ≤ 0) → 8 ≤ o → times o (c.a ++ c.b) ≡ 0
    none (inl some) l = let k = operations_known t n (raw_choice_of c) is o (omega (arith, some)) in absurd (omega (arith, k, few, l))
    none (inr z) l = omega (arith, z)

-- ---- what the parts of a choice are

module _ (t : TypeTable) (n : ℕ) (c : Choice) (is : IsRawChoice t n (raw_choice_of c)) where
  pub operation_known : (o : ℕ) → Contains c.a o → o < length t.operations
  operation_known o h = All-contains (λ (x : ℕ). x < length t.operations) (c.a ++ c.b) o is.operations_known (Contains-append_left c.a c.b o h)

  pub teams_long : length c.a + length c.b ≡ n
  teams_long = let whole = is.one_operation_each in let parts = length-append c.a c.b in omega (arith, whole, parts)

  pub some_in_a : 0 < length c.a
  some_in_a = some c.a c.b is.someone_in_a
    where
      some : (a b : List ℕ) → Contains (marks_of a b) A → 0 < length a
      some (x ∷ a) b h = omega arith
      some [] b h = absurd (no_a b h.0 h.1 h.2)
        where
          no_a : (b : List ℕ) (i : ℕ) → i < length (replicate (length b) B) → get_or (replicate (length b) B) i A ≡ A → ⊥
          no_a [] i l e = absurd (omega (arith, l))
          no_a (x ∷ b) zero l e = absurd (cc e)
          no_a (x ∷ b) (suc i) l e = no_a b i (omega (arith, l)) e

  pub first_known : get_or c.a 0 0 < length t.operations
  first_known = operation_known (get_or c.a 0 0) (Contains-get_or c.a 0 0 some_in_a)

  pub two_alike : n ≡ 2 → (o : ℕ) × Contains c.a o × Contains c.b o → (b : Bool) → IsTrue b ↔ NoticesItself t c.state (get_or c.a 0 0) → IsTrue b ↔ IsWitness t (raw_choice_of c)
  two_alike two h b noticed =
      let at = subst (λ (m : ℕ). IsRawChoice t m (raw_choice_of c)) two is in
      let a_one = contains_some c.a h.0 h.1 in
      let b_one = contains_some c.b h.0 h.2 in
      let only : c.a ≡ h.0 ∷ [] = single c.a h.0 (let whole = teams_long in omega (arith, whole, two, a_one, b_one)) h.1 in
      let w = for_two t c at h.0 h.1 h.2 in
      let n = subst (λ (x : ℕ). IsTrue b ↔ NoticesItself t c.state x) (ap (λ (l : List ℕ). get_or l 0 0) only) noticed in
      ((λ y. w.1 (n.0 y)), (λ y. n.1 (w.0 y)))

  pub more_alike : n ≢ 2 → (o : ℕ) × Contains c.a o × Contains c.b o → IsTrue false ↔ IsWitness t (raw_choice_of c)
  more_alike other h = (
    λ y. absurd (true≢false (sym y)),
    λ w. absurd (no_common t n c is (let whole = teams_long in let x = contains_some c.a h.0 h.1 in let y = contains_some c.b h.0 h.2 in omega (arith, whole, x, y, other)) h.0 h.1 h.2 w),
  )

  -- teams with no common operation
  pub by_words : (counts : List ℕ) → HasCounts counts (c.a ++ c.b) → ¬ ((o : ℕ) × Contains c.a o × Contains c.b o) → (meet : Bool) → IsTrue meet ↔ TeamsMeet t c.state c.a c.b counts
      → IsTrue (not meet) ↔ IsWitness t (raw_choice_of c)
  by_words counts has apart meet m = by_test meet refl
    where
      none : (o : ℕ) → Contains c.a o → ¬ Contains c.b o
      none o h k = apart (o, h, k)

      by_test : (b : Bool) → meet ≡ b → IsTrue (not b) ↔ IsWitness t (raw_choice_of c)
      by_test true e = (λ y. absurd (true≢false (sym y)), λ w. absurd (no_witness t n c is none counts has (m.0 e) w))
      by_test false e = (λ y. a_witness t n c is none counts has (λ h. true≢false (sym (m.1 h) ∙ e)), λ w. refl)

pub choice_same : (s : ℕ) (a b x y : List ℕ) → a ≡ x → b ≡ y → ◌≡◌ {A = Choice} (record { state = s; a = a; b = b }) (record { state = s; a = x; b = y })
choice_same s a b x y e f = ap (λ (z : List ℕ). record { state = s; a = z; b = b }) e ∙ ap (λ (z : List ℕ). record { state = s; a = x; b = z }) f
