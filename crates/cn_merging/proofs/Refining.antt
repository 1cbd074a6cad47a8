-- Rounds make classes finer, and end with those that no operations tell apart.
use Rattle.std.proofs.Common.{◌≡◌, ◌≢◌, ◌⊎◌, ℕ, suc, ◌+◌, ◌-◌, ◌<◌, ◌≤◌, List, [], ◌∷◌, length, refl, sym, ap, ◌∙◌, arith, inl, inr}
use Rattle.std.specs.Prelude.{replicate, slice_index}
use Rattle.std.proofs.lemmas.Bool.{cases_order}
use Rattle.std.proofs.lemmas.List.{get_or-replicate, length-replicate}
use Rattle.cn_table.specs.Run.{responses_along}
use Rattle.cn_table.specs.TypeTable.{IsTypeTable, TypeTable, transition}
use Rattle.cn_table.proofs.ReachLemmas.{next_below}
use Rattle.cn_unread.specs.Undisturbed.{AreOperations}
use Rattle.cn_merging.specs.Alike.{AreFirsts, AreToldApart}
use Rattle.cn_merging.specs.Rounds.{Agree, Disagree, IsRound}

-- classes, by their first states: states of different classes are told apart
pub record IsPartition (t : TypeTable) (firsts : List ℕ) : Type 0 where
  pub long : length firsts ≡ length t.states
  pub known : (q : ℕ) → q < length t.states → slice_index firsts q ≤ q
  pub apart : (p q : ℕ) → p < length t.states → q < length t.states
      → slice_index firsts p ≢ slice_index firsts q → AreToldApart t p q

pub apart_sym : (t : TypeTable) (p q : ℕ) → AreToldApart t p q → AreToldApart t q p
apart_sym t p q h = (h.0, h.1, λ e. h.2 (sym e))

-- ---- the first classes

pub one_is_partition : (t : TypeTable) → IsPartition t (replicate (length t.states) 0)
one_is_partition t = record {
  long = length-replicate (length t.states) 0;
  known = λ q l. omega (arith, zeros q l);
  apart = λ p q l m different. absurd (different (zeros p l ∙ sym (zeros q m)));
}
  where
    zeros : (q : ℕ) → q < length t.states → slice_index (replicate (length t.states) 0) q ≡ 0
    zeros q l = get_or-replicate (length t.states) q 0 0 l

-- ---- a round

same_heads : (x y : ℕ) (xs ys : List ℕ) → x ∷ xs ≡ y ∷ ys → x ≡ y
same_heads x y xs ys e = cc

same_tails : (x y : ℕ) (xs ys : List ℕ) → x ∷ xs ≡ y ∷ ys → xs ≡ ys
same_tails x y xs ys e = cc

-- an operation that answers in two ways tells apart
by_response : (t : TypeTable) (o p q : ℕ) → o < length t.operations → (transition t o p).0 ≢ (transition t o q).0 → AreToldApart t p q
by_response t o p q l different = (o ∷ [], (l, tt), λ e. different (same_heads _ _ [] [] e))

-- one that leads to states that are told apart tells apart
by_next : (t : TypeTable) (o p q : ℕ) → o < length t.operations → AreToldApart t (transition t o p).1 (transition t o q).1 → AreToldApart t p q
by_next t o p q l h = (o ∷ h.0, (l, h.1), λ e. h.2 (same_tails _ _ _ _ e))

module _ (t : TypeTable) (table : IsTypeTable t) (f g : List ℕ) (parts : IsPartition t f) (round : IsRound t f g) where
  abbrev n : ℕ
  n = length t.states

  apart_from_disagree : (p q : ℕ) → p < n → q < n → Disagree t f p q → AreToldApart t p q
  apart_from_disagree p q l m h =
      elim h.2 [
        | inl other ↦ by_response t h.0 p q h.1 other
        | inr other ↦ by_next t h.0 p q h.1 (parts.apart _ _ (next_below t h.0 p table h.1 l) (next_below t h.0 q table h.1 m) other)
      ]

  -- a state that agrees with p disagrees with q: then p disagrees with q
  moved : (r p q : ℕ) → Agree t f r p → Disagree t f r q → Disagree t f p q
  moved r p q agree h = (
    h.0,
    h.1,
    elim h.2 [
      | inl other ↦ inl (λ e. other ((agree h.0 h.1).0 ∙ e))
      | inr other ↦ inr (λ e. other ((agree h.0 h.1).1 ∙ e))
    ],
  )

  less_apart : (p q : ℕ) → p < n → q < n → slice_index g p < slice_index g q → AreToldApart t p q
  less_apart p q l m less =
      let fp = round.each p l in
      let fq = round.each q m in
      elim (fq.before (slice_index g p) less) [
        | inl other ↦ parts.apart p q l m (λ e. other (fp.same ∙ e))
        | inr h ↦ apart_from_disagree p q l m (moved (slice_index g p) p q fp.agree h)
      ]

  pub round_is_partition : IsPartition t g
  round_is_partition = record {
    long = round.long;
    known = λ q l. (round.each q l).known;
    apart = λ p q l m different. elim (cases_order (slice_index g p) (slice_index g q)) [
      | inl e ↦ absurd (different e)
      | inr h ↦ elim h [
        | inl less ↦ less_apart p q l m less
        | inr more ↦ apart_sym t q p (less_apart q p m l more)
      ]
    ];
  }

  -- first states only move on
  pub no_less : (q : ℕ) → q < n → slice_index f q ≤ slice_index g q
  no_less q l =
      let here = round.each q l in
      let below : slice_index g q < n = omega (arith, here.known, l) in
      omega (arith, here.same, parts.known (slice_index g q) below)

-- ---- the last classes

module _ (t : TypeTable) (table : IsTypeTable t) (f : List ℕ) (parts : IsPartition t f) (round : IsRound t f f) where
  like_first : (os : List ℕ) (q : ℕ) → q < length t.states → AreOperations t os → responses_along t (slice_index f q) os ≡ responses_along t q os
  like_first [] q l known = refl
  like_first (o ∷ os) q l known =
      let here = round.each q l in
      let below : slice_index f q < length t.states = omega (arith, here.known, l) in
      let one = here.agree o known.0 in
      let first : ℕ = (transition t o (slice_index f q)).1 in
      let next : ℕ = (transition t o q).1 in
      let left = like_first os first (next_below t o (slice_index f q) table known.0 below) known.1 in
      let right = like_first os next (next_below t o q table known.0 l) known.1 in
      let tails : responses_along t first os ≡ responses_along t next os = sym left ∙ (ap (λ k. responses_along t k os) one.1 ∙ right) in
      ap (λ k. k ∷ responses_along t first os) one.0 ∙ ap (λ rs. (transition t o q).0 ∷ rs) tails

  pub last_are_firsts : AreFirsts t f
  last_are_firsts = record {
    long = parts.long;
    known = parts.known;
    alike = λ q l os known. like_first os q l known;
    before = λ p q l less. let own : slice_index f q ≤ q = parts.known q l in
        let below : p < length t.states = omega (arith, less, own, l) in
        let low : slice_index f p ≤ p = parts.known p below in
        parts.apart p q below l (λ e. absurd (omega (arith, e, less, low)));
  }

-- ---- rounds end

-- how far the numbers can still rise, up to b each
abbrev pub room : ℕ → List ℕ → ℕ
room b [] = 0
room b (x ∷ xs) = (b - x) + room b xs

abbrev Rise : ℕ → List ℕ → List ℕ → Type 0
Rise b xs ys = (k : ℕ) → k < length xs → (slice_index xs k ≤ slice_index ys k) × (slice_index ys k ≤ b)

room_falls : (b : ℕ) (xs ys : List ℕ) → length ys ≡ length xs → Rise b xs ys → (ys ≡ xs) ⊎ (room b ys < room b xs)
room_falls b [] [] long rise = inl refl
room_falls b [] (y ∷ ys) long rise = absurd (omega (arith, long))
room_falls b (x ∷ xs) [] long rise = absurd (omega (arith, long))
room_falls b (x ∷ xs) (y ∷ ys) long rise =
    let head = rise 0 (omega arith) in
    elim (room_falls b xs ys (omega (arith, long)) (λ k l. rise (suc k) (omega (arith, l)))) [
      | inl e ↦ elim (cases_order x y) [
        | inl same ↦ inl (ap (λ k. k ∷ ys) (sym same) ∙ ap (λ ks. x ∷ ks) e)
        | inr h ↦ inr (omega (arith, ap (room b) e, head.0, head.1, not_equal x y h))
      ]
      | inr less ↦ inr (omega (arith, less, head.0, head.1))
    ]
  where
    not_equal : (x y : ℕ) → (x < y) ⊎ (y < x) → x ≢ y
    not_equal x y h e = elim h [ inl l ↦ omega (arith, l, e) | inr l ↦ omega (arith, l, e) ]

pub round_falls : (t : TypeTable) (f g : List ℕ) → length t.states ≤ 16 → IsPartition t f → IsRound t f g → g ≢ f → IsTypeTable t → room 16 g < room 16 f
round_falls t f g few parts round different table =
    elim (room_falls 16 f g (round.long ∙ sym parts.long)
    (λ k l. let m : k < length t.states = omega (arith, l, parts.long) in
    (no_less t table f g parts round k m, omega (arith, (round.each k m).known, m, few)))) [
      | inl e ↦ absurd (different e)
      | inr h ↦ h
    ]
