-- The witness of a part of a stock.
use Rattle.std.proofs.Common.{◌≡◌, ℕ, ◌+◌, ◌<◌, List, [], ◌∷◌, ◌++◌, length, map, replicate, refl, sym, ap, ◌∙◌, subst, arith, All, Bool, true, false, nat_eq, true≢false, length-append, Some}
use Rattle.std.specs.Int.{bit_at}
use Rattle.std.specs.List.{AllByRecursion}
use Rattle.std.specs.Prelude.{IsBitSet, slice_get, slice_index}
use Rattle.std.proofs.lemmas.Option.{same_Some}
use Rattle.std.proofs.lemmas.Bool.{eqb-true, eq-eqb, ne_eqb}
use Rattle.std.proofs.lemmas.List.{map-append}
use Rattle.std.proofs.lemmas.List.Elements.{All-nil, All-push, recursion_from_All}
use Rattle.cn_table.specs.TypeTable.{TypeTable}
use Rattle.cn_table.specs.Run.{state_after}
use Rattle.cn_choice.specs.declared.team.Team.{Team}
use Rattle.cn_choice.specs.declared.team.Team.TheVariants.{A, B}
use Rattle.cn_choice.specs.Canonical.{raw_choice_of}
use Rattle.cn_choice.specs.Discerning.{IsWitness}
use Rattle.cn_choice.specs.OutcomeSets.{InOutcomeSet, operations_of}
use Rattle.cn_choice.specs.RawChoices.{IsRawChoice, RawChoice}
use Rattle.cn_outcomes.proofs.LastProcess.{bit_from, set_from}
use Rattle.cn_stocks.specs.Splits.{StockSplits}
use Rattle.cn_stocks.specs.Words.{BeginsWith, HaveSame, IsKnown, IsWithin, Shows}
use Rattle.cn_stocks.proofs.Steps.{shows_same}
use Rattle.cn_stocks.proofs.Teams.{choice_of, chosen_a, chosen_b, is_choice, team_at, team_of}
use Rattle.cn_stocks.proofs.Times.{same_sym, times_append, times_last}
use Rattle.cn_stocks.proofs.WordOrders.{order_within, seen}
use Rattle.cn_stocks.proofs.StockLemmas.{length_last}
use Rattle.cn_join_find.specs.Crossing.{IsPart}
use Rattle.cn_join_find.specs.Marks.{IsWitnessFor}

-- ---- operation by operation

-- the operations of a list, those of the set in one list and the others in the other one
pub record AreDivided (set : ℕ) (list a b : List ℕ) : Type 0 where
  pub a_in : All (λ o. IsBitSet set o) a
  pub b_out : All (λ o. ¬ IsBitSet set o) b
  pub same : HaveSame list (a ++ b)
  pub long : length a + length b ≡ length list

pub none_divided : (set : ℕ) (a b : List ℕ) → a ≡ [] → b ≡ [] → AreDivided set [] a b
none_divided set a b e f = rw (e, f) (record { a_in = All-nil (λ o. IsBitSet set o); b_out = All-nil (λ o. ¬ IsBitSet set o); same = λ o. refl; long = refl })

pub same_divided : (set : ℕ) (list new a a_new b b_new : List ℕ) → new ≡ list → a_new ≡ a → b_new ≡ b → AreDivided set list a b → AreDivided set new a_new b_new
same_divided set list new a a_new b b_new e f g d =
    subst (λ (l : List ℕ). AreDivided set l a_new b_new) (sym e)
    (subst (λ (l : List ℕ). AreDivided set list l b_new) (sym f) (subst (λ (l : List ℕ). AreDivided set list a l) (sym g) d))

pub more_a : (set : ℕ) (list a b : List ℕ) (x : ℕ) → AreDivided set list a b → IsBitSet set x → AreDivided set (list ++ x ∷ []) (a ++ x ∷ []) b
more_a set list a b x d there = record {
  a_in = All-push (λ o. IsBitSet set o) a x d.a_in there;
  b_out = d.b_out;
  same = λ o. omega (arith, d.same o, times_last o x list, times_append o a b, times_append o (a ++ x ∷ []) b, times_last o x a);
  long = omega (arith, d.long, length_last list x, length_last a x);
}

pub more_b : (set : ℕ) (list a b : List ℕ) (x : ℕ) → AreDivided set list a b → ¬ IsBitSet set x → AreDivided set (list ++ x ∷ []) a (b ++ x ∷ [])
more_b set list a b x d out = record {
  a_in = d.a_in;
  b_out = All-push (λ o. ¬ IsBitSet set o) b x d.b_out out;
  same = λ o. omega (arith, d.same o, times_last o x list, times_append o a b, times_append o a (b ++ x ∷ []), times_last o x b);
  long = omega (arith, d.long, length_last list x, length_last b x);
}

-- ---- the part, as a choice of operations

abbrev in_part : ℕ → ℕ → Bool
in_part set f = nat_eq (bit_at set f) 1

in_yes : (set f : ℕ) → IsBitSet set f → in_part set f ≡ true
in_yes set f b = eq-eqb (bit_at set f) 1 (bit_from set f b)

in_no : (set f : ℕ) → ¬ IsBitSet set f → in_part set f ≡ false
in_no set f n = ne_eqb (bit_at set f) 1 (λ e. n (set_from set f e))

from_yes : (set f : ℕ) → in_part set f ≡ true → IsBitSet set f
from_yes set f e = set_from set f (eqb-true (bit_at set f) 1 e)

from_no : (set f : ℕ) → in_part set f ≡ false → ¬ IsBitSet set f
from_no set f e b = true≢false (sym (in_yes set f b) ∙ e)

-- ---- the teams

module _ (set : ℕ) where
  abbrev mark : ℕ → Team
  mark o = team_of (in_part set o)

  marks_a : (a : List ℕ) → AllByRecursion (λ o. IsBitSet set o) a → map mark a ≡ replicate (length a) A
  marks_a [] all = refl
  marks_a (x ∷ a) all = ap (λ (m : Team). m ∷ map mark a) (ap team_of (in_yes set x all.0)) ∙ ap (λ (l : List Team). A ∷ l) (marks_a a all.1)

  marks_b : (b : List ℕ) → AllByRecursion (λ o. ¬ IsBitSet set o) b → map mark b ≡ replicate (length b) B
  marks_b [] all = refl
  marks_b (x ∷ b) all = ap (λ (m : Team). m ∷ map mark b) (ap team_of (in_no set x all.0)) ∙ ap (λ (l : List Team). B ∷ l) (marks_b b all.1)

  marks_all : (list a b : List ℕ) → AreDivided set list a b → map mark (a ++ b) ≡ replicate (length a) A ++ replicate (length b) B
  marks_all list a b d =
      map-append mark a b
      ∙ (ap (λ (l : List Team). l ++ map mark b) (marks_a a (recursion_from_All (λ o. IsBitSet set o) a d.a_in))
      ∙ ap (λ (l : List Team). replicate (length a) A ++ l) (marks_b b (recursion_from_All (λ o. ¬ IsBitSet set o) b d.b_out)))

-- ---- the witness

begins_at : (f : ℕ → ℕ) (order : List ℕ) (p : ℕ) → slice_get order 0 ≡ Some p → BeginsWith (f p) (map f order)
begins_at f [] p e = absurd (cc e)
begins_at f (x ∷ xs) p e = ap f (same_Some x p e)

module _ (t : TypeTable) (start : ℕ) (stock : List ℕ) (s : StockSplits t start stock) where
  abbrev witness : RawChoice
  witness = choice_of start stock s.chosen

  -- what a process sees in an order, as a word shows it
  shown : (team : Team) (j r q : ℕ) → InOutcomeSet t witness team j (r, q) → (f : ℕ) × (team_of (s.chosen f) ≡ team) × Shows t start stock f (slice_index stock j) r q
  shown team j r q o =
      let x = seen witness t o.0 j r q o.3 in
      let word : operations_of witness o.0 ≡ operations_of witness x.before ++ slice_index stock j ∷ operations_of witness x.after =
      ap (operations_of witness) x.is ∙ map-append (λ p. slice_index stock p) x.before (j ∷ x.after) in (
        slice_index stock o.2.0,
        team_at (λ (x : ℕ). team_of (s.chosen x)) stock o.2.0 team o.2.2,
        record {
          before = operations_of witness x.before;
          after = operations_of witness x.after;
          within = subst (λ (w : List ℕ). IsWithin stock w) word (order_within witness o.0 o.1);
          begins = subst (λ (w : List ℕ). BeginsWith (slice_index stock o.2.0) w) word (begins_at (λ p. slice_index stock p) o.0 o.2.0 o.2.1);
          answer = x.answer;
          ends = ap (λ (w : List ℕ). state_after t start w) (sym word) ∙ x.ends;
        },
      )

  is_witness : IsWitness t witness
  is_witness j pair a b =
      let f = shown A j pair.0 pair.1 a in
      let g = shown B j pair.0 pair.1 b in
      s.apart f.0 g.0 (chosen_a (s.chosen f.0) f.1) (chosen_b (s.chosen g.0) g.1) (slice_index stock j, pair.0, pair.1, f.2, g.2)

pub witness_for : (t : TypeTable) (set start : ℕ) (stock a b : List ℕ) → start < length t.states → IsKnown (length t.operations) stock → IsPart t start stock set → AreDivided set stock a b
    → IsWitnessFor t (length stock) (record { state = start; a = a; b = b })
witness_for t set start stock a b start_known known p d =
    let n = length stock in
    let splits : StockSplits t start (a ++ b) = record {
      chosen = in_part set;
      inside = (p.inside.0, omega (arith, p.inside.1, d.same p.inside.0), in_yes set p.inside.0 p.inside.2);
      outside = (p.outside.0, omega (arith, p.outside.1, d.same p.outside.0), in_no set p.outside.0 p.outside.2);
      apart = λ f g inner outer j. p.apart f g (from_yes set f inner) (from_no set g outer)
          (j.0, j.1, j.2, shows_same t start stock (a ++ b) f j.0 j.1 j.2 (same_sym stock (a ++ b) d.same) j.3, shows_same t start stock (a ++ b) g j.0 j.1 j.2 (same_sym stock (a ++ b) d.same) j.4);
    } in
    let all_known : IsKnown (length t.operations) (a ++ b) = λ o l. known o (omega (arith, l, d.same o)) in
    let long : length (a ++ b) ≡ n = omega (arith, length-append a b, d.long) in
    let c : RawChoice = choice_of start (a ++ b) (in_part set) in
    let same : c ≡ raw_choice_of (record { state = start; a = a; b = b }) = ap (λ (m : List Team). record { state = start; operations = a ++ b; marks = m }) (marks_all set stock a b d) in
    (subst (IsRawChoice t n) same (is_choice start (a ++ b) (in_part set) t n start_known all_known long splits.inside splits.outside), subst (IsWitness t) same (is_witness t start (a ++ b) splits))
