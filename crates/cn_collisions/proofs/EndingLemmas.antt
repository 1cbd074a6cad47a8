-- Ways of one process, and of one more than those behind a first one.
use Rattle.std.proofs.Common.{◌≡◌, ◌≢◌, ℕ, ◌<◌, ◌≤◌, inl, inr, List, [], ◌∷◌, length, refl, sym, ap, ◌∙◌, subst, arith, Bool, cond, Option, Some, None}
use Rattle.std.specs.Prelude.{IsBitSet}
use Rattle.std.proofs.lemmas.Bool.{eq-eqb, ne_eqb}
use Rattle.cn_table.specs.TypeTable.{TypeTable}
use Rattle.cn_stocks.specs.declared.pair_sets.PairSet.{PairSet}
use Rattle.cn_stocks.specs.Pairs.{Has}
use Rattle.cn_choice.specs.RawChoices.{RawChoice}
use Rattle.cn_choice.specs.Moves.{answer_of, next_of}
use Rattle.cn_outcomes.proofs.LastProcess.{same_or_not}
use Rattle.cn_collisions.specs.Ways.{Hits, IsFirstWay, NoWay, seen_after}
use Rattle.cn_collisions.proofs.WayLemmas.{Dead, first_end, first_way, no_way_left}

-- the process in question gets its response when it moves
pub own_seen : (j p r : ℕ) → p ≡ j → seen_after j p r None ≡ Some r
own_seen j p r e = ap (λ (b : Bool). cond b (Some r) None) (eq-eqb p j e)

-- another one gets it nothing
pub none_seen : (j p r : ℕ) → p ≢ j → seen_after j p r None ≡ None
none_seen j p r n = ap (λ (b : Bool). cond b (Some r) None) (ne_eqb p j n)

module _ (t : TypeTable) (c : RawChoice) (j : ℕ) (set : PairSet) (low high used state : ℕ) (seen : Option ℕ) where
  module _ (p : ℕ) where
    abbrev seen_then : Option ℕ
    seen_then = seen_after j p (answer_of t c p state) seen

    -- a process with which no way into the set ends
    pub dead_one : ((r : ℕ) → seen_then ≡ Some r → ¬ Has set r (next_of t c p state)) → Dead t c j set 1 low high used state seen p
    dead_one none ps way hits = by_list ps way.long hits
      where
        by_list : (ps : List ℕ) → length (p ∷ ps) ≡ 1 → ¬ Hits t c j set state seen (p ∷ ps)
        by_list [] l h = none h.0.0 h.1.0 (subst (λ (q : ℕ). Has set h.0.0 q) (sym h.1.1) h.2)
        by_list (q ∷ qs) l h = absurd (omega (arith, l))

    -- the first one with which a way into the set ends
    pub first_one : (r q : ℕ) → seen_then ≡ Some r → next_of t c p state ≡ q → Has set r q → p < length c.operations → low ≤ p → p < high → ¬ IsBitSet used p
        → ((a : ℕ) → low ≤ a → a < p → Dead t c j set 1 low high used state seen a) → IsFirstWay t c j set 1 low high used state seen (p ∷ []) (r, q)
    first_one r q e f has l from upto free dead =
        first_way t c j set 1 low high used state seen p (length c.operations) refl (omega arith) [] (r, q) l from upto free dead
        (first_end t c j set 0 (length c.operations) _ (next_of t c p state) seen_then refl refl r q ([], refl, tt, (e, f)) has (r, q) e f)

  -- where no process has seen a response, only the process in question can be the last one
  pub dead_other : seen ≡ None → (p : ℕ) → p ≢ j → Dead t c j set 1 low high used state seen p
  dead_other e p n = dead_one p (λ r s has. let no : None ≡ Some r = sym (ap (seen_after j p (answer_of t c p state)) e ∙ none_seen j p (answer_of t c p state) n) ∙ s in absurd (cc))

  pub none_own : seen ≡ None → ((low ≤ j) → (j < high) → Dead t c j set 1 low high used state seen j) → NoWay t c j set 1 low high used state seen
  none_own e own = no_way_left t c j set 1 low high used state seen high (omega arith) (omega arith) each
    where
      each : (p : ℕ) → low ≤ p → p < high → Dead t c j set 1 low high used state seen p
      each p from upto = elim (same_or_not p j) [
        | inl s ↦ subst (Dead t c j set 1 low high used state seen) (sym s) (own (omega (arith, from, s)) (omega (arith, upto, s)))
        | inr n ↦ dead_other e p n
      ]
