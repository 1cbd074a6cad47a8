-- The beginning of an order after one more move.
use Rattle.std.proofs.Common.{◌≡◌, ◌≢◌, ℕ, ◌+◌, ◌-◌, ◌^◌, ◌<◌, ◌≤◌, inl, inr, List, ◌∷◌, length, sym, subst, arith, Option, Some, None}
use Rattle.std.specs.Prelude.{IfSome, IsBitSet, MatchOption, slice_index}
use Rattle.std.specs.Int.Bits.{bit_or}
use Rattle.cn_table.specs.declared.limits.TheConstants.{MOST_RESPONSES}
use Rattle.cn_outcomes.proofs.BitSets.{pow_set, union_set}
use Rattle.cn_stocks.specs.Words.{HaveSame}
use Rattle.cn_collisions.specs.declared.view.Prefix.{Prefix}
use Rattle.cn_collisions.specs.declared.view.View.{View}
use Rattle.cn_collisions.specs.Rests.{IsRest}
use Rattle.cn_collisions.specs.Stands.{StandsAt}
use Rattle.cn_collisions.specs.Views.{IsPrefix, room_of}
use Rattle.cn_collisions.proofs.WayLemmas.{in_pow}
use Rattle.cn_collisions.proofs.WayWords.{rest_other, rest_own}

pub room_other : (size : ℕ) (seen : Option ℕ) → 1 ≤ size → room_of seen (size - 1) + 1 ≡ room_of seen size
room_other size None l = omega (arith, l)
room_other size (Some s) l = omega (arith, l)

told_other : (seen : Option ℕ) (used p j : ℕ) → p ≢ j → MatchOption seen (¬ IsBitSet used j) (λ r. IsBitSet used j)
    → MatchOption seen (¬ IsBitSet (bit_or used (2 ^ p)) j) (λ r. IsBitSet (bit_or used (2 ^ p)) j)
told_other None used p j n told = λ s. elim ((union_set used (2 ^ p) j).0 s) [ inl u ↦ told u | inr b ↦ n (sym (pow_set p j b)) ]
told_other (Some r) used p j n told = (union_set used (2 ^ p) j).1 (inl told)

module _ (v : View) (at : Prefix) (is : IsPrefix v at) (new : Prefix) (known : new.state.0 < length v.sets.now.table.now.states) where
  pub prefix_own : (r : ℕ) → r < MOST_RESPONSES → new.used ≡ bit_or at.used (2 ^ v.process) → new.seen ≡ Some r → new.size ≡ at.size → new.place ≡ at.place → IsPrefix v new
  prefix_own r l used seen size place = record {
    stock = is.stock;
    stands = subst (λ (k : ℕ). StandsAt v.sets.now k new.place is.stock) (sym size) (subst (λ (k : ℕ). StandsAt v.sets.now at.size k is.stock) (sym place) is.stands);
    rest = subst (λ (k : ℕ). IsRest v.raw.now v.process k is.stock) (sym used) (rest_own v.raw.now v.process at.used is.stock is.rest);
    few = omega (arith, size, is.few);
    told = subst (λ (s : Option ℕ). MatchOption s (¬ IsBitSet new.used v.process) (λ r. IsBitSet new.used v.process)) (sym seen)
        (subst (λ (k : ℕ). IsBitSet k v.process) (sym used) ((union_set at.used (2 ^ v.process) v.process).1 (inr (in_pow v.process))));
    known = known;
    answer = subst (λ (s : Option ℕ). IfSome s (λ r. r < MOST_RESPONSES)) (sym seen) l;
  }

  pub prefix_other : (p : ℕ) (rest : List ℕ) → p < length v.raw.now.operations → ¬ IsBitSet at.used p → p ≢ v.process
      → HaveSame is.stock (slice_index v.raw.now.operations p ∷ rest) → StandsAt v.sets.now (at.size - 1) new.place rest
      → 1 ≤ at.size → new.used ≡ bit_or at.used (2 ^ p) → new.seen ≡ at.seen → new.size ≡ at.size - 1 → IsPrefix v new
  prefix_other p rest l free n same stands some used seen size = record {
    stock = rest;
    stands = subst (λ (k : ℕ). StandsAt v.sets.now k new.place rest) (sym size) stands;
    rest = subst (λ (k : ℕ). IsRest v.raw.now v.process k rest) (sym used) (rest_other v.raw.now v.process at.used p is.stock rest is.rest l free n same);
    few = omega (arith, size, some, is.few);
    told = subst (λ (s : Option ℕ). MatchOption s (¬ IsBitSet new.used v.process) (λ r. IsBitSet new.used v.process)) (sym seen)
        (subst (λ (k : ℕ). MatchOption at.seen (¬ IsBitSet k v.process) (λ r. IsBitSet k v.process)) (sym used) (told_other at.seen at.used p v.process n is.told));
    known = known;
    answer = subst (λ (s : Option ℕ). IfSome s (λ r. r < MOST_RESPONSES)) (sym seen) is.answer;
  }
