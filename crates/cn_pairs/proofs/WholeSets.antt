-- The set of all operations of a type.
use Rattle.std.proofs.Common.{◌≡◌, ℕ, zero, suc, ◌+◌, ◌<◌, ◌≤◌, inl, List, [], ◌∷◌, length, get_or, refl, sym, ap, ◌∙◌, subst, arith, All}
use Rattle.std.specs.List.{range_with_len}
use Rattle.std.proofs.lemmas.List.FromFn.{fill_by_all, length-range_with_len}
use Rattle.cn_table.specs.Restriction.{with_operations}
use Rattle.cn_table.specs.TypeTable.{Row, TypeTable, no_row}
use Rattle.cn_search.specs.Numbers.{HasNumber}
use Rattle.cn_search.specs.declared.exact.ConsensusNumber.{ConsensusNumber}
use Rattle.cn_pairs.specs.Firsts.{AreFirstWith}
use Rattle.cn_pairs.specs.SetNumbers.{sets_of_size}
use Rattle.cn_pairs.specs.Smallest.{AreSmallest, HasNumberWith, NoneHas}
use Rattle.cn_pairs.specs.Sublists.{sublists}
use Rattle.cn_pairs.proofs.Firsts.{of_nothing}

-- a list has no longer sublists, and of its own length only itself
none_longer : (k : ℕ) (xs : List ℕ) → length xs < k → sublists k xs ≡ []
none_longer zero xs l = absurd (omega (arith, l))
none_longer (suc k) [] l = refl
none_longer (suc k) (x ∷ xs) l = rw (none_longer k xs (omega (arith, l)), none_longer (suc k) xs (omega (arith, l))) refl

itself : (a m : ℕ) → sublists m (range_with_len a m) ≡ range_with_len a m ∷ []
itself a zero = refl
itself a (suc m) =
    rw (itself (a + 1) m, none_longer (suc m) (range_with_len (a + 1) m) (omega (arith, length-range_with_len (a + 1) m))) refl

-- with all its operations a type is the same
with_all : (t : TypeTable) → with_operations t (range_with_len 0 (length t.operations)) ≡ t
with_all t = ap (λ (rows : List Row). let u : TypeTable = record t { operations = rows } in u)
    (sym (fill_by_all (λ (o : ℕ). get_or t.operations o no_row) t.operations (length t.operations) no_row refl (λ k l. refl)))

-- so the set of all of them has its number, and is the only one of its size
pub whole_has : (t : TypeTable) (number : ConsensusNumber) → HasNumber t number → HasNumberWith t number (range_with_len 0 (length t.operations))
whole_has t number has = subst (λ (u : TypeTable). HasNumber u number) (sym (with_all t)) has

whole_first : (t : TypeTable) (number : ConsensusNumber) → HasNumber t number
    → AreFirstWith (HasNumberWith t number) 12 (sets_of_size t (length t.operations)) (range_with_len 0 (length t.operations) ∷ [])
whole_first t number has =
    let all : List ℕ = range_with_len 0 (length t.operations) in
    subst (λ (sets : List (List ℕ)). AreFirstWith (HasNumberWith t number) 12 sets (all ∷ [])) (sym (itself 0 (length t.operations)))
    (inl (whole_has t number has, [], refl, of_nothing (HasNumberWith t number) 11))

-- if no smaller set has it, it is the smallest
pub whole_smallest : (t : TypeTable) (number : ConsensusNumber) (size : ℕ) (sets : List (List ℕ)) → HasNumber t number → size ≡ length t.operations
    → 1 ≤ size → sets ≡ sets_of_size t size → ((k : ℕ) → 1 ≤ k → k < length t.operations → NoneHas t k number) → AreSmallest t number sets
whole_smallest t number size sets has same some e none =
    let own : sets ≡ range_with_len 0 (length t.operations) ∷ [] = e ∙ (ap (sets_of_size t) same ∙ itself 0 (length t.operations)) in
    record {
      size = length t.operations;
      some = omega (arith, some, same);
      first = subst (AreFirstWith (HasNumberWith t number) 12 (sets_of_size t (length t.operations))) (sym own) (whole_first t number has);
      found = λ empty. absurd (cc (own, empty));
      none_smaller = none;
    }

pub whole_set : (t : TypeTable) (number : ConsensusNumber) → HasNumber t number → NoneHas t (length t.operations) number → ⊥
whole_set t number has none =
    let all : List ℕ = range_with_len 0 (length t.operations) in
    (subst (All (λ set. ¬ HasNumberWith t number set)) (itself 0 (length t.operations)) none) 0 all (omega arith) (whole_has t number has)
