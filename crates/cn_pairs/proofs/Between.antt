-- Sets of operations between two that have a number.
use Rattle.std.proofs.Common.{◌≡◌, ℕ, ◌<◌, ◌≤◌, List, length, map, true≢false, sym, ap, ◌∙◌, subst, arith, All, Contains}
use Rattle.std.specs.List.{Any, range_with_len}
use Rattle.std.proofs.lemmas.List.Elements.{All-contains, All-from_recursion}
use Rattle.cn_table.specs.TypeTable.{TypeTable}
use Rattle.cn_table.specs.declared.elements.Operation.{Operation}
use Rattle.cn_table.specs.Restriction.{AreOperations, with_operations}
use Rattle.cn_choice.proofs.ListLemmas.Members.{Contains-from_IsIn, IsIn, IsIn-at, IsIn-from_Contains, IsIn-map, IsIn-map_from, each_from}
use Rattle.cn_choice.proofs.ListLemmas.Permutations.{range_in}
use Rattle.cn_search.specs.Numbers.{HasNumber}
use Rattle.cn_search.specs.declared.exact.ConsensusNumber.{ConsensusNumber}
use Rattle.cn_search.specs.declared.exact.ConsensusNumber.TheVariants.{Finite, Infinite}
use Rattle.cn_pairs.specs.SetNumbers.{AreSetNumbers, IsSetNumber, numbers, set_of}
use Rattle.cn_pairs.specs.Smallest.{HasNumberWith, IsWithin, IsWithinOther}
use Rattle.cn_pairs.specs.declared.restricted.SetNumber.{SetNumber}
use Rattle.cn_pairs.proofs.MoreOperations.{more_operations}
use Rattle.cn_pairs.proofs.OneNumber.{one_number}
use Rattle.cn_pairs.proofs.SetLists.{set_is}
use Rattle.cn_pairs.proofs.WholeSets.{whole_has}

pub between : (t : TypeTable) (number : ConsensusNumber) (low set high : List ℕ) → IsWithin low set → IsWithin set high
    → HasNumberWith t number low → HasNumberWith t number high → HasNumberWith t number set
between t (Finite n) low set high a b h k =
    (h.0, h.1, λ l. more_operations t low set a n (h.2 l), λ m l d. k.3 m l (more_operations t set high b m d))
between t Infinite low set high a b h k = λ n l. more_operations t low set a n (h n l)

-- operations of the type are within all of them
within_all : (t : TypeTable) (set : List ℕ) → AreOperations t set → IsWithin set (range_with_len 0 (length t.operations))
within_all t set are = λ o h.
    let l : o < length t.operations = All-contains (λ o. o < length t.operations) set o are.known h in
    Contains-from_IsIn o (range_with_len 0 (length t.operations)) (range_in 0 (length t.operations) o (omega arith) (omega (arith, l)))

-- operations by their numbers
pub within_numbers : (set larger : List Operation) → All (Contains larger) set → IsWithin (numbers set) (numbers larger)
within_numbers set larger within = λ o h.
    let own = IsIn-map_from (λ (x : Operation). x.0) o set (IsIn-from_Contains o (numbers set) h) in
    let there : IsIn own.0 larger = IsIn-from_Contains own.0 larger (All-contains (Contains larger) set own.0 within (Contains-from_IsIn own.0 set own.2)) in
    Contains-from_IsIn o (numbers larger) (subst (λ (n : ℕ). IsIn n (numbers larger)) own.1 (IsIn-map (λ (x : Operation). x.0) own.0 larger there))

pub numbers_within : (set larger : List Operation) → IsWithin (numbers set) (numbers larger) → All (Contains larger) set
numbers_within set larger within = All-from_recursion (Contains larger) set (each_from (Contains larger) set (λ x i.
    let own = IsIn-map_from (λ (y : Operation). y.0) x.0 larger
    (IsIn-from_Contains x.0 (numbers larger) (within x.0 (Contains-from_IsIn x.0 (numbers set) (IsIn-map (λ (y : Operation). y.0) x set i)))) in
    let same : own.0 ≡ x = ap (λ (n : ℕ). let y : Operation = record { 0 = n } in y) own.1 in
    Contains-from_IsIn x larger (subst (λ (y : Operation). IsIn y larger) same own.2)))

-- a set within one with another number has another number than the type
pub within_other : (t : TypeTable) (number : ConsensusNumber) (size : ℕ) (known : List SetNumber) (set : List ℕ)
    → HasNumber t number → 1 ≤ size → AreSetNumbers t size known
    → Any (IsWithinOther set number) known → HasNumberWith t number set → ⊥
unfolding IsWithinOther
within_other t number size known set whole some are (k, s, l, is, (other, within)) has =
    let listed : IsIn s known = subst (λ (x : SetNumber). IsIn x known) is (IsIn-at known k s l) in
    let member = subst (λ (ls : List (List ℕ)). Contains ls (set_of s)) are.listed
    (Contains-from_IsIn (set_of s) (map set_of known) (IsIn-map set_of s known listed)) in
    let inside = within_all t (set_of s) (set_is t size (set_of s) some member) in
    let own : HasNumber (with_operations t (set_of s)) s.number = All-contains (IsSetNumber t) known s are.numbers (k, l, is) in
    true≢false (sym (one_number (with_operations t (set_of s)) s.number number own
    (between t number set (set_of s) (range_with_len 0 (length t.operations)) within inside has (whole_has t number whole))) ∙ other)
