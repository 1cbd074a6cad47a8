-- A type is n-discerning if it is so with some of its operations alone.
use Rattle.std.proofs.Common.{◌≡◌, ℕ, ◌<◌, List, length, get_or, refl, sym, ap, ◌∙◌, arith}
use Rattle.std.specs.Prelude.{slice_index_or}
use Rattle.std.proofs.lemmas.List.{length-map}
use Rattle.cn_table.specs.Restriction.{with_operations}
use Rattle.cn_table.specs.TypeTable.{Row, TypeTable, no_row, transition}
use Rattle.cn_choice.specs.Discerning.{IsDiscerning}
use Rattle.cn_choice.proofs.ListLemmas.Members.{Contains-from_IsIn, IsIn-at, IsIn-from_Contains}
use Rattle.cn_copies.proofs.Carrying.{discerning_carried}
use Rattle.cn_copies.proofs.Picked.{picked_step, place, place_at}
use Rattle.cn_pairs.specs.Smallest.{IsWithin}

-- each operation of the set is one of the larger set, at the first place where it stands there
pub more_operations : (t : TypeTable) (set larger : List ℕ) → IsWithin set larger → (n : ℕ) → IsDiscerning (with_operations t set) n → IsDiscerning (with_operations t larger) n
more_operations t set larger within =
    let f : ℕ → ℕ = λ i. place (get_or set i 0) larger in
    let pick : ℕ → Row = λ o. slice_index_or t.operations o no_row in
    let own : (i : ℕ) → i < length set → (f i < length larger) × (get_or larger (f i) 0 ≡ get_or set i 0) =
    λ i l. place_at (get_or set i 0) larger (IsIn-from_Contains (get_or set i 0) larger (within (get_or set i 0) (Contains-from_IsIn (get_or set i 0) set (IsIn-at set i 0 l)))) in
    discerning_carried (λ q. Unit {0}) f (with_operations t set) (with_operations t larger) (record {
      states = refl;
      inside = λ i l. let r = own i (omega (arith, l, length-map set pick)) in omega (arith, r.0, length-map larger pick);
      known = λ q l. tt;
      onward = λ o q l kq. tt;
      step = λ i q l kq. let u = (let s : i < length set = omega (arith, l, length-map set pick) in s) in
          picked_step t set i q u ∙ (ap (λ (o : ℕ). transition t o q) (sym (own i u).1) ∙ sym (picked_step t larger (f i) q (own i u).0));
    })
