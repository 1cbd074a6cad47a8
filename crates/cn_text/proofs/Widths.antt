-- The widest of the names of a table.
use Rattle.std.proofs.Common.{◌≡◌, ℕ, zero, suc, ◌+◌, ◌≤◌, List, [], ◌∷◌, length, max, take, slice_get, Some, IsTrue, arith}
use Rattle.std.specs.Prelude.{nat_le, ◌&&◌}
use Rattle.std.specs.List.{list_all}
use Rattle.std.proofs.lemmas.Bool.{and_parts, leb-true}
use Rattle.cn_table.specs.Names.{is_name, is_name_byte}
use Rattle.cn_table.specs.TypeTable.{TypeTable, IsTypeTable}
use Rattle.cn_text.specs.Columns.{names_of, widest}
use Rattle.cn_text.specs.declared.columns.Named.{Named}
use Rattle.cn_text.specs.declared.columns.Named.TheVariants.{States, Responses, Operations}

widest_suc : (texts : List (List ℕ)) (k : ℕ) (text : List ℕ) → slice_get texts k ≡ Some text → widest (take (suc k) texts) ≡ max (widest (take k texts)) (length text)
widest_suc [] k text h = absurd cc
widest_suc (t ∷ texts) zero text h = let same : t ≡ text = cc in rw same (omega arith)
widest_suc (t ∷ texts) (suc k) text h = let rest = widest_suc texts k text h in omega (arith, rest)

-- a text more
pub widest_more : (texts : List (List ℕ)) (k : ℕ) (text : List ℕ) → slice_get texts k ≡ Some text → widest (take (k + 1) texts) ≡ max (widest (take k texts)) (length text)
widest_more texts k text h = let next : k + 1 ≡ suc k = omega arith in rw next (widest_suc texts k text h)

short_names : (names : List (List ℕ)) → IsTrue (list_all is_name names) → widest names ≤ 32
short_names [] h = omega arith
short_names (name ∷ names) h =
    let parts = and_parts (is_name name) (list_all is_name names) h in
    let sizes = and_parts (nat_le 1 (length name) && nat_le (length name) 32) (list_all is_name_byte name) parts.0 in
    let short = and_parts (nat_le 1 (length name)) (nat_le (length name) 32) sizes.0 in
    let first = leb-true (length name) 32 short.1 in
    let rest = short_names names parts.1 in
    omega (arith, first, rest)

pub short_in : (t : TypeTable) (named : Named) → IsTypeTable t → widest (names_of t named) ≤ 32
short_in t States table = short_names (names_of t States) table.states.named
short_in t Responses table = short_names (names_of t Responses) table.responses.named
short_in t Operations table = short_names (names_of t Operations) table.operations.named
