-- What bytes spell is a type table.
use Rattle.std.proofs.Common.{◌≡◌, ℕ, List, Option, Some, None, Result, Ok, Err, Bool, true, false, refl, sym, ◌∙◌, subst}
use Rattle.std.specs.Prelude.{if◌then◌else◌}
use Rattle.std.specs.Option.{option_map_or, ok_or}
use Rattle.toml.specs.Data.{Members}
use Rattle.cn_table.specs.Document.{document_of}
use Rattle.cn_table.specs.Draft.{Draft, draft_of}
use Rattle.cn_table.specs.Faults.{has_bad_count, has_bad_length, has_bad_name, has_missing_key}
use Rattle.cn_table.specs.Faults.{has_repeated_name, has_unknown_key, reading}
use Rattle.cn_table.specs.Numbering.{rows_from, table_from}
use Rattle.cn_table.specs.Reads.{document_reading, draft_reading}
use Rattle.cn_table.specs.TypeTable.{IsTypeTable, TypeTable}
use Rattle.cn_table.specs.declared.fault.TableFault.{TableFault}
use Rattle.cn_table.specs.declared.fault.TableFault.TheVariants.{NotToml, UnknownKey, MissingKey, WrongKind, BadName}
use Rattle.cn_table.specs.declared.fault.TableFault.TheVariants.{Count, Repeated, RowLength, UnknownName}
use Rattle.cn_table.proofs.Faultless.{bind_some, is_type_table}
use Rattle.cn_table.proofs.KindLemmas.{reading_by_document}

-- a step that gives a table has found no fault
no_fault : (b : Bool) (fault : TableFault) (r : Result TypeTable TableFault) (t : TypeTable)
    → (if b then Err fault else r) ≡ Ok t → (b ≡ false) × (r ≡ Ok t)
no_fault true fault r t e = absurd (cc e)
no_fault false fault r t e = (refl, e)

is_there : (o : Option TypeTable) (fault : TableFault) (t : TypeTable) → ok_or o fault ≡ Ok t → o ≡ Some t
is_there None fault t e = absurd (cc e)
is_there (Some x) fault t e = cc e

draft_spells : (d : Draft) (t : TypeTable) → draft_reading d ≡ Ok t → IsTypeTable t
unfolding draft_reading table_from
draft_spells d t e =
    let (names, e1) = no_fault (has_bad_name d) BadName _ t e in
    let (counts, e2) = no_fault (has_bad_count d) Count _ t e1 in
    let (repeats, e3) = no_fault (has_repeated_name d) Repeated _ t e2 in
    let (lengths, e4) = no_fault (has_bad_length d) RowLength _ t e3 in
    let there = is_there (table_from d) UnknownName t e4 in
    let rows = bind_some (rows_from d.states d.responses d.operations) _ t there in
    subst IsTypeTable (same_value rows.2) (is_type_table d rows.0 names counts repeats lengths rows.1)
  where
    same_value : {x y : TypeTable} → Some x ≡ Some y → x ≡ y
    same_value f = cc f

document_spells : (document : Members) (t : TypeTable) → document_reading document ≡ Ok t → IsTypeTable t
unfolding document_reading
document_spells document t e =
    let (known, e1) = no_fault (has_unknown_key document) UnknownKey _ t e in
    let (whole, e2) = no_fault (has_missing_key document) MissingKey _ t e1 in
    by_draft (draft_of document) e2
  where
    by_draft : (o : Option Draft) → option_map_or draft_reading o (Err WrongKind) ≡ Ok t → IsTypeTable t
    by_draft None f = absurd (cc f)
    by_draft (Some d) f = draft_spells d t f

pub spelled : (bytes : List ℕ) (t : TypeTable) → reading bytes ≡ Ok t → IsTypeTable t
spelled bytes t e = by_document (document_of bytes) (sym (reading_by_document bytes) ∙ e)
  where
    by_document : (o : Option Members) → option_map_or document_reading o (Err NotToml) ≡ Ok t → IsTypeTable t
    by_document None f = absurd (cc f)
    by_document (Some document) f = document_spells document t f
