use Rattle.std.proofs.Common.{◌<◌, ◌+◌, ◌∙◌, List, [], Some, length, slice_index_or, drop, take, ap, arith, sym, subst}
use Rattle.std.proofs.lemmas.List.{drop_all, drop_more, get_or-set_same, take_all}
use Rattle.cn_app.specs.Commands.ClassifyEach.{AreClassified}
use Rattle.cn_app.specs.Commands.Classify.{HasClassReport}
use Rattle.cn_app.specs.declared.commands.of_several_tables.NamedTable.{NamedTable}
use Rattle.cn_app.proofs.CommandLemmas.SeveralTables.{all_classified, ends_all, leads_by_fault, leads_by_line, noted_at, of_line, one_place_on, placed, still_behind, still_unread, writable_after_fault, writable_after_line}
use Rattle.cn_app.proofs.commands.of_several_tables.classify_tables.Goals as goal

pub classify-requires-clause-table : goal.classify-requires-clause-table
classify-requires-clause-table g c κs within =
    still_unread c.loop-i.tables c.args.tables.now c.loop-i.i c.index-tables-i.result (omega (arith, c.loop-i-test.true, c.loop-i.auto.tables)) c.loop-i.invariant.rest c.requires.tables

pub loop-i-preserved-in_default : goal.loop-i-preserved-in_default
loop-i-preserved-in_default g c =
    let h = c.classify.ensures in
    let i = c.loop-i.i in
    let now = c.loop-i.tables in
    let less : i < length now = omega (arith, c.loop-i-test.true, c.loop-i.auto.tables) in
    let old = slice_index_or now i c.index-tables-i.result in
    let new : NamedTable g.row.R.Denot = c.classify.new.self in
    let noted = noted_at g.F.Tell.notes _ now i new c.index-seen-i.result c.loop-i.faults c.note_line.new.faults less c.index-seen-i.is
    (of_line _ _ c.classify.result c.in_default.field-0 c.in_default.is h.line) c.note_line.ensures in
    record {
      leads = one_place_on g.R.Read.remaining g.W.Write.contents g.F.Tell.tells g.F.Tell.notes c.args.asked c.args.tables.now c.args.output.now c.args.faults.now c.loop-i.first now i new
          c.classify.new.output c.note_line.new.faults less
          (leads_by_line g.R.Read.remaining g.W.Write.contents g.F.Tell.tells g.F.Tell.notes c.args.asked c.args.tables.now c.args.output.now c.args.faults.now
          c.loop-i.first (take i now) (drop i now) (drop (i + 1) now) old new c.loop-i.output c.classify.new.output c.loop-i.faults c.loop-i.invariant.leads
          (drop_more now i c.index-tables-i.result less) c.note_line.new.faults c.classify.result c.in_default.field-0 c.in_default.is
          h noted);
      rest = still_behind now c.args.tables.now i c.index-tables-i.result less c.loop-i.invariant.rest new;
      writable = writable_after_line g.W.Write.contents (HasClassReport c.classify.new.self.text c.args.asked) c.loop-i.output c.classify.new.output c.classify.result c.in_default.field-0
          c.in_default.is h.classified;
    }

pub loop-i-preserved : goal.loop-i-preserved
loop-i-preserved g c =
    let i = c.loop-i.i in
    let now = c.loop-i.tables in
    let less : i < length now = omega (arith, c.loop-i-test.true, c.loop-i.auto.tables) in
    let old = slice_index_or now i c.index-tables-i.result in
    let new : NamedTable g.row.R.Denot = c.classify.new.self in
    let h = c.classify.ensures in
    let own = sym c.is_of_every_table.ensures ∙ c.if-is_of_every_table.false in
    let name = ap (λ (table : NamedTable g.row.R.Denot). table.name) (get_or-set_same now i new c.index-tables-i-in-loop-i.result less) ∙ h.name in
    let told = subst (λ (n : _). g.F.Tell.tells c.loop-i.faults (Some n.now) c.in-Err.fault c.tell-in-loop-i.new.self) name c.tell-in-loop-i.ensures in
    record {
      leads = one_place_on g.R.Read.remaining g.W.Write.contents g.F.Tell.tells g.F.Tell.notes c.args.asked c.args.tables.now c.args.output.now c.args.faults.now c.or-first.result now i new
          c.classify.new.output c.tell-in-loop-i.new.self less
          (leads_by_fault g.R.Read.remaining g.W.Write.contents g.F.Tell.tells g.F.Tell.notes c.args.asked c.args.tables.now c.args.output.now c.args.faults.now
          c.loop-i.first (take i now) (drop i now) (drop (i + 1) now) old new c.loop-i.output c.classify.new.output c.loop-i.faults c.loop-i.invariant.leads
          (drop_more now i c.index-tables-i.result less) c.tell-in-loop-i.new.self c.classify.result c.in-Err.fault c.or-first.result c.in-Err.is
          h own told c.or-first.ensures);
      rest = still_behind now c.args.tables.now i c.index-tables-i.result less c.loop-i.invariant.rest new;
      writable = writable_after_fault g.W.Write.contents (HasClassReport c.classify.new.self.text c.args.asked) c.loop-i.output c.classify.new.output c.classify.result c.in-Err.fault c.in-Err.is own
          h.classified c.loop-i.invariant.writable;
    }

pub returns-then-is_of_every_table : goal.returns-then-is_of_every_table
returns-then-is_of_every_table g c =
    let i = c.loop-i.i in
    let now = c.loop-i.tables in
    let h = c.classify.ensures in
    let less : i < length now = omega (arith, c.loop-i-test.true, c.loop-i.auto.tables) in
    let old = slice_index_or now i c.index-tables-i.result in
    let new : NamedTable g.row.R.Denot = c.classify.new.self in
    subst (λ (l : List (NamedTable g.row.R.Denot)). AreClassified g.R.Read.remaining g.W.Write.contents g.F.Tell.tells g.F.Tell.notes c.args.asked [] c.args.tables.now l
    c.args.output.now c.args.faults.now c.or-first.result c.classify.new.output c.tell.new.self)
    (sym (placed now i new less))
    (ends_all g.R.Read.remaining g.W.Write.contents g.F.Tell.tells g.F.Tell.notes c.args.asked c.args.tables.now c.args.output.now c.args.faults.now
    c.loop-i.first (take i now) (drop i now) (drop (i + 1) now) old new c.loop-i.output c.classify.new.output c.loop-i.faults c.loop-i.invariant.leads
    (drop_more now i c.index-tables-i.result less) c.tell.new.self c.classify.result c.in-Err.fault c.or-first.result c.in-Err.is
    h (sym c.is_of_every_table.ensures ∙ c.if-is_of_every_table.true) c.tell.ensures c.or-first.ensures)

pub returns : goal.returns
returns g c =
    let i = c.loop-i.i in
    let now = c.loop-i.tables in
    subst (λ (l : List (NamedTable g.row.R.Denot)). AreClassified g.R.Read.remaining g.W.Write.contents g.F.Tell.tells g.F.Tell.notes c.args.asked [] c.args.tables.now l
    c.args.output.now c.args.faults.now c.loop-i.first c.loop-i.output c.loop-i.faults)
    (take_all i now (omega (arith, c.loop-i-test.false, c.loop-i.auto.tables)))
    (all_classified g.R.Read.remaining g.W.Write.contents g.F.Tell.tells g.F.Tell.notes c.args.asked c.args.tables.now c.args.output.now c.args.faults.now
    c.loop-i.first (take i now) (drop i now) c.loop-i.output c.loop-i.faults c.loop-i.invariant.leads (drop_all i now (omega (arith, c.loop-i-test.false, c.loop-i.auto.tables))))
