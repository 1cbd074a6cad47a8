use Rattle.std.proofs.Common.{◌∷◌, ◌+◌, ◌∙◌, drop, ap, arith, refl, sym}
use Rattle.std.proofs.lemmas.List.{drop_all}
use Rattle.cn_app.specs.Commands.ClassifyEach.{has_line, names_with}
use Rattle.cn_app.proofs.CommandLemmas.SeveralTables.{names_behind, names_here}
use Rattle.cn_app.proofs.commands.of_several_tables.first_with.Goals as goal

pub loop-table-init : goal.loop-table-init
loop-table-init g c = refl

pub loop-table-preserved : goal.loop-table-preserved
loop-table-preserved g c =
    let line = c.args.line.now in
    let item = c.table-item.result in
    c.loop-table.invariant ∙ names_behind line c.args.tables.now c.loop-table.table-index item c.loop-table-test.true
    (ap (has_line line) (sym c.table-item.is) ∙ sym c.has_line.ensures ∙ c.if-has_line.false)

pub returns-then-has_line : goal.returns-then-has_line
returns-then-has_line g c =
    let line = c.args.line.now in
    let item = c.table-item.result in
    let behind = names_with line (drop (c.loop-table.table-index + 1) c.args.tables.now) in (
      behind,
      c.loop-table.invariant ∙ names_here line c.args.tables.now c.loop-table.table-index item c.loop-table-test.true
          (ap (has_line line) (sym c.table-item.is) ∙ sym c.has_line.ensures ∙ c.if-has_line.true)
          ∙ ap (λ table. table.name.now ∷ behind) (sym c.table-item.is),
    )

pub returns : goal.returns
returns g c = c.loop-table.invariant ∙ ap (names_with c.args.line.now) (drop_all c.loop-table.table-index c.args.tables.now (omega (arith, c.loop-table-test.false)))
