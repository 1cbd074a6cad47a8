use Rattle.std.proofs.Common.{inl, inr, refl, ap, map, List, Vec, Global, ◌∙◌}
use Rattle.std.proofs.lemmas.Result.{err_from_is_err_and}
use Rattle.cn_io.specs.Arguments.Calls.{calls_in}
use Rattle.cn_io.specs.Arguments.Events.{capacity_of}
use Rattle.cn_app.specs.Commands.Serve.{HasServeReport}
use Rattle.cn_service.specs.Workers.{EachHasOneGate}
use Rattle.cn_io.specs.declared.arguments.operations.OperationWord.{OperationWord}
use Rattle.cn_app.proofs.CommandLemmas.Calls.{served_as}
use Rattle.cn_app.proofs.CommandLemmas.Reports.{reported, silent}
use Rattle.cn_app.proofs.commands.of_logs.serve.Goals as goal

pub returns-in_err-lists-clause-served : goal.returns-in_err-lists-clause-served
returns-in_err-lists-clause-served g c =
    let p = err_from_is_err_and c.from_residual-in_err-lists.result c.from_residual-in_err-lists.ensures.1 in
    rw (p.1, p.2) (inl (
      c.in_err-lists.field-0.0,
      inr (c.in_ok-slots.slots, c.in_ok-slots.ensures.capacity, inl (c.in_err-lists.field-0.0, c.in_err-lists.ensures, refl)),
      refl,
      silent c.args.output.now,
    ))

pub returns-in_err-opening-clause-served : goal.returns-in_err-opening-clause-served
returns-in_err-opening-clause-served g c =
    let p = err_from_is_err_and c.from_residual-in_err-opening.result c.from_residual-in_err-opening.ensures.1 in
    rw (p.1, p.2) (inl (
      c.in_err-opening.field-0.0,
      inr (
        c.in_ok-slots.slots,
        ap (λ word. capacity_of word.now) c.read_opening.ensures.read.capacity ∙ c.in_ok-slots.ensures.capacity,
        inr (c.in_ok-lists.lists, c.in_ok-lists.ensures, inl (c.in_err-opening.field-0.0, c.in_err-opening.ensures.opening, refl)),
      ),
      refl,
      silent c.args.output.now,
    ))

pub returns-clause-served : goal.returns-clause-served
returns-clause-served g c =
    let gates = EachHasOneGate g.G.Gate.asks g.G.Gate.says (λ p x. goal.F-post g c.args.make_gate p x) in
    let opening = c.in_ok-opening.opening in
    let same = ap (λ (lists : List (Vec OperationWord Global)). calls_in opening.object (map (λ list. list.items) lists)) c.deref.ensures.value in
    reported g.W.Write.contents (HasServeReport gates c.read_opening.new.given c.args.calls.now c.args.form) c.args.output.now c.report.new.self c.call_report.result c.report.result
    (inr (
      c.in_ok-slots.slots,
      ap (λ word. capacity_of word.now) c.read_opening.ensures.read.capacity ∙ c.in_ok-slots.ensures.capacity,
      inr (
        c.in_ok-lists.lists,
        c.in_ok-lists.ensures,
        inr (opening, c.in_ok-opening.ensures.opening, served_as gates c.args.form opening _ _ c.call_report.result same c.call_report.ensures),
      ),
    )) c.report.ensures
