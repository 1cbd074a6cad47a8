use Rattle.std.proofs.Common.{◌∙◌, ap, inl, map}
use Rattle.std.proofs.lemmas.Result.{err_from_is_err_and}
use Rattle.cn_table.specs.TypeTable.{TypeTable}
use Rattle.cn_io.specs.Arguments.Calls.{calls_in}
use Rattle.cn_service.specs.Workers.{EachHasOneGate}
use Rattle.cn_app.proofs.CommandLemmas.Calls.{served_as}
use Rattle.cn_app.proofs.commands.of_logs.call_report.Goals as goal

pub returns-in_err-calls : goal.returns-in_err-calls
returns-in_err-calls g c =
    let p = err_from_is_err_and c.from_residual.result c.from_residual.ensures.1 in
    rw p.1 (inl p.2)

pub returns : goal.returns
returns g c =
    let gates = EachHasOneGate g.G.Gate.asks g.G.Gate.says (λ p x. goal.F-post g c.args.make_gate p x) in
    let same = ap (map (λ list. list.items)) c.deref.ensures.value ∙ c.in_ok-calls.ensures ∙ ap (λ (t : TypeTable). calls_in t (map (λ list. list.items) c.args.lists.now)) c.object.ensures in
    served_as gates c.args.form c.args.opening _ _ c.serve_report.result same c.serve_report.ensures
