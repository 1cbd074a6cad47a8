use Rattle.std.proofs.Common.{◌≡◌, ◌∙◌, inl, ℕ, List, Vec, Global, ap, map, rules, sym, true}
use Rattle.std.proofs.lemmas.List.{length-map}
use Rattle.std.proofs.lemmas.Result.{err_from_is_err_and}
use Rattle.cn_log.specs.Opening.{Opening}
use Rattle.cn_io.specs.Arguments.Calls.{calls_fit}
use Rattle.cn_app.specs.Commands.Serve.{outcome_of_calls}
use Rattle.cn_io.specs.Outcomes.{cut_if}
use Rattle.cn_app.specs.Lines.Threads.{service_text}
use Rattle.cn_io.proofs.ArgumentLemmas.Calls.{calls_of_operations}
use Rattle.cn_app.proofs.LineLemmas.Threads.{each_has_responses, each_served}
use Rattle.cn_app.proofs.reports.serve.serve_report.Goals as goal

abbrev lists_of : List (Vec ℕ Global) → List (List ℕ)
lists_of calls = map (λ list. list.items) calls

pub serve_calls-requires-clause-operations : goal.serve_calls-requires-clause-operations
serve_calls-requires-clause-operations g c κs within =
    let fit : calls_fit c.args.opening (lists_of c.args.calls.now) ≡ true = search rules in
    rw c.in_ok-core.ensures.opening (calls_of_operations (λ list. list.items) c.args.opening c.args.calls.now fit)

pub service_text-requires-clause-range : goal.service_text-requires-clause-range
service_text-requires-clause-range g c =
    each_has_responses c.object.result.now c.args.calls.now c.in_ok-service.service.core c.in_ok-service.service.processes.items
    (sym (c.object.ensures ∙ ap (λ (o : Opening). o.object) c.opening-opening.ensures))
    c.in_ok-service.ensures.count c.in_ok-service.ensures.served

pub returns : goal.returns
returns g c =
    let core = c.in_ok-service.service.core in
    let worked = c.in_ok-service.service.processes.items in
    let opened : core.opening ≡ c.args.opening = c.in_ok-service.ensures.opening ∙ c.in_ok-core.ensures.opening in
    let object : c.object.result.now ≡ c.args.opening.object = c.object.ensures ∙ ap (λ (o : Opening). o.object) (c.opening-opening.ensures ∙ opened) in
    let start : c.start.result.0 ≡ c.args.opening.start = c.start.ensures.number ∙ ap (λ (o : Opening). o.start) (c.opening-opening.ensures ∙ opened) in
    let fit : calls_fit c.args.opening (lists_of c.args.calls.now) ≡ true = search rules in
    record {
      fit = fit;
      log = core;
      opened = opened;
      may_come = c.logs_are_linearized.ensures.events;
      linearized = c.logs_are_linearized.ensures.linearized;
      bypass = c.logs_are_linearized.ensures.bypass;
      wait_free = c.logs_are_linearized.ensures.wait_free;
      worked = worked;
      each = c.in_ok-service.ensures.count ∙ sym (length-map c.args.calls.now (λ list. list.items));
      served = each_served core c.args.calls.now worked c.in_ok-service.ensures.served;
      gated = c.in_ok-service.ensures.gates;
      written = c.in_ok-text.ensures ∙ (λ i. service_text c.args.form (object i) (start i) worked core);
      ended = c.cut_if-outcome.ensures ∙ ap cut_if c.has_cut.ensures ∙ ap outcome_of_calls c.deref.ensures.value;
    }

pub returns-in_err-text : goal.returns-in_err-text
returns-in_err-text g c =
    let p = err_from_is_err_and c.from_residual-in_err-text.result c.from_residual-in_err-text.ensures.1 in
    rw p.1 (inl p.2)
