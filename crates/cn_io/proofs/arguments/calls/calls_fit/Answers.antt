use Rattle.std.proofs.Common.{◌≡◌, ◌==◌, ◌&&◌, ◌∙◌, ℕ, Bool, List, length, map, nat_lt, ap, eq-eqb}
use Rattle.std.specs.List.{list_all}
use Rattle.cn_table.specs.TypeTable.{TypeTable}
use Rattle.cn_proto.specs.Plan.{processes_of}
use Rattle.std.proofs.lemmas.List.{length-map}
use Rattle.std.proofs.lemmas.List.Folds.{list_all-map}
use Rattle.cn_io.proofs.arguments.calls.calls_fit.Goals as goal

-- if there are as many lists as processes, it remains whether each number is known
fitting : {V : Type 0} (items : V → List ℕ) (calls : List V) (processes operations number : ℕ) (known : Bool) → length calls ≡ processes → number ≡ operations
    → known ≡ list_all (λ list. list_all (λ operation. nat_lt operation number) (items list)) calls
    → known ≡ ((length (map items calls) == processes) && list_all (λ list. list_all (λ operation. nat_lt operation operations) list) (map items calls))
fitting items calls processes operations number known many is h =
    rw (eq-eqb (length (map items calls)) processes (length-map calls items ∙ many), list_all-map (λ list. list_all (λ operation. nat_lt operation operations) list) items calls, ← is) h

pub returns-then-calls-from-clause-fit : goal.returns-then-calls-from-clause-fit
returns-then-calls-from-clause-fit c =
    fitting (λ list. list.items) c.args.calls.now _ _ c.operations.result c.each_known.result (c.if-calls-from.true ∙ c.from.ensures ∙ c.processes.ensures.number ∙ ap processes_of c.plan-plan.ensures)
    (c.operations.ensures.number ∙ ap (λ (t : TypeTable). length t.operations) c.object-object.ensures) c.each_known.ensures
