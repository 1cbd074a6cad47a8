use Rattle.std.proofs.Common.{◌≡◌, ℕ, ◌∙◌, inr, ap, refl, sym, subst, Some, true≢false}
use Rattle.std.proofs.lemmas.Option.{same_Some}
use Rattle.cn_table.specs.TypeTable.{transition}
use Rattle.cn_choice.specs.Moves.{next_of}
use Rattle.cn_stocks.specs.Pairs.{Has}
use Rattle.cn_collisions.proofs.EndingLemmas.{dead_one}
use Rattle.cn_collisions.proofs.WayLemmas.{dead_more}
use Rattle.cn_collisions.proofs.endings.other_ending.Goals as goal

pub loop-process-preserved : goal.loop-process-preserved
loop-process-preserved c =
    let a = c.args in
    let v = a.view.now in
    let t = v.sets.now.table.now in
    let raw = v.raw.now in
    let set = a.target.now in
    let p = c.loop-process.process in
    let next : c.apply.result.1.0 ≡ next_of t raw p a.state.0 =
    ap (λ (x : ℕ × ℕ). x.1) c.apply.ensures.value ∙ ap (λ (o : ℕ). (transition t o a.state.0).1) c.operation.ensures.operation in
    dead_more t raw v.process set 1 a.low a.high a.used a.state.0 (Some a.response) p c.loop-process.invariant
    (dead_one t raw v.process set a.low a.high a.used a.state.0 (Some a.response) p (λ r e has. (
    let here : Has set a.response c.apply.result.1.0 = subst (λ (k : ℕ). Has set k c.apply.result.1.0) (sym (same_Some a.response r e)) (subst (λ (q : ℕ). Has set r q) (sym next) has) in
    true≢false (sym (c.has_some.ensures.1 (c.apply.result.1.0, here, (c.with.ensures c.apply.result.1.0).1 (inr refl))) ∙ c.if-has_some.false))))
