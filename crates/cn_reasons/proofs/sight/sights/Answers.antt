use Rattle.std.proofs.Common.{◌↔◌, ◌≤◌, ℕ, Bool, IsTrue, arith, length}
use Rattle.std.proofs.lemmas.List.Elements.{All-same}
use Rattle.cn_outcomes.specs.PairSets.{Has}
use Rattle.cn_reasons.specs.Known.{IsKnownSight}
use Rattle.cn_reasons.specs.Sights.{sees, sights_if}
use Rattle.cn_reasons.proofs.Pieces.{pieces_push}
use Rattle.cn_reasons.proofs.SightLemmas.{all_known}
use Rattle.cn_reasons.proofs.sight.sights.Goals as goal

pub loop-response-preserved : goal.loop-response-preserved
loop-response-preserved c =
    let t = c.args.table.now in
    let choice = c.args.choice.now in
    let test : ℕ → ℕ → Bool = sees t choice c.args.team c.args.process in
    let exact : (r q : ℕ) → _ = λ r q. c.told_sights.ensures t choice c.args.team c.args.process r q in
    let agree : (r q : ℕ) → IsTrue (test r q) ↔ Has c.outcomes-set.result r q = λ r q. (
      λ h. (c.outcomes-set.ensures r q).1 ((exact r q).0 h),
      λ h. (exact r q).1 ((c.outcomes-set.ensures r q).0 h),
    ) in
    rw (pieces_push (sights_if test (length t.states)) c.loop-response.response, ← c.loop-response.invariant, ← c.states.ensures.number) (c.in_ok-push_sights.ensures test agree)

pub returns-clause-known : goal.returns-clause-known
returns-clause-known c =
    let t = c.args.table.now in
    let few : c.loop-response.response ≤ length t.responses = omega (arith, c.loop-response.auto.response-end, c.responses-response-end.ensures.number) in
    All-same (IsKnownSight t) _ _ c.loop-response.invariant (all_known t (sees t c.args.choice.now c.args.team c.args.process) c.loop-response.response few)
