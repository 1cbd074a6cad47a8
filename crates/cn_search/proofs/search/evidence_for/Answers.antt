use Rattle.std.proofs.Common.{◌∙◌, ap, sym, subst, List, IfOk}
use Rattle.cn_choice.specs.Canonical.{Choice}
use Rattle.cn_finding.specs.Evidence.{NoneIsWitness}
use Rattle.cn_search.specs.Search.{choices_of_all}
use Rattle.cn_search.specs.Kept.{KeepsFor}
use Rattle.cn_search.proofs.Batches.{all_refuted_with}
use Rattle.cn_search.proofs.FindingLemmas.{none_found}
use Rattle.cn_search.proofs.search.evidence_for.Goals as goal

pub whole_evidence-requires-after_bounds : goal.whole_evidence-requires-after_bounds
whole_evidence-requires-after_bounds g c =
    let t = c.args.table.now in
    let whole = ap (choices_of_all t) (c.as_slice.ensures.value ∙ c.in_ok-blocks.ensures) ∙ c.block_list.ensures.cover t c.args.n in
    λ κs lives. all_refuted_with t c.args.n c.in_ok-sets.sets c.in_ok-sets.ensures c.requires.some c.requires.few (λ k few i. c.block_list.ensures.blocks t c.args.n k few i) c.as_slice.result.now
    (c.as_slice.ensures.value ∙ c.in_ok-blocks.ensures)
    (subst (NoneIsWitness t) (sym whole) (none_found t c.args.n (c.live_choices_decide.ensures.shown t c.args.n) c.requires.refuted))

pub returns : goal.returns
returns g c =
    let t = c.args.table.now in
    let whole = ap (choices_of_all t) (c.as_slice.ensures.value ∙ c.in_ok-blocks.ensures) ∙ c.block_list.ensures.cover t c.args.n in
    subst (λ (choices : List Choice). IfOk c.whole_evidence.result (KeepsFor g.E.Evidence.keeps t choices)) whole c.whole_evidence.ensures
