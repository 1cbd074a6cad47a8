use Rattle.std.proofs.Common.{◌↔◌, ◌∙◌, IsTrue, subst, sym}
use Rattle.std.proofs.lemmas.Result.{IfOk-weaker}
use Rattle.cn_choice.specs.Canonical.{Choice, raw_choice_of}
use Rattle.cn_choice.specs.Discerning.{IsWitness}
use Rattle.cn_choice.specs.RawChoices.{IsRawChoice}
use Rattle.cn_stock_check.specs.Seen.{choice_from}
use Rattle.cn_stock_check.proofs.WitnessLemmas.{choice_same}
use Rattle.cn_stock_check.proofs.witness.is_witness.Goals as goal

pub are_told_apart-requires-clause-choice : goal.are_told_apart-requires-clause-choice
are_told_apart-requires-clause-choice c =
    subst (λ (d : Choice). IsRawChoice c.args.table.now c.args.n (raw_choice_of d))
    (sym (choice_same c.choice.inside.state.0 c.as_slice-a.result.now c.as_slice-b.result.now c.choice.inside.a.items c.choice.inside.b.items c.as_slice-a.ensures.value c.as_slice-b.ensures.value ∙ c.choice.view_is))
    c.requires.choice

pub returns : goal.returns
returns c =
    IfOk-weaker c.are_told_apart.result
    (λ answer. IsTrue answer ↔ IsWitness c.args.table.now (choice_from c.choice.inside.state.0 c.as_slice-a.result.now c.as_slice-b.result.now))
    (λ answer. IsTrue answer ↔ IsWitness c.args.table.now (raw_choice_of c.args.choice.now))
    (λ answer h. subst (λ (d : Choice). IsTrue answer ↔ IsWitness c.args.table.now (raw_choice_of d))
    (choice_same c.choice.inside.state.0 c.as_slice-a.result.now c.as_slice-b.result.now c.choice.inside.a.items c.choice.inside.b.items c.as_slice-a.ensures.value c.as_slice-b.ensures.value ∙ c.choice.view_is)
    h)
    c.are_told_apart.ensures
