use Rattle.std.proofs.Common.{refl, sym, ◌∙◌}
use Rattle.cn_search.proofs.NumberLemmas.{discerning_by_first, known_by_first}
use Rattle.cn_search.proofs.numbers.decide_by_stocks.Goals as goal

pub returns-then-is_some-clause-decided : goal.returns-then-is_some-clause-decided
returns-then-is_some-clause-decided g c =
    let t = c.args.table.now in
    let n = c.args.n in (
      λ _. discerning_by_first t n (c.live_choices_decide.ensures.shown t n) c.in_ok-witness.witness c.in_ok-witness.ensures.first (sym c.is_some.ensures ∙ c.if-is_some.true),
      λ _. refl,
    )

pub returns-then-is_some-clause-witness : goal.returns-then-is_some-clause-witness
returns-then-is_some-clause-witness g c _ =
    let t = c.args.table.now in
    let n = c.args.n in
    known_by_first t n (c.live_choices_decide.ensures.shown t n) c.in_ok-witness.witness c.in_ok-witness.ensures.first (sym c.is_some.ensures ∙ c.if-is_some.true)
