use Rattle.std.proofs.Common.{◌<◌, ◌^◌, ◌∙◌, inl, inr, arith, sym, true≢false}
use Rattle.cn_stocks.proofs.PairLemmas.{some_bit}
use Rattle.cn_stocks.proofs.SplitLemmas.{either, not_false, not_true}
use Rattle.cn_stocks.proofs.meetings.is_alone.Goals as goal

pub returns-then-others-ne0 : goal.returns-then-others-ne0
returns-then-others-ne0 c =
    let others = c.union_of_others-others.result in
    let has = c.union_of_others-others.ensures in
    let small : others < 2 ^ 16 = omega (arith, c.union_of_others-others.type_inv) in (
      λ h. record {
        other = (let q = some_bit others small c.if-others-ne0.true in let g = (has q.0).0 q.1 in (g.0, g.1, (q.0, g.2)));
        apart = λ g q n a b. true≢false (sym (c.meet.ensures.1 (q, (has q).1 (g, n, a), b)) ∙ not_false c.meet.result h);
      },
      λ a. not_true c.meet.result (elim (either c.meet.result) [
        | inl met ↦ absurd (let m = c.meet.ensures.0 met in let g = (has m.0).0 m.1 in a.apart g.0 m.0 g.1 g.2 m.2)
        | inr apart ↦ apart
      ]),
    )
