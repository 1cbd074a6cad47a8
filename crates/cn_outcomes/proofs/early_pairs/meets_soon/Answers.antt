use Rattle.cn_outcomes.proofs.EarlyPairs.{given_meet}
use Rattle.cn_outcomes.proofs.early_pairs.meets_soon.Goals as goal

pub returns-then-meets : goal.returns-then-meets
returns-then-meets c = λ _. given_meet c.args.table.now c.args.choice.now c.args.j _ _ c.pairs_of_second_move-from_a.ensures c.pairs_of_second_move-from_b.ensures (c.meets.ensures.0 c.if-meets.true)

pub returns-then-is_in : goal.returns-then-is_in
returns-then-is_in c = λ m. given_meet c.args.table.now c.args.choice.now c.args.j _ _ c.pairs_of_first_move.ensures c.pairs_of_second_move-from_b.ensures (c.meets-then-is_in.ensures.0 m)

pub returns-else-is_in : goal.returns-else-is_in
returns-else-is_in c = λ m. (let h = c.meets-else-is_in.ensures.0 m in
    given_meet c.args.table.now c.args.choice.now c.args.j _ _ c.pairs_of_second_move-from_a.ensures c.pairs_of_first_move-else-is_in.ensures (h.0, h.1, h.3, h.2))
