use Rattle.std.proofs.Common.{leb, rules, sym}
use Rattle.std.proofs.lemmas.Bool.{MatchBool-at_true, leb-true}
use Rattle.std.proofs.lemmas.List.Sorted.{IsNonDecreasingBy-from_all_adjacent, answers_always}
use Rattle.cn_game.specs.InOrder.{pair_of}
use Rattle.cn_game.specs.declared.trap.Turn.{Turn}
use Rattle.cn_game.proofs.turns.are_in_order.Goals as goal

pub returns : goal.returns
returns c = λ sorted.
    let n = λ (turn : Turn). pair_of turn.board in
    let answer = c.is_sorted_by.ensures.cases (λ x y. leb (n x) (n y)) (answers_always _ _ _ (λ f a r g k. search rules)) in
    IsNonDecreasingBy-from_all_adjacent n c.args.turns.now (λ k d l. leb-true _ _ (sym (MatchBool-at_true _ _ sorted answer k d l)))
