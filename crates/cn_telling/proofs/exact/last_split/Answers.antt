use Rattle.std.proofs.Common.{◌+◌, ◌∙◌, arith, sym, true≢false}
use Rattle.cn_telling.proofs.CandidateLemmas.{none_split, none_split_from}
use Rattle.cn_telling.proofs.TellLemmas.{some_tells_splits}
use Rattle.cn_telling.proofs.exact.last_split.Goals as goal

pub returns-then-branch : goal.returns-then-branch
returns-then-branch c most l =
    let t = c.args.table.now in
    let n = c.args.n in
    (omega (arith, c.requires.some), omega (arith, l), c.in_ok-some_splits.ensures.0 c.if-branch.true, none_split t (n + 1) most (omega (arith, c.requires.some)) c.requires.none)

pub returns : goal.returns
returns c most l =
    let t = c.args.table.now in
    let n = c.args.n in
    c.split_up_to.ensures t most c.requires.some l (λ three. some_tells_splits t n (c.requires.tells three))
    (none_split_from t (n + 1) most (omega (arith, c.requires.some)) c.requires.none (λ s. true≢false (sym (c.in_ok-some_splits.ensures.1 s) ∙ c.if-branch.false)))
