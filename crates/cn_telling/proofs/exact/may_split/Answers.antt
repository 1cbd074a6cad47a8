use Rattle.std.proofs.Common.{◌∙◌, ap, not, sym}
use Rattle.cn_stocks.proofs.SplitLemmas.{not_false, not_no}
use Rattle.cn_telling.proofs.CandidateLemmas.{no_second}
use Rattle.cn_telling.proofs.exact.may_split.Goals as goal

pub returns-in-Some : goal.returns-in-Some
returns-in-Some c three s =
    let none = no_second c.args.table.now c.args.level.now c.args.stock.now c.args.start c.in-Some.first c.requires.next c.requires.start three s c.in-Some.ensures.2 c.missing-in-Some.result
    c.missing-in-Some.ensures in
    not_no c.is_none.result (not_false (not c.is_none.result) (sym (ap not c.is_none.ensures) ∙ none))
