use Rattle.std.proofs.Common.{◌≡◌, ◌∙◌, refl, decimal}
use Rattle.cn_pieces.proofs.Ends.{as_wanted}
use Rattle.cn_changes.specs.declared.pairs.TheConstants.{MOST_PAIRS}
use Rattle.cn_sentences.proofs.changes.push_cut.Goals as goal

pub returns : goal.returns
returns c =
    let most : c.as_str.result.now ≡ decimal MOST_PAIRS = c.as_str.ensures.value ∙ c.in_ok-most.ensures.ok in
    as_wanted _ _ _ _ c.push_pieces.ensures (rw (c.if-not-is_cut.false, most) refl)
