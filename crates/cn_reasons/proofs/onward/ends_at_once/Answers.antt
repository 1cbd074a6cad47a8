use Rattle.std.proofs.Common.{inl, inr}
use Rattle.cn_outcomes.proofs.LastProcess.{zero_has_none}
use Rattle.cn_reasons.proofs.OnwardLemmas.{no_word}
use Rattle.cn_reasons.proofs.onward.ends_at_once.Goals as goal

pub returns : goal.returns
returns c q =
    let word = no_word c.args.table.now c.args.start q in (
      λ s. elim ((c.with.ensures q).0 s) [ inl z ↦ absurd (zero_has_none q z) | inr e ↦ word.0 e ],
      λ h. (c.with.ensures q).1 (inr (word.1 h)),
    )
