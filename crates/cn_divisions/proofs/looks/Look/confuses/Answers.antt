use Rattle.std.proofs.Common.{◌∙◌, subst, sym}
use Rattle.cn_divisions.specs.Looks.{AreSeenAlike}
use Rattle.cn_divisions.proofs.Alike.{meets_alike, shares_alike}
use Rattle.cn_divisions.proofs.looks.Look.confuses.Goals as goal

pub returns-then-reads : goal.returns-then-reads
returns-then-reads c t is of_a of_b =
    let same = meets_alike t c.args.self.now.sight c.args.a.now c.args.b.now (sym c.reads.ensures ∙ c.if-reads.true) in
    (λ h. same.0 (c.meets.ensures.0 h), λ h. c.meets.ensures.1 (same.1 h))

pub returns : goal.returns
returns c t is of_a of_b =
    let sight = c.args.self.now.sight in
    let sets = subst (AreSeenAlike t sight) (sym c.as_slice.ensures.value) (is.alike (sym c.reads.ensures ∙ c.if-reads.false)) in
    let same = shares_alike t sight c.as_slice.result.now c.args.a.now c.args.b.now sets of_a of_b in
    (λ h. same.0 (c.share_in_one.ensures.0 h), λ h. c.share_in_one.ensures.1 (same.1 h))
