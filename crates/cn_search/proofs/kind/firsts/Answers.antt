use Rattle.std.proofs.Common.{ap, ◌∙◌, Option}
use Rattle.rayon.proofs.ListFacts.{IfOk-then}
use Rattle.rayon.proofs.ToStd.{slice-AllZip}
use Rattle.cn_choice.specs.Blocks.{Block}
use Rattle.cn_choice.specs.Canonical.{Choice}
use Rattle.cn_finding.specs.Evidence.{IsFirstAmong}
use Rattle.cn_choice.specs.Live.{live_in}
use Rattle.cn_search.proofs.kind.firsts.Goals as goal

pub returns : goal.returns
returns g c =
    let slice = ap (λ it. it.slice.now) c.with_min_len.ensures.base ∙ c.par_iter.ensures in
    IfOk-then c.collect.result _ _ c.collect.ensures (λ v h.
    let chain = rw (c.map.ensures.base, c.map.ensures.f) at h.1 in
    let rel : Block → Option Choice → Type 0 = λ k p. IsFirstAmong (g.K.Kind.holds c.args.table.now) (live_in c.args.table.now k) p in
    rw h.2 (slice-AllZip chain.0 c.args.blocks.now (chain.1 ∙ slice) rel h.0 chain.2))
