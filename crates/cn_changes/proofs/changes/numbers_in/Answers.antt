use Rattle.std.proofs.Common.{◌≡◌, ◌∙◌, Bor, Global, List, ap}
use Rattle.std.specs.declared.alloc.AllocError.{AllocError}
use Rattle.std.specs.declared.vec.Vec.{Vec as VecOf}
use Rattle.rayon.proofs.ListFacts.{IfOk-then}
use Rattle.rayon.proofs.ToStd.{slice-AllZip}
use Rattle.cn_stocks.proofs.Decisions.{collected}
use Rattle.cn_changes.specs.Told.{AreNextNumbers}
use Rattle.cn_changes.specs.declared.numbers.NextNumbers.{NextNumbers}
use Rattle.cn_changes.specs.declared.targets.Target.{Target}
use Rattle.cn_changes.proofs.changes.numbers_in.Goals as goal

pub returns : goal.returns
returns g c =
    let slice = ap (λ it. it.slice.now) c.with_min_len.ensures.base ∙ c.par_iter.ensures in
    let h = c.in_ok-collect.ensures in
    let chain = rw (c.map.ensures.base, c.map.ensures.f) at h.1 in
    let rel : Target → NextNumbers → Type 0 = λ x told. (told.target ≡ x) × AreNextNumbers c.args.kind c.args.table.now told in
    let items : VecOf NextNumbers Global → List NextNumbers = λ v. v.items in
    IfOk-then c.in_ok-collect.field-0 _ _ (collected AllocError (λ (z : Bor Target) told. rel z.now told) items chain.0 h.0 c.in_ok-collect.field-0 chain.2 h.2)
    (λ v all. slice-AllZip chain.0 c.args.targets.now (chain.1 ∙ slice) rel (items v) all)
