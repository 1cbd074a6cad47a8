use Rattle.std.proofs.Common.{ℕ, List, All, Global}
use Rattle.std.specs.declared.alloc.AllocError.{AllocError}
use Rattle.std.specs.declared.vec.Vec.{Vec as VecOf}
use Rattle.rayon.proofs.ListFacts.{IfOk-then}
use Rattle.cn_stocks.proofs.Decisions.{collected}
use Rattle.cn_search.specs.Parts.{IsPartOf}
use Rattle.cn_search.specs.declared.parts.Part.{Part}
use Rattle.cn_search.proofs.PartLemmas.{seconds}
use Rattle.cn_search.proofs.parts.parts_by_thread.Goals as goal

pub returns : goal.returns
returns g c =
    let are : VecOf (Part g.row.E.Denot) Global → Type 0 = λ parts. All (IsPartOf g.E.Evidence.keeps c.args.table.now c.args.blocks.now) parts.items in
    let h = c.in_ok-collect.ensures in
    let chain = rw (c.map.ensures.base, c.map.ensures.f) at h.1 in
    let rel : ℕ → VecOf (Part g.row.E.Denot) Global → Type 0 = λ i parts. are parts in
    let items : VecOf (VecOf (Part g.row.E.Denot) Global) Global → List (VecOf (Part g.row.E.Denot) Global) = λ v. v.items in
    IfOk-then c.in_ok-collect.field-0 _ _ (collected AllocError rel items chain.0 h.0 c.in_ok-collect.field-0 chain.2 h.2) (λ v all. seconds are chain.0 (items v) all)
