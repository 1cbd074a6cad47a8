use Rattle.std.proofs.Common.{◌≡◌, ◌-◌, ◌∙◌, ℕ, List, Global, ap, arith, length, subst}
use Rattle.std.specs.List.{AllZip, range_with_len}
use Rattle.std.specs.declared.alloc.AllocError.{AllocError}
use Rattle.std.specs.declared.vec.Vec.{Vec as VecOf}
use Rattle.std.proofs.Crossing.{crosses, frees}
use denote.Param.Send.{sendable}
use Rattle.rayon.specs.Numbers.{nat_range}
use Rattle.rayon.proofs.ListFacts.{IfOk-then}
use Rattle.rayon.proofs.ToStd.{nat_range-All}
use Rattle.cn_stocks.proofs.Decisions.{collected}
use Rattle.cn_collisions.specs.declared.word_sets.Shown.{Shown}
use Rattle.cn_collisions.specs.Levels.{IsPlaceOf, IsShownAt}
use Rattle.cn_stocks.proofs.EachLemmas.{each_of_range}
use Rattle.cn_collisions.proofs.sets.level_shown.Goals as goal

pub collect-requires : goal.collect-requires
collect-requires g c κs =
    let ends = c.into_par_iter.ensures in
    let inside = nat_range-All (IsPlaceOf c.args.level.now) 0 (length c.args.level.now.stocks.now) (λ i low high. (c.requires, high)) in (
      search (sendable, crosses) depth 60 fits 20000,
      (
        search (sendable, crosses) depth 60 fits 20000,
        (
          search (sendable, crosses) depth 60 fits 20000,
          (
            search (sendable, crosses) depth 60 fits 20000,
            (search (sendable, crosses) depth 60 fits 20000, (frees, rw (c.map.ensures.base, c.map.ensures.f, c.with_min_len.ensures.base, ends.0, ends.1) (λ k d lt. (inside k d lt, λ y p. tt)))),
          ),
        ),
      ),
    )

pub returns : goal.returns
returns g c =
    let level = c.args.level.now in
    let n = length level.stocks.now in
    let ends = c.into_par_iter.ensures in
    let whole : n - 0 ≡ n = omega arith in
    let h = c.in_ok-collect.ensures in
    let chain = rw (c.map.ensures.base, c.map.ensures.f) at h.1 in
    let rel : ℕ → Shown → Type 0 = λ place own. IsShownAt level place own in
    let items : VecOf Shown Global → List Shown = λ v. v.items in
    let places = chain.1 ∙ ap (λ it. nat_range it.start it.end) c.with_min_len.ensures.base ∙ (λ i. nat_range (ends.0 i) (ends.1 i)) ∙ ap (range_with_len 0) whole in
    IfOk-then c.in_ok-collect.field-0 _ _ (collected AllocError rel items chain.0 h.0 c.in_ok-collect.field-0 chain.2 h.2)
    (λ v all. each_of_range rel n (items v) (subst (λ (xs : List ℕ). AllZip rel xs (items v)) places all))
