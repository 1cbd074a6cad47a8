use Rattle.std.proofs.Common.{Global, ◌≡◌, ◌+◌, ◌≤◌, ℕ, List, arith, length, refl, subst, sym, Some}
use Rattle.std.specs.Prelude.{slice_get}
use Rattle.std.specs.declared.vec.Vec.{Vec}
use Rattle.std.proofs.lemmas.Option.{slice_get_read}
use Rattle.cn_stocks.specs.declared.stocks.Stock.{Stock}
use Rattle.cn_stocks.specs.declared.stocks.Stocks.{Stocks}
use Rattle.cn_collisions.specs.declared.word_sets.Ends.{Ends}
use Rattle.cn_collisions.specs.Levels.{AreAllSets, AreBeside}
use Rattle.cn_collisions.specs.WordSets.{AreSetsOf, IsEnds}
use Rattle.cn_stocks.proofs.EachLemmas.{each_none, each_push}
use Rattle.cn_collisions.proofs.LevelLemmas.{beside, each_empty, same_at}
use Rattle.cn_collisions.proofs.sets.all_ends.Goals as goal

pub loop-size-init : goal.loop-size-init
loop-size-init c = each_none _ c.in_ok-ends.ends.items c.in_ok-ends.ensures.items

pub bounds-stocks-size : goal.bounds-stocks-size
bounds-stocks-size c = omega (arith, c.requires.stocks.long, c.loop-size-test.true)

pub below-below-requires : goal.below-below-requires
below-below-requires c = subst (λ (xs : List (Vec Ends Global)). c.loop-size.size ≤ length xs) (sym c.as_slice-done.ensures.value) (omega (arith, c.loop-size.invariant.0))

pub level_ends-requires-clause-beside : goal.level_ends-requires-clause-beside
level_ends-requires-clause-beside c =
    let t = c.args.table.now in
    let levels = c.args.stocks.now in
    let k = c.loop-size.size in
    let s = c.index-stocks-size.result in
    let of : ℕ → List Stock → List Ends → Type 0 = λ m stocks ends. AreSetsOf (IsEnds t) m stocks ends in
    let at = slice_get_read levels (length levels) k s refl (omega (arith, c.requires.stocks.long, c.loop-size-test.true)) c.index-stocks-size.is in
    let b = beside (length t.operations) of (λ xs l. each_empty _ xs l)
    (c.args.n + 1) k levels c.loop-size.ends.items c.below-below.result.now s c.requires.stocks c.loop-size.invariant c.below-below.ensures.none
    (λ m level e h. c.below-below.ensures.some m level e (subst (λ (xs : List (Vec Ends Global)). slice_get xs m ≡ Some level) (sym c.as_slice-done.ensures.value) h)) at in
    (b.0, subst (λ (xs : List Stock). AreBeside (length t.operations) k b.0 xs) (sym c.as_slice-list.ensures.value) b.1, b.2)

pub loop-size-preserved : goal.loop-size-preserved
loop-size-preserved c =
    let t = c.args.table.now in
    let levels = c.args.stocks.now in
    let k = c.loop-size.size in
    let s = c.index-stocks-size.result in
    let level = c.in_ok-level.level in
    let at = slice_get_read levels (length levels) k s refl (omega (arith, c.requires.stocks.long, c.loop-size-test.true)) c.index-stocks-size.is in
    let fits : ℕ → Vec Ends Global → Type 0 = λ m e. (s : Stocks) → slice_get levels m ≡ Some s → AreSetsOf (IsEnds t) m s.list.items e.items in
    let here = subst (λ (xs : List Stock). AreSetsOf (IsEnds t) k xs level.items) c.as_slice-list.ensures.value c.in_ok-level.ensures in
    each_push fits c.loop-size.ends.items c.push.new.self.items level k c.in_ok-push.ensures.items c.loop-size.invariant
    (λ r h. same_at (λ x. AreSetsOf (IsEnds t) k x.list.items level.items) levels k s r at here h)

pub returns : goal.returns
returns c =
    let end : c.loop-size.size ≡ c.args.n = omega (arith, c.loop-size-test.false, c.loop-size.auto.size-end) in
    subst (λ (k : ℕ). AreAllSets (IsEnds c.args.table.now) c.args.stocks.now k c.loop-size.ends.items) end c.loop-size.invariant
