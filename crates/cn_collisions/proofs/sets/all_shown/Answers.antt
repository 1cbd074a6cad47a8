use Rattle.std.proofs.Common.{Global, ◌≡◌, ◌+◌, ◌-◌, ◌≤◌, ℕ, List, arith, length, refl, subst, sym, Some}
use Rattle.std.specs.Prelude.{slice_get}
use Rattle.std.specs.declared.vec.Vec.{Vec}
use Rattle.std.proofs.lemmas.Option.{slice_get_read}
use Rattle.cn_stocks.specs.declared.stocks.Stock.{Stock}
use Rattle.cn_stocks.specs.declared.stocks.Stocks.{Stocks}
use Rattle.cn_collisions.specs.declared.word_sets.Ends.{Ends}
use Rattle.cn_collisions.specs.declared.word_sets.Shown.{Shown}
use Rattle.cn_collisions.specs.Levels.{AreAllSets, AreBeside}
use Rattle.cn_collisions.specs.WordSets.{AreSetsOf, IsEnds, IsShown}
use Rattle.cn_stocks.proofs.EachLemmas.{each_none, each_push, each_read}
use Rattle.cn_collisions.proofs.LevelLemmas.{beside, each_empty, same_at}
use Rattle.cn_collisions.proofs.sets.all_shown.Goals as goal

pub loop-size-init : goal.loop-size-init
loop-size-init g c = each_none _ c.in_ok-shown.shown.items c.in_ok-shown.ensures.items

pub bounds-stocks-size : goal.bounds-stocks-size
bounds-stocks-size g c = omega (arith, c.requires.stocks.long, c.loop-size-test.true)

pub below-below-requires : goal.below-below-requires
below-below-requires g c = subst (λ (xs : List (Vec Shown Global)). c.loop-size.size ≤ length xs) (sym c.as_slice-done.ensures.value) (omega (arith, c.loop-size.invariant.0))

pub bounds-ends-size : goal.bounds-ends-size
bounds-ends-size g c = omega (arith, c.requires.ends.0, c.loop-size-test.true)

pub level_shown-requires-after_bounds : goal.level_shown-requires-after_bounds
level_shown-requires-after_bounds g c κs within =
    let t = c.args.table.now in
    let levels = c.args.stocks.now in
    let k = c.loop-size.size in
    let s = c.index-stocks-size.result in
    let of : ℕ → List Stock → List Shown → Type 0 = λ m stocks shown. AreSetsOf (IsShown t) m stocks shown in
    let at = slice_get_read levels (length levels) k s refl (omega (arith, c.requires.stocks.long, c.loop-size-test.true)) c.index-stocks-size.is in
    let b = beside (length t.operations) of (λ xs l. each_empty _ xs l)
    (c.args.n + 1) k levels c.loop-size.shown.items c.below-below.result.now s c.requires.stocks c.loop-size.invariant c.below-below.ensures.none
    (λ m level e h. c.below-below.ensures.some m level e (subst (λ (xs : List (Vec Shown Global)). slice_get xs m ≡ Some level) (sym c.as_slice-done.ensures.value) h)) at in
    let row = each_read _ c.args.ends.now c.args.n k c.index-ends-size.result c.requires.ends (omega (arith, c.loop-size-test.true)) c.index-ends-size.is s at in
    record {
      few = omega (arith, c.requires.few, c.loop-size-test.true);
      before = b.0;
      beside = subst (λ (xs : List Stock). AreBeside (length t.operations) k b.0 xs) (sym c.as_slice-list.ensures.value) b.1;
      below = b.2;
      ends = subst (λ (xs : List Stock). AreSetsOf (IsEnds t) k xs c.as_slice-own.result.now) (sym c.as_slice-list.ensures.value)
          (subst (λ (xs : List Ends). AreSetsOf (IsEnds t) k s.list.items xs) (sym c.as_slice-own.ensures.value) row);
    }

pub loop-size-preserved : goal.loop-size-preserved
loop-size-preserved g c =
    let t = c.args.table.now in
    let levels = c.args.stocks.now in
    let k = c.loop-size.size in
    let s = c.index-stocks-size.result in
    let level = c.in_ok-pairs.pairs in
    let at = slice_get_read levels (length levels) k s refl (omega (arith, c.requires.stocks.long, c.loop-size-test.true)) c.index-stocks-size.is in
    let fits : ℕ → Vec Shown Global → Type 0 = λ m e. (s : Stocks) → slice_get levels m ≡ Some s → AreSetsOf (IsShown t) m s.list.items e.items in
    let here = subst (λ (xs : List Stock). AreSetsOf (IsShown t) k xs level.items) c.as_slice-list.ensures.value c.in_ok-pairs.ensures in
    each_push fits c.loop-size.shown.items c.push.new.self.items level k c.in_ok-push.ensures.items c.loop-size.invariant
    (λ r h. same_at (λ x. AreSetsOf (IsShown t) k x.list.items level.items) levels k s r at here h)

pub returns : goal.returns
returns g c =
    let end : c.loop-size.size ≡ c.args.n - 1 = omega (arith, c.loop-size-test.false, c.loop-size.auto.size-end) in
    subst (λ (k : ℕ). AreAllSets (IsShown c.args.table.now) c.args.stocks.now k c.loop-size.shown.items) end c.loop-size.invariant
