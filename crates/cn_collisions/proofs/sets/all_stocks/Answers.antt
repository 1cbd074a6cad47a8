use Rattle.std.proofs.Common.{◌≡◌, ◌+◌, ℕ, arith, length, refl, subst}
use Rattle.std.proofs.lemmas.Option.{slice_get_read}
use Rattle.cn_collisions.specs.Levels.{AreLevels}
use Rattle.cn_collisions.proofs.LevelLemmas.{levels_first, levels_push, some_all}
use Rattle.cn_collisions.proofs.sets.all_stocks.Goals as goal

pub loop-size-init : goal.loop-size-init
loop-size-init c = levels_first c.args.operations c.in_ok-levels.levels.items c.push.new.self.items c.in_ok-none.none c.in_ok-levels.ensures.items c.in_ok-push.ensures.items c.in_ok-none.ensures

pub index-here-requires : goal.index-here-requires
index-here-requires c = omega (arith, c.loop-size.invariant.long, c.loop-size.levels.ok.0)

pub longer-requires-clause-all : goal.longer-requires-clause-all
longer-requires-clause-all c =
    let levels = c.loop-size.levels.items in
    let at = slice_get_read levels (length levels) c.loop-size.size c.index-here.result.now refl (omega (arith, c.loop-size.invariant.long)) c.index-here.ensures in
    some_all c.args.operations (c.loop-size.size + 1) c.loop-size.size levels c.index-here.result.now c.loop-size.invariant at

pub loop-size-preserved : goal.loop-size-preserved
loop-size-preserved c =
    let levels = c.loop-size.levels.items in
    let at = slice_get_read levels (length levels) c.loop-size.size c.index-here.result.now refl (omega (arith, c.loop-size.invariant.long)) c.index-here.ensures in
    levels_push c.args.operations c.loop-size.size levels c.push-in-loop-size.new.self.items c.in_ok-longer.longer c.index-here.result.now c.in_ok-push-2.ensures.items
    c.loop-size.invariant at c.in_ok-longer.ensures

pub returns : goal.returns
returns c =
    let end : c.loop-size.size ≡ c.args.n = omega (arith, c.loop-size-test.false, c.loop-size.auto.size-end) in
    subst (λ (k : ℕ). AreLevels c.args.operations (k + 1) c.loop-size.levels.items) end c.loop-size.invariant
