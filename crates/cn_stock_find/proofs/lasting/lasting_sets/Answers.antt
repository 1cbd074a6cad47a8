use Rattle.std.proofs.Common.{refl}
use Rattle.std.specs.Prelude.{IsBitSet}
use Rattle.cn_stock_find.proofs.LastingLemmas.{least_sets}
use Rattle.cn_stock_find.proofs.lasting.lasting_sets.Goals as goal

pub returns : goal.returns
returns c =
    let from = c.only-from in
    let alone = c.onward-alone_states in
    let begun = c.first_onward-begun_states in
    let behind = c.first_onward-behind_states in
    let first = c.first_onward-first_states in
    least_sets c.args.table.now c.args.lasting _ c.requires (IsBitSet from.result) (IsBitSet alone.result) (IsBitSet begun.result) (IsBitSet behind.result) (IsBitSet first.result)
    from.ensures.same alone.ensures.same begun.ensures.same behind.ensures.same first.ensures.same alone.ensures.known behind.ensures.known first.ensures.known
    c.in_ok-alone.ensures c.in_ok-behind.ensures c.in_ok-first.ensures refl refl refl
