use Rattle.std.proofs.Common.{ℕ, [], ◌+◌, ◌≡◌, arith, length, subst}
use Rattle.cn_stocks.specs.Words.{HaveSame}
use Rattle.cn_collisions.specs.Places.{IsUpTo}
use Rattle.cn_collisions.specs.Stands.{StandsAt}
use Rattle.cn_collisions.proofs.PlaceLemmas.{same_length, stands_none, up_to_all, up_to_none}
use Rattle.cn_collisions.proofs.StandLemmas.{stands_long}
use Rattle.cn_collisions.proofs.places.counted_place.Goals as goal

pub loop-operation-init : goal.loop-operation-init
loop-operation-init c =
    let s = c.args.sets.now in
    ([], stands_none (length s.table.now.operations) (s.n + 1) s.stocks.items c.requires.sets.levels (omega arith), up_to_none c.args.list.now)

pub returns : goal.returns
returns c =
    let s = c.args.sets.now in
    let list = c.args.list.now in
    let i = c.loop-operation.invariant in
    let end : c.loop-operation.operation ≡ length s.table.now.operations = omega (arith, c.operations-end.ensures.number, c.loop-operation-test.false, c.loop-operation.auto.operation-end) in
    let same : HaveSame list i.0 = up_to_all list i.0 (length s.table.now.operations) c.requires.known (subst (λ (k : ℕ). IsUpTo list k i.0) end i.2) in
    let size : c.loop-operation.at.size ≡ s.n = omega (
      arith,
      stands_long (length s.table.now.operations) (s.n + 1) s.stocks.items c.requires.sets.levels c.loop-operation.at.size c.loop-operation.at.place i.0 i.1,
      same_length list i.0 same,
      c.requires.list,
    ) in
    (i.0, subst (λ (k : ℕ). StandsAt s k c.loop-operation.at.place i.0) size i.1, same)
