use Rattle.std.proofs.Common.{[], ◌+◌, ◌<◌, ◌≡◌, ◌∷◌, ◌++◌, arith, length}
use Rattle.cn_stocks.specs.Words.{times}
use Rattle.cn_collisions.proofs.PlaceLemmas.{gathered_end, gathered_more, gathered_room, gathered_start, gathered_up_to}
use Rattle.cn_collisions.proofs.StandLemmas.{stands_long}
use Rattle.cn_collisions.proofs.places.with_copies.Goals as goal

pub loop-copy-init : goal.loop-copy-init
loop-copy-init c = (let f = c.requires.from in (f.0, f.1, gathered_start c.args.list.now c.args.operation f.0 f.2))

pub child_of-at-requires-clause-room : goal.child_of-at-requires-clause-room
child_of-at-requires-clause-room c =
    let s = c.args.sets.now in
    let list = c.args.list.now in
    let i = c.loop-copy.invariant in
    let at = c.loop-copy.at in
    let left : c.loop-copy._copy < times c.args.operation list = omega (arith, c.loop-copy-test.true, c.requires.count) in
    let up = gathered_up_to list c.args.operation c.loop-copy._copy i.0 left i.2 in
    let room = gathered_room list c.args.operation c.loop-copy._copy i.0 left i.2 in
    (i.0, i.1, up, omega (arith, room, c.requires.list, stands_long (length s.table.now.operations) (s.n + 1) s.stocks.items c.requires.sets.levels at.size at.place i.0 i.1))

pub loop-copy-preserved : goal.loop-copy-preserved
loop-copy-preserved c =
    let list = c.args.list.now in
    let o = c.args.operation in
    let i = c.loop-copy.invariant in
    let left : c.loop-copy._copy < times o list = omega (arith, c.loop-copy-test.true, c.requires.count) in
    (i.0 ++ o ∷ [], c.child_of-at.ensures i.0 i.1 (gathered_up_to list o c.loop-copy._copy i.0 left i.2), gathered_more list o c.loop-copy._copy i.0 left i.2)

pub returns : goal.returns
returns c =
    let list = c.args.list.now in
    let i = c.loop-copy.invariant in
    let all : c.loop-copy._copy ≡ times c.args.operation list = omega (arith, c.loop-copy-test.false, c.loop-copy.auto._copy-end, c.requires.count) in
    (i.0, i.1, gathered_end list c.args.operation c.loop-copy._copy i.0 all i.2)
