use Rattle.std.proofs.Common.{ℕ, [], ◌+◌, ◌-◌, ◌≡◌, ◌∷◌, ◌++◌, ap, arith, length, refl, subst}
use Rattle.cn_collisions.specs.Stands.{StandsAt}
use Rattle.cn_collisions.proofs.PlaceLemmas.{merged_none, merged_whole, stands_none, up_to_next, walked_first, walked_second}
use Rattle.cn_collisions.proofs.StandLemmas.{stands_long}
use Rattle.cn_stocks.proofs.StockLemmas.{length_last}
use Rattle.cn_collisions.proofs.places.merged_place.Goals as goal
use Rattle.cn_collisions.proofs.places.merged_place.Goals.{else-is_first, then-is_first}
use mir.Val.{bool_byte}

pub loop-taken-init : goal.loop-taken-init
loop-taken-init c =
    let s = c.args.sets.now in
    record {
      order = omega arith;
      first = omega arith;
      second = omega arith;
      size = refl;
      stock = [];
      stands = stands_none (length s.table.now.operations) (s.n + 1) s.stocks.items c.requires.sets.levels (omega arith);
      merged = merged_none c.args.a.now c.args.b.now;
    }

pub child_of-at-requires-clause-room : goal.child_of-at-requires-clause-room
child_of-at-requires-clause-room c =
    let i = c.loop-taken.invariant in
    let l = c.loop-taken in (
      i.stock,
      i.stands,
      up_to_next c.args.a.now c.args.b.now l.from_a (l.taken - l.from_a) l.last i.stock i.merged c.if-is_first.next c.if-next-last.false,
      omega (arith, i.size, c.requires.lists, c.loop-taken-test.true),
    )

pub loop-taken-preserved : goal.loop-taken-preserved
loop-taken-preserved c =
    let s = c.args.sets.now in
    let l = c.loop-taken in
    let i = l.invariant in
    let a = c.args.a.now in
    let b = c.args.b.now in
    let x = c.if-is_first.next in
    let next = c.child_of-at.result in
    let up = up_to_next a b l.from_a (l.taken - l.from_a) l.last i.stock i.merged x c.if-next-last.false in
    let here = stands_long (length s.table.now.operations) (s.n + 1) s.stocks.items c.requires.sets.levels l.at.size l.at.place i.stock i.stands in
    let there = stands_long (length s.table.now.operations) (s.n + 1) s.stocks.items c.requires.sets.levels next.size next.place (i.stock ++ x ∷ []) (c.child_of-at.ensures i.stock i.stands up) in
    let size : next.size ≡ l.at.size + 1 = omega (arith, here, there, length_last i.stock x) in
    elim c.if-is_first.branch [
      | then-is_first w ↦ (let one : bool_byte c.is_first_next-is_first.result ≡ 1 = ap bool_byte w.if-is_first.true in
          walked_first s a b l.taken l.from_a l.last l.at i x c.if-next-last.false next size c.child_of-at.ensures (l.from_a + bool_byte c.is_first_next-is_first.result) (omega (arith, one))
          (c.is_first_next-is_first.ensures.first w.if-is_first.true) w.next-is)
      | else-is_first w ↦ (let none : bool_byte c.is_first_next-is_first.result ≡ 0 = ap bool_byte w.if-is_first.false in
          walked_second s a b l.taken l.from_a l.last l.at i x c.if-next-last.false next size c.child_of-at.ensures (l.from_a + bool_byte c.is_first_next-is_first.result) (omega (arith, none))
          (c.is_first_next-is_first.ensures.second w.if-is_first.false) w.next-is)
    ]

pub returns : goal.returns
returns c =
    let s = c.args.sets.now in
    let i = c.loop-taken.invariant in
    let l = c.loop-taken in
    let size : l.at.size ≡ s.n = omega (arith, i.size, c.requires.lists, c.loop-taken-test.false, l.auto.taken-end) in (
      i.stock,
      subst (λ (k : ℕ). StandsAt s k l.at.place i.stock) size i.stands,
      merged_whole c.args.a.now c.args.b.now l.from_a (l.taken - l.from_a) l.last i.stock i.merged
          (omega (arith, i.order, i.first, i.second, c.loop-taken-test.false)) (omega (arith, i.order, i.first, i.second, c.loop-taken-test.false)),
    )
