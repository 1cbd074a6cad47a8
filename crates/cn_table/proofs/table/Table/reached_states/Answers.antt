use Rattle.std.proofs.Common.{◌∙◌, inl, inr, arith, refl}
use Rattle.cn_table.proofs.ReachLemmas.{marks_few, marks_more, reached_is_marked, leads_on, set_length, set_keeps, set_from, first_alone, at_first}
use Rattle.cn_table.proofs.table.Table.reached_states.Goals as goal

pub loop-round-init : goal.loop-round-init
loop-round-init c = record {
  size = refl;
  first = refl;
  sound = λ q on. rw (first_alone 15 q on) (at_first c.args.self.now);
  many = refl;
}

pub loop-round-preserved : goal.loop-round-preserved
loop-round-preserved c =
    let ms = c.loop-round.marked in
    let before = c.loop-round.invariant in
    let way = c.in-Some.ensures.way in
    let more = marks_more ms c.in-Some.q.0 (omega (arith, way.1, before.size)) way.2 in
    record {
      size = set_length ms c.in-Some.q.0 ∙ before.size;
      first = set_keeps ms c.in-Some.q.0 0 before.first;
      sound = λ k on. elim (set_from ms c.in-Some.q.0 k on) [
        | inl e ↦ rw e (leads_on c.args.self.now 0 way.3.0 c.in-Some.q.0 way.3.3.0 (before.sound way.3.0 way.3.2) way.3.3.1 way.3.3.2)
        | inr h ↦ before.sound k h
      ];
      many = omega (arith, more, before.many);
    }

pub unreachable-requires : goal.unreachable-requires
unreachable-requires c =
    omega (arith, marks_few c.loop-round.marked, c.loop-round.invariant.many, c.loop-round.invariant.size, c.loop-round-test.false)

pub returns-in-None : goal.returns-in-None
returns-in-None c = λ q within. (
  λ marked. c.loop-round.invariant.sound q marked,
  λ way. rw (← way.last)
      (reached_is_marked c.args.self.now c.loop-round.marked c.in-None.ensures.table c.in-None.ensures.way 0 (omega (arith, within)) c.loop-round.invariant.first way.operations way.known),
)
