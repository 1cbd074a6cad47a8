use Rattle.std.proofs.Common.{arith, inl, inr, refl}
use Rattle.cn_collisions.proofs.OpeningLemmas.{list_passed, list_pushed, list_start, list_whole}
use Rattle.cn_collisions.proofs.ways.push_openings.Goals as goal

pub loop-process-init : goal.loop-process-init
loop-process-init c = list_start c.args.view.now c.args.low c.args.high c.args.start c.args.steps.now.items c.requires.empty

pub loop-process-preserved-then-not-is_open : goal.loop-process-preserved-then-not-is_open
loop-process-preserved-then-not-is_open c =
    let a = c.args in
    let i = c.loop-process.invariant in
    list_passed a.view.now a.low a.high a.start c.loop-process.process c.loop-process.tried c.loop-process.steps.items i
    (elim (c.if-not-is_open.ensures.closed refl) [ inl u ↦ inl u | inr r ↦ inr (r.0, (i.known _).0 r.1) ])

pub push-requires : goal.push-requires
push-requires c = (
  omega arith,
  omega (arith, c.loop-process.invariant.few, c.loop-process-test.true, c.requires.high, c.requires.view.number, c.requires.view.sets_are.few),
)

pub loop-process-preserved : goal.loop-process-preserved
loop-process-preserved c =
    let a = c.args in
    let p = c.loop-process.process in
    let next = c.after.ensures in
    list_pushed a.view.now a.low a.high a.start p c.loop-process.tried c.loop-process.steps.items c.loop-process.invariant
    (record { process = p; prefix = c.after.result }) c.tried_after-tried.result c.push.new.self.items
    c.push.ensures.items refl c.loop-process.auto.process c.loop-process-test.true
    (record {
      inside = omega (arith, c.loop-process-test.true, c.requires.high);
      free = λ u. c.if-not-is_open.ensures.open refl (inl u);
      used = next.used;
      state = next.state;
      seen = next.seen;
      prefix = next.prefix;
      begun = next.begun;
      room = next.room;
    })
    (c.if-not-is_open.ensures.open refl) c.tried_after-tried.ensures

pub returns : goal.returns
returns c = list_whole c.args.view.now c.args.low c.args.high c.args.start c.loop-process.process c.loop-process.tried c.loop-process.steps.items c.loop-process-test.false c.loop-process.invariant
