use Rattle.std.proofs.Common.{◌<◌, ◌+◌, arith, subst, sym, ◌∙◌, true≢false}
use Rattle.cn_meetings.specs.Sights.{sight_of}
use Rattle.cn_divisions.proofs.Merging.{SoFarTo, far_on, merged_far, same_far}
use Rattle.cn_divisions.proofs.components.with_joined.Goals as goal
use Rattle.cn_divisions.proofs.components.with_joined.Goals.{then-is_open+then-are_joined, else-is_open, else-is_open-via-then-is_open+else-are_joined, else-is_open-via-else-is_open}

pub loop-f-preserved : goal.loop-f-preserved
loop-f-preserved c =
    let s = c.args.setting.now in
    let t = s.table.now in
    let items = s.stock.now.operations.items in
    let sight = sight_of c.args.look.now.sight in
    let f = c.loop-f.f in
    let g = c.args.g in
    let i = c.loop-f.invariant in
    let teams = c.loop-f.merging in
    let small : g < 8 = omega (arith, c.requires.g, c.operations-operations.ensures.number, c.operations-operations.ensures.range.1) in
    elim c.if-is_open.branch [
      | then-is_open+then-are_joined w ↦ subst (SoFarTo t sight c.args.start items g (f + 1)) (sym w.merging-is)
          (merged_far t sight c.args.start items teams w.merged-merging.result f g c.loop-f-test.true small w.merged-merging.ensures (w.are_joined.ensures.0 w.if-are_joined.true) i)
      | else-is_open w ↦ subst (SoFarTo t sight c.args.start items g (f + 1)) (sym w.merging-is) (elim w.else-is_open.branch [
        | else-is_open-via-then-is_open+else-are_joined v ↦ same_far t sight c.args.start items teams f g (λ j. absurd (true≢false (sym (v.are_joined.ensures.1 j) ∙ v.if-are_joined.false))) i
        | else-is_open-via-else-is_open v ↦ same_far t sight c.args.start items teams f g (λ j. c.is_open.ensures sight c.args.start (λ h. true≢false (sym h ∙ v.if-is_open.false)) j) i
      ])
    ]

pub returns : goal.returns
returns c =
    let s = c.args.setting.now in
    far_on s.table.now (sight_of c.args.look.now.sight) c.args.start s.stock.now.operations.items c.loop-f.merging c.args.g c.loop-f.f c.loop-f-test.false c.loop-f.invariant
