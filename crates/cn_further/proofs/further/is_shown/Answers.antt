use Rattle.std.proofs.Common.{length, ap, refl, ◌∙◌, ◌+◌, sym, true≢false}
use Rattle.cn_choice.specs.Canonical.{Choice}
use Rattle.cn_further.proofs.Listed.{listing_tells}
use Rattle.cn_further.proofs.Meets.{meeting_tells_not}
use Rattle.cn_further.proofs.further.is_shown.Goals as goal

pub returns-then-is_sound : goal.returns-then-is_sound
returns-then-is_sound c =
    let lists = c.in_ok-listing.listing in (
      λ _. listing_tells c.args.table.now c.args.choice.now c.args.follow_ups.now lists.ends.items lists.after_a.items lists.after_b.items c.choice.inside.state.0 (length c.choice.inside.a.items) c.as_slice-operations.result.now
          (ap (λ (d : Choice). d.state) c.choice.view_is) (ap (λ (d : Choice). length d.a) c.choice.view_is)
          (c.as_slice-operations.ensures.value ∙ c.operations_of-list.ensures) c.requires.choice c.requires.known
          (rw c.len-size.ensures.value at c.is_sound.ensures c.if-is_sound.true) (c.closed_sets_are_enough.ensures.scenes c.args.table.now),
      λ _. refl,
    )

pub returns-then-is_sound-2 : goal.returns-then-is_sound-2
returns-then-is_sound-2 c =
    let meeting = c.in-Some.meeting in (
      λ f. absurd (true≢false (sym f)),
      λ tells. absurd (meeting_tells_not c.args.table.now (length c.args.choice.now.a + length c.args.choice.now.b) c.args.choice.now c.args.follow_ups.now c.choice.inside.state.0 (length c.choice.inside.a.items) c.as_slice-operations.result.now meeting.process meeting.of_a.items meeting.of_b.items
          (ap (λ (d : Choice). d.state) c.choice.view_is) (ap (λ (d : Choice). length d.a) c.choice.view_is)
          (c.as_slice-operations.ensures.value ∙ c.operations_of-list.ensures)
          (rw c.len-size.ensures.value at c.is_sound-2.ensures c.if-is_sound-2.true) tells),
    )
