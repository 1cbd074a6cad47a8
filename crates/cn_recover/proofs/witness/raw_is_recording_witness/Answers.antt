use Rattle.std.proofs.Common.{◌∙◌, sym, true≢false}
use Rattle.cn_recover.proofs.StateTests.{apart_where_recording, recording_where_apart}
use Rattle.cn_recover.proofs.witness.raw_is_recording_witness.Goals as goal

pub returns-then-not-are_apart : goal.returns-then-not-are_apart
returns-then-not-are_apart c = (
  λ f. absurd (true≢false (sym f)),
  λ w. absurd (true≢false (sym (c.are_apart.ensures.1
      (apart_where_recording c.args.table.now c.args.choice.now c.args.raw.now c.requires.same _ _ c.short_states-soon_from_a.ensures c.short_states-soon_from_b.ensures w))
      ∙ c.if-not-are_apart.true)),
)

pub returns : goal.returns
returns c = (
  λ yes. recording_where_apart c.args.table.now c.args.choice.now c.args.raw.now c.requires.same _ _ (λ q. (c.left_states-from_a.ensures q).1)
      (λ q. (c.left_states-from_b.ensures q).1) (c.are_apart-2.ensures.0 yes),
  λ w. c.are_apart-2.ensures.1 (apart_where_recording c.args.table.now c.args.choice.now c.args.raw.now c.requires.same _ _ (λ q. (c.left_states-from_a.ensures q).0)
      (λ q. (c.left_states-from_b.ensures q).0) w),
)
