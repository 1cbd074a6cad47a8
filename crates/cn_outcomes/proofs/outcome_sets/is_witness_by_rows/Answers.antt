use Rattle.std.proofs.Common.{arith, ℕ, ◌<◌, ap, length, sym, true≢false, below_more, refl}
use Rattle.cn_choice.specs.RawChoices.{RawChoice}
use Rattle.cn_choice.specs.declared.team.Team.TheVariants.{A, B}
use Rattle.cn_outcomes.proofs.Packing.{linked_outcomes}
use Rattle.cn_choice.proofs.OrderLemmas.Walks.{pair_takes_part}
use Rattle.cn_outcomes.proofs.outcome_sets.is_witness_by_rows.Goals as goal

pub loop-j-preserved : goal.loop-j-preserved
loop-j-preserved c = below_more _ _ c.loop-j.invariant (λ r q a b. true≢false (sym (c.if-meets.ensures.1 (r, q, (c.outcomes_from-from_a.ensures r q).1 a, (c.outcomes_from-from_b.ensures r q).1 b))))

pub returns : goal.returns
returns c =
    let seen = ap (λ (a : RawChoice). length a.operations) c.choice.view_is in
    let below : (j : ℕ) → j < length c.args.choice.now.operations → j < c.loop-j.j = λ j l. omega (arith, l, seen, c.len-j-end.ensures.value, c.loop-j-test.false) in (
      λ t j pair a b. c.loop-j.invariant j (below j (pair_takes_part c.args.table.now c.args.choice.now (length c.args.choice.now.operations) a.0 j pair a.1.known a.3)) pair.0 pair.1 a b,
      λ w. refl,
    )

pub returns-then-meets : goal.returns-then-meets
returns-then-meets c = (
  λ f. absurd (true≢false (sym f)),
  λ w. (let h = c.meets.ensures.0 c.if-meets.true in absurd (w c.loop-j.j (h.0, h.1) ((c.outcomes_from-from_a.ensures h.0 h.1).0 h.2) ((c.outcomes_from-from_b.ensures h.0 h.1).0 h.3))),
)

pub loop-j-preserved-then-has : goal.loop-j-preserved-then-has
loop-j-preserved-then-has c = below_more _ _ c.loop-j.invariant (λ r q a b.
    let before = linked_outcomes c.args.table.now c.args.choice.now c.links-links.result c.links-links.ensures c.loop-j.j (c.has.ensures.0 c.if-has.true) in
    c.loop-j.invariant before.0 before.1 r q (before.2 A (r, q) a) (before.2 B (r, q) b))
