use Rattle.std.proofs.Common.{◌≡◌, ◌<◌, length, sym, arith, true≢false, ap, ◌∙◌}
use Rattle.std.specs.Prelude.{slice_index}
use Rattle.std.proofs.lemmas.Bool.{eqb-false, eqb-true}
use Rattle.cn_table.specs.TypeTable.{transition}
use Rattle.cn_signs.proofs.Theorem.{signs_exact, stays}
use Rattle.cn_signs.proofs.check.shows_signs.Goals as goal

pub lead_to_signs-requires-clause-closed : goal.lead_to_signs-requires-clause-closed
lead_to_signs-requires-clause-closed c q i h l =
    let e = c.as_slice-further.ensures.value in
    rw e ((c.of_team-own.ensures.same (transition c.args.table.now (slice_index c.args.choice.now.further.items i) q).1).1
    (stays c.args.table.now c.args.choice.now c.args.states.now c.requires.states c.args.choice.now.side q i (rw e at l) ((c.of_team-own.ensures.same q).0 h)))

pub returns-then-is_empty : goal.returns-then-is_empty
returns-then-is_empty c = (
  λ f. absurd (true≢false (sym f)),
  λ s. absurd (let e : length c.as_slice-further.result.now ≡ 0 = eqb-true _ 0 (sym c.is_empty.ensures ∙ c.if-is_empty.true) in
      omega (arith, s.3.some, ap length c.as_slice-further.ensures.value, e)),
)

pub returns : goal.returns
returns c =
    let e = c.as_slice-further.ensures.value in
    let found = rw e at c.lead_to_signs.ensures in
    let some : 0 < length c.args.choice.now.further.items = omega (arith, eqb-false _ 0 (sym c.is_empty.ensures ∙ c.if-is_empty.false), ap length e) in
    let exact = signs_exact c.args.table.now c.args.choice.now c.args.states.now c.requires.states c.requires.choice c.sign_rows-rows.result c.sign_rows-rows.ensures.rows c.of_team-own.result
    c.of_team-own.ensures.same some in
    (λ h. exact.0 (found.0 h), λ s. found.1 (exact.1 s))
