use Rattle.std.proofs.Common.{arith, ℕ, ◌≡◌, ◌^◌, ◌≤◌, ◌<◌, length, refl, ap, ◌∙◌, subst, sym, true≢false, ◌↔◌}
use Rattle.std.specs.Prelude.{IsBitSet}
use Rattle.cn_choice.specs.RawChoices.{RawChoice}
use Rattle.cn_outcomes.specs.Subsets.{AreSubsetRows, LeavesState}
use Rattle.cn_outcomes.specs.Twins.{IsPacked}
use Rattle.cn_outcomes.proofs.LastProcess.{leaves_some}
use Rattle.cn_outcomes.proofs.Unions.{rows_first, rows_more, rows_passed, subsets_of}
use Rattle.cn_outcomes.proofs.subset_rows.rows.Goals as goal

pub loop-number-init : goal.loop-number-init
loop-number-init c =
    let s = c.args.setting.now in
    rows_first (IsPacked s.links) (LeavesState s.table.now s.choice.now s.team) (length s.table.now.states) _ refl c.new-rows.ensures.number (leaves_some s.table.now s.choice.now s.team)

pub loop-number-preserved : goal.loop-number-preserved
loop-number-preserved c =
    let s = c.args.setting.now in
    let seen = ap (λ (a : RawChoice). length a.operations) c.choice.view_is in
    let few : c.len.result ≤ 8 = omega (arith, seen, c.len.ensures.value) in
    let all = subsets_of c.len.result few in
    let inside : c.loop-number.number < length c.loop-number.rows = omega (arith, all.0, all.1, c.loop-number-test.true, c.loop-number.invariant.long) in
    rows_more (IsPacked s.links) (LeavesState s.table.now s.choice.now s.team) (length s.table.now.states) c.loop-number.rows c.loop-number.number c.row.result
    inside c.loop-number.invariant (subst (λ (k : ℕ). (q : ℕ) → IsBitSet c.row.result q ↔ LeavesState s.table.now s.choice.now s.team k q) c.of_number-subset.ensures
    c.row.ensures.same) c.row.ensures.known

pub loop-number-preserved-then-not-is_packed : goal.loop-number-preserved-then-not-is_packed
loop-number-preserved-then-not-is_packed c =
    let s = c.args.setting.now in
    rows_passed (IsPacked s.links) (LeavesState s.table.now s.choice.now s.team) (length s.table.now.states) c.loop-number.rows c.loop-number.number
    (λ p. true≢false (sym (c.is_packed.ensures.1 (subst (IsPacked s.links) (sym c.of_number-subset.ensures) p)) ∙ c.if-not-is_packed.true)) c.loop-number.invariant

pub returns : goal.returns
returns c =
    let s = c.args.setting.now in
    let seen = ap (λ (a : RawChoice). length a.operations) c.choice.view_is in
    let same : c.len.result ≡ length s.choice.now.operations = omega (arith, seen, c.len.ensures.value) in
    let all = subsets_of c.len.result (omega (arith, same)) in
    let e : c.loop-number.number ≡ 2 ^ c.len.result = omega (arith, all.0, all.2, c.loop-number-test.false, c.loop-number.auto.number-end) in
    subst (λ (k : ℕ). AreSubsetRows s.table.now s.choice.now s.team s.links k c.loop-number.rows) (e ∙ ap (λ (k : ℕ). 2 ^ k) same) c.loop-number.invariant
