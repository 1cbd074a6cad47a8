use Rattle.std.proofs.Common.{arith, ℕ, ◌≡◌, ◌^◌, ◌<◌, length, ap, ◌∙◌, sym, true≢false, subst, get_or, ◌⊎◌, ◌↔◌}
use Rattle.std.proofs.lemmas.Grind.{get_or_default_zero}
use Rattle.std.specs.Prelude.{IsBitSet}
use Rattle.cn_choice.specs.RawChoices.{RawChoice}
use Rattle.cn_outcomes.specs.Twins.{IsPacked}
use Rattle.cn_outcomes.specs.Subsets.{LeavesState}
use Rattle.cn_outcomes.proofs.LastProcess.{leaves_some}
use Rattle.cn_outcomes.proofs.Unions.{left_all, packed_first, packed_more, packed_passed, subsets_of}
use Rattle.cn_outcomes.proofs.state_sets.states_of_rows.Goals as goal

pub loop-number-init : goal.loop-number-init
loop-number-init c =
    let s = c.args.setting.now in
    packed_first s.links (LeavesState s.table.now s.choice.now s.team) _ c.new-all.ensures.none (leaves_some s.table.now s.choice.now s.team)

pub loop-number-preserved : goal.loop-number-preserved
loop-number-preserved c =
    let s = c.args.setting.now in
    let seen = ap (λ (a : RawChoice). length a.operations) c.choice.view_is in
    let same : c.len.result ≡ length s.choice.now.operations = omega (arith, seen, c.len.ensures.value) in
    let all = subsets_of c.len.result (omega (arith, same, c.requires.setting.few)) in
    let l : c.loop-number.number < 2 ^ c.len.result = omega (arith, all.0, c.loop-number-test.true) in
    let inside : c.loop-number.number < 2 ^ length s.choice.now.operations = subst (λ (k : ℕ). c.loop-number.number < 2 ^ k) same l in
    let long : c.loop-number.number < length c.args.rows.now = omega (arith, all.0, all.1, c.loop-number-test.true, c.requires.rows.long) in
    let packed = subst (IsPacked s.links) c.of_number-subset.ensures (c.is_packed.ensures.0 c.if-not-is_packed.false) in
    packed_more s.links (LeavesState s.table.now s.choice.now s.team) c.loop-number.number (IsBitSet c.loop-number.all) (IsBitSet (get_or c.args.rows.now c.loop-number.number 0))
    (IsBitSet c.union-all.result) packed c.loop-number.invariant
    (c.requires.rows.same c.loop-number.number inside packed)
    (subst (λ (n : ℕ). (q : ℕ) → IsBitSet c.union-all.result q ↔ (IsBitSet c.loop-number.all q ⊎ IsBitSet n q))
    (get_or_default_zero c.args.rows.now c.loop-number.number c.index-rows-number.result long) c.union-all.ensures)

pub loop-number-preserved-then-not-is_packed : goal.loop-number-preserved-then-not-is_packed
loop-number-preserved-then-not-is_packed c =
    let s = c.args.setting.now in
    packed_passed s.links (LeavesState s.table.now s.choice.now s.team) c.loop-number.number (IsBitSet c.loop-number.all)
    (λ p. true≢false (sym (c.is_packed.ensures.1 (subst (IsPacked s.links) (sym c.of_number-subset.ensures) p)) ∙ c.if-not-is_packed.true)) c.loop-number.invariant

pub returns : goal.returns
returns c =
    let s = c.args.setting.now in
    let seen = ap (λ (a : RawChoice). length a.operations) c.choice.view_is in
    let same : c.len.result ≡ length s.choice.now.operations = omega (arith, seen, c.len.ensures.value) in
    let all = subsets_of c.len.result (omega (arith, same, c.requires.setting.few)) in
    let e : c.loop-number.number ≡ 2 ^ c.len.result = omega (arith, all.0, all.2, c.loop-number-test.false, c.loop-number.auto.number-end) in
    left_all s.table.now s.choice.now s.team s.links c.requires.setting.linked c.requires.setting.few c.loop-number.number c.loop-number.all (e ∙ ap (λ (k : ℕ). 2 ^ k) same) c.loop-number.invariant
