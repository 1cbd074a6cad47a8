use Rattle.std.proofs.Common.{◌≡◌, ◌∙◌, ◌-◌, [], ℕ, List, ap, append-nil, arith, length, subst, sym}
use Rattle.std.specs.List.{flat_map, range_with_len}
use Rattle.cn_choice.specs.Canonical.{Choice, with_state}
use Rattle.cn_check.specs.Refutations.{AreRefuted, counting}
use Rattle.cn_check.specs.Versions.{choices_in_version}
use Rattle.cn_check.proofs.EntryLemmas.{past_end}
use Rattle.cn_check.proofs.RefutationLemmas.{all_counting, all_refuted, come_as, come_first, come_to_end, part_next, part_past}
use Rattle.cn_check.proofs.refutation.check_entries.Goals as goal
use Rattle.cn_table.proofs.Lists.{range_first}

pub loop-state-init : goal.loop-state-init
loop-state-init c =
    let t = c.args.table.now in
    let v : ℕ = c.args.version in
    let choices : List Choice = choices_in_version v t c.args.n in
    let f : ℕ → List Choice = with_state (length t.operations) c.args.n in
    let none : length t.states ≡ length t.states - 0 = omega arith in
    record {
      come = come_first choices 0 choices _ (all_counting v t c.args.n ∙ ap (λ (k : ℕ). counting v t (flat_map f (range_with_len 0 k))) none);
      refuted = λ i l. absurd (omega arith);
    }

pub check_state-requires-clause-next : goal.check_state-requires-clause-next
check_state-requires-clause-next c =
    let t = c.args.table.now in
    let v : ℕ = c.args.version in
    let choices : List Choice = choices_in_version v t c.args.n in
    let f : ℕ → List Choice = with_state (length t.operations) c.args.n in
    let first = ap (λ (states : List ℕ). counting v t (flat_map f states))
    (range_first c.loop-state.state (length t.states) (omega (arith, c.loop-state-test.true, c.states-state-end.ensures.number))) in
    part_next choices 0 choices v t f c.loop-state.place c.loop-state.state _ (come_as choices 0 choices c.loop-state.place _ _ first c.loop-state.invariant.come) ([], sym (append-nil choices))

pub loop-state-preserved : goal.loop-state-preserved
loop-state-preserved c =
    let t = c.args.table.now in
    let v : ℕ = c.args.version in
    let choices : List Choice = choices_in_version v t c.args.n in
    let f : ℕ → List Choice = with_state (length t.operations) c.args.n in
    let first = ap (λ (states : List ℕ). counting v t (flat_map f states))
    (range_first c.loop-state.state (length t.states) (omega (arith, c.loop-state-test.true, c.states-state-end.ensures.number))) in
    record {
      come = part_past choices 0 choices v t f c.loop-state.place c.loop-state.state _
          (come_as choices 0 choices c.loop-state.place _ _ first c.loop-state.invariant.come) c.in_ok-place.place c.in_ok-place.ensures.passed;
      refuted = c.in_ok-place.ensures.refuted;
    }

pub returns-then-place-entries-clause-fault : goal.returns-then-place-entries-clause-fault
returns-then-place-entries-clause-fault c =
    let t = c.args.table.now in
    let v : ℕ = c.args.version in
    let choices : List Choice = choices_in_version v t c.args.n in
    let f : ℕ → List Choice = with_state (length t.operations) c.args.n in
    let last : length t.states - c.loop-state.state ≡ 0 = omega (arith, c.loop-state-test.false, c.states-state-end.ensures.number) in
    let none = ap (λ (k : ℕ). counting v t (flat_map f (range_with_len c.loop-state.state k))) last in
    let end = come_to_end t choices c.args.entries.now c.loop-state.place (come_as choices 0 choices c.loop-state.place _ _ none c.loop-state.invariant.come) c.loop-state.invariant.refuted in
    (c.loop-state.invariant.refuted, past_end choices c.args.entries.now c.loop-state.place end c.if-place-entries.true)

pub returns-clause-refuted : goal.returns-clause-refuted
returns-clause-refuted c =
    let t = c.args.table.now in
    let v : ℕ = c.args.version in
    let choices : List Choice = choices_in_version v t c.args.n in
    let f : ℕ → List Choice = with_state (length t.operations) c.args.n in
    let last : length t.states - c.loop-state.state ≡ 0 = omega (arith, c.loop-state-test.false, c.states-state-end.ensures.number) in
    let none = ap (λ (k : ℕ). counting v t (flat_map f (range_with_len c.loop-state.state k))) last in
    let end = come_to_end t choices c.args.entries.now c.loop-state.place (come_as choices 0 choices c.loop-state.place _ _ none c.loop-state.invariant.come) c.loop-state.invariant.refuted in
    all_refuted t choices c.args.entries.now (subst (AreRefuted t choices c.args.entries.now) end c.loop-state.invariant.refuted) (omega (arith, end, c.if-place-entries.false))
