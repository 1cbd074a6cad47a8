use Rattle.std.proofs.Common.{◌+◌, ◌/◌, ℕ, List, length, ap}
use Rattle.std.specs.List.{flat_map}
use Rattle.cn_choice.specs.Canonical.{Choice, with_size, with_state}
use Rattle.cn_check.specs.Refutations.{counting}
use Rattle.cn_check.specs.Versions.{choices_in_version}
use Rattle.cn_check.proofs.RefutationLemmas.{come_as, part_next, part_past}
use Rattle.cn_check.proofs.refutation.check_state.Goals as goal
use Rattle.cn_table.proofs.Lists.{range_first}

pub check_size-requires-clause-next : goal.check_size-requires-clause-next
check_size-requires-clause-next c =
    let t = c.args.table.now in
    let v : ℕ = c.args.version in
    let f : ℕ → List Choice = with_size (length t.operations) c.args.n c.args.state.0 in
    let all : List Choice = counting v t (with_state (length t.operations) c.args.n c.args.state.0) in
    let choices : List Choice = choices_in_version v t c.args.n in
    let first = ap (λ (sizes : List ℕ). counting v t (flat_map f sizes)) (range_first c.loop-size.size (c.args.n / 2 + 1) c.loop-size-test.true) in
    part_next choices c.args.start all v t f c.loop-size.place c.loop-size.size _ (come_as choices c.args.start all c.loop-size.place _ _ first c.loop-size.invariant.come) c.requires.next

pub loop-size-preserved : goal.loop-size-preserved
loop-size-preserved c =
    let t = c.args.table.now in
    let v : ℕ = c.args.version in
    let f : ℕ → List Choice = with_size (length t.operations) c.args.n c.args.state.0 in
    let all : List Choice = counting v t (with_state (length t.operations) c.args.n c.args.state.0) in
    let choices : List Choice = choices_in_version v t c.args.n in
    let first = ap (λ (sizes : List ℕ). counting v t (flat_map f sizes)) (range_first c.loop-size.size (c.args.n / 2 + 1) c.loop-size-test.true) in
    record {
      come = part_past choices c.args.start all v t f c.loop-size.place c.loop-size.size _
          (come_as choices c.args.start all c.loop-size.place _ _ first c.loop-size.invariant.come) c.in_ok-place.place c.in_ok-place.ensures.passed;
      refuted = c.in_ok-place.ensures.refuted;
    }
