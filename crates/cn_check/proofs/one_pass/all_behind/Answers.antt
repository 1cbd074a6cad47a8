use Rattle.std.proofs.Common.{◌≡◌, ◌∙◌, ◌-◌, [], ℕ, List, ap, arith, length}
use Rattle.std.specs.List.{flat_map, range_with_len}
use Rattle.cn_choice.specs.Canonical.{Choice, with_state}
use Rattle.cn_check.specs.Refutations.{counting}
use Rattle.cn_check.specs.Versions.{choices_in_version}
use Rattle.cn_check.proofs.PassLemmas.{flat_past, pass_as, pass_end, pass_first}
use Rattle.cn_check.proofs.RefutationLemmas.{all_counting}
use Rattle.cn_check.proofs.one_pass.all_behind.Goals as goal
use Rattle.cn_table.proofs.Lists.{range_first}

pub loop-state-init : goal.loop-state-init
loop-state-init c =
    let t = c.args.table.now in
    let v : ℕ = c.args.version in
    let choices : List Choice = choices_in_version v t c.args.n in
    let f : ℕ → List Choice = with_state (length t.operations) c.args.n in
    let none : length t.states ≡ length t.states - 0 = omega arith in
    pass_first t choices c.args.bytes.now _ (all_counting v t c.args.n ∙ ap (λ (k : ℕ). counting v t (flat_map f (range_with_len 0 k))) none)

pub loop-state-preserved : goal.loop-state-preserved
loop-state-preserved c =
    let t = c.args.table.now in
    let v : ℕ = c.args.version in
    let choices : List Choice = choices_in_version v t c.args.n in
    let f : ℕ → List Choice = with_state (length t.operations) c.args.n in
    let first = ap (λ (states : List ℕ). counting v t (flat_map f states))
    (range_first c.loop-state.state (length t.states) (omega (arith, c.loop-state-test.true, c.states-state-end.ensures.number))) in
    flat_past t choices c.args.bytes.now v f c.loop-state.state _ _ (pass_as t choices c.args.bytes.now _ _ _ first c.loop-state.invariant) _ c.in_ok-left.ensures

pub returns : goal.returns
returns c =
    let t = c.args.table.now in
    let v : ℕ = c.args.version in
    let choices : List Choice = choices_in_version v t c.args.n in
    let f : ℕ → List Choice = with_state (length t.operations) c.args.n in
    let last : length t.states - c.loop-state.state ≡ 0 = omega (arith, c.loop-state-test.false, c.states-state-end.ensures.number) in
    let none = ap (λ (k : ℕ). counting v t (flat_map f (range_with_len c.loop-state.state k))) last in
    pass_end t choices c.args.bytes.now _ (pass_as t choices c.args.bytes.now _ [] _ none c.loop-state.invariant)
