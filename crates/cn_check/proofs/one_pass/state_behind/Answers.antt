use Rattle.std.proofs.Common.{◌≡◌, ◌+◌, ◌-◌, ◌/◌, [], ℕ, List, length, ap, arith}
use Rattle.std.specs.List.{flat_map, range_with_len}
use Rattle.cn_choice.specs.Canonical.{Choice, with_size, with_state}
use Rattle.cn_check.specs.Refutations.{counting}
use Rattle.cn_check.proofs.PassLemmas.{flat_past, pass_as, pass_end, pass_first}
use Rattle.cn_check.proofs.one_pass.state_behind.Goals as goal
use Rattle.cn_table.proofs.Lists.{range_first, range_none}

pub loop-size-init : goal.loop-size-init
loop-size-init c =
    let t = c.args.table.now in
    let v : ℕ = c.args.version in
    let f : ℕ → List Choice = with_size (length t.operations) c.args.n c.args.state.0 in
    let all : List Choice = counting v t (with_state (length t.operations) c.args.n c.args.state.0) in
    let sizes : c.args.n / 2 ≡ c.args.n / 2 + 1 - 1 = omega arith in
    pass_first t all c.args.bytes.now _ (ap (λ (k : ℕ). counting v t (flat_map f (range_with_len 1 k))) sizes)

pub loop-size-preserved : goal.loop-size-preserved
loop-size-preserved c =
    let t = c.args.table.now in
    let v : ℕ = c.args.version in
    let f : ℕ → List Choice = with_size (length t.operations) c.args.n c.args.state.0 in
    let all : List Choice = counting v t (with_state (length t.operations) c.args.n c.args.state.0) in
    let first = ap (λ (sizes : List ℕ). counting v t (flat_map f sizes)) (range_first c.loop-size.size (c.args.n / 2 + 1) c.loop-size-test.true) in
    flat_past t all c.args.bytes.now v f c.loop-size.size _ _ (pass_as t all c.args.bytes.now _ _ _ first c.loop-size.invariant) _ c.in_ok-left.ensures

pub returns : goal.returns
returns c =
    let t = c.args.table.now in
    let v : ℕ = c.args.version in
    let f : ℕ → List Choice = with_size (length t.operations) c.args.n c.args.state.0 in
    let all : List Choice = counting v t (with_state (length t.operations) c.args.n c.args.state.0) in
    let none = ap (λ (sizes : List ℕ). counting v t (flat_map f sizes)) (range_none c.loop-size.size (c.args.n / 2 + 1) c.loop-size-test.false) in
    pass_end t all c.args.bytes.now _ (pass_as t all c.args.bytes.now _ [] _ none c.loop-size.invariant)
