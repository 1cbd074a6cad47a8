use Rattle.std.proofs.Common.{◌≡◌, ◌∷◌, ◌∙◌, [], ℕ, List, length, ap, sym}
use Rattle.std.specs.List.{flat_map, refill}
use Rattle.std.proofs.lemmas.List.{length-replicate}
use Rattle.cn_choice.specs.Canonical.{Choice, with_first, with_size}
use Rattle.cn_choice.specs.Rising.{rising_after}
use Rattle.cn_check.specs.EntryTexts.{HavePassed}
use Rattle.cn_check.specs.Refutations.{counting}
use Rattle.cn_check.proofs.PassLemmas.{flat_over, flat_past, pass_as, pass_end, pass_first}
use Rattle.cn_check.proofs.RefutationLemmas.{none_counts}
use Rattle.cn_check.proofs.StepLemmas.{first_list, written_over, zeros_known}
use Rattle.cn_check.proofs.one_pass.size_behind.Goals as goal
use Rattle.cn_check.proofs.one_pass.size_behind.Goals.{Joined-all_count, then-all_count+in_ok-left, else-all_count}

pub loop-a-init : goal.loop-a-init
loop-a-init c =
    let t = c.args.table.now in
    let v : ℕ = c.args.version in
    let m : ℕ = length t.operations in
    let some = rw c.operations-operations.ensures.number at c.operations-operations.ensures.range.0 in
    let first = first_list c.args.size 0 m some ∙ ap (λ (xs : List ℕ). xs ∷ rising_after m xs) (sym c.zeros-a.ensures) in
    record {
      known = rw c.zeros-a.ensures (zeros_known c.args.size m some);
      long = ap (λ (xs : List ℕ). length xs) c.zeros-a.ensures ∙ length-replicate c.args.size 0;
      passed = pass_first t _ c.args.bytes.now _ (ap (λ (lists : List (List ℕ)). counting v t (flat_map (with_first m c.args.n c.args.state.0) lists)) first);
    }

-- past the choices with this list, whether it counts or not
past : (c : Joined-all_count) →
    let t = c.args.table.now in
    let m : ℕ = length t.operations in
    HavePassed t (counting c.args.version t (with_size m c.args.n c.args.state.0 c.args.size)) c.args.bytes.now
    (counting c.args.version t (flat_map (with_first m c.args.n c.args.state.0) (rising_after m c.loop-a.a.items))) c.if-all_count.left.now
past c =
    let t = c.args.table.now in
    let v : ℕ = c.args.version in
    let m : ℕ = length t.operations in
    let s : ℕ = c.args.state.0 in
    let a : List ℕ = c.loop-a.a.items in
    let all : List Choice = counting v t (with_size m c.args.n s c.args.size) in
    elim c.if-all_count.branch [
      | then-all_count+in_ok-left w ↦
          rw w.left-is (flat_past t all c.args.bytes.now v (with_first m c.args.n s) a (rising_after m a) _ c.loop-a.invariant.passed _
          (rw w.as_slice-then-all_count.ensures.value at w.in_ok-left.ensures))
      | else-all_count w ↦
          (let counts = rw c.as_slice.ensures.value at (sym c.all_count.ensures ∙ w.if-all_count.false) in
          rw w.left-is (flat_over t all c.args.bytes.now v (with_first m c.args.n s) a (rising_after m a) _ c.loop-a.invariant.passed (none_counts v t s a _ counts)))
    ]

pub returns-then-not-step : goal.returns-then-not-step
returns-then-not-step c =
    let t = c.args.table.now in
    let v : ℕ = c.args.version in
    let f : List ℕ → List Choice = with_first (length t.operations) c.args.n c.args.state.0 in
    let none = rw (c.operations-operations.ensures.number, c.as_mut_slice.ensures.value) at (c.step.ensures.last c.if-not-step.true) in
    pass_end t _ c.args.bytes.now _ (pass_as t _ c.args.bytes.now _ [] _ (ap (λ (lists : List (List ℕ)). counting v t (flat_map f lists)) none)
    (past (goal.at.returns-then-not-step c).Joined-all_count))

pub loop-a-preserved : goal.loop-a-preserved
loop-a-preserved c =
    let t = c.args.table.now in
    let v : ℕ = c.args.version in
    let f : List ℕ → List Choice = with_first (length t.operations) c.args.n c.args.state.0 in
    let a : List ℕ = c.loop-a.a.items in
    let more = rw (c.operations-operations.ensures.number, c.as_mut_slice.ensures.value) at (c.step.ensures.more c.if-not-step.false) in
    let long = c.step.ensures.long ∙ ap (λ (xs : List ℕ). length xs) c.as_mut_slice.ensures.value in
    let same : refill (length a) a c.step.new.list ≡ c.step.new.list = written_over a c.step.new.list long in
    let known = rw (c.operations-operations.ensures.number, c.as_mut_slice.ensures.value) at c.step.ensures.known in
    rw same (record {
      known = known c.loop-a.invariant.known;
      long = long ∙ c.loop-a.invariant.long;
      passed = pass_as t _ c.args.bytes.now _ _ _ (ap (λ (lists : List (List ℕ)). counting v t (flat_map f lists)) more) (past (goal.at.loop-a-preserved c).Joined-all_count);
    })
