use Rattle.std.proofs.Common.{◌≡◌, ◌∷◌, ◌∙◌, ℕ, List, length, ap, sym}
use Rattle.std.specs.List.{flat_map, refill}
use Rattle.std.proofs.lemmas.List.{length-replicate}
use Rattle.cn_choice.specs.Canonical.{Choice, with_first, with_size}
use Rattle.cn_choice.specs.Rising.{rising_after}
use Rattle.cn_check.specs.Refutations.{AreRefuted, HasComeTo, counting}
use Rattle.cn_check.specs.Versions.{choices_in_version}
use Rattle.cn_check.proofs.RefutationLemmas.{come_as, come_first, none_counts, part_over, part_past}
use Rattle.cn_check.proofs.StepLemmas.{first_list, written_over, zeros_known}
use Rattle.cn_check.proofs.refutation.check_size.Goals as goal
use Rattle.cn_check.proofs.refutation.check_size.Goals.{Joined-all_count, then-all_count+in_ok-place, else-all_count}

pub loop-a-init : goal.loop-a-init
loop-a-init c =
    let t = c.args.table.now in
    let v : ℕ = c.args.version in
    let m : ℕ = length t.operations in
    let some = rw c.operations-operations.ensures.number at c.operations-operations.ensures.range.0 in
    let first = first_list c.args.size 0 m some ∙ ap (λ (xs : List ℕ). xs ∷ rising_after m xs) (sym c.zeros-a.ensures) in
    record {
      known = rw c.zeros-a.ensures (zeros_known c.args.size m some);
      long = ap (λ (xs : List ℕ). length xs) c.zeros-a.ensures ∙ length-replicate c.args.size 0;
      come = come_first (choices_in_version v t c.args.n) c.args.start _ _ (ap (λ (lists : List (List ℕ)). counting v t (flat_map (with_first m c.args.n c.args.state.0) lists)) first);
      refuted = c.requires.refuted;
    }

-- past the choices with this list, whether it counts or not
past : (c : Joined-all_count) →
    let t = c.args.table.now in
    let m : ℕ = length t.operations in
    HasComeTo (choices_in_version c.args.version t c.args.n) c.args.start (counting c.args.version t (with_size m c.args.n c.args.state.0 c.args.size)) c.if-all_count.place
    (counting c.args.version t (flat_map (with_first m c.args.n c.args.state.0) (rising_after m c.loop-a.a.items)))
past c =
    let t = c.args.table.now in
    let v : ℕ = c.args.version in
    let m : ℕ = length t.operations in
    let s : ℕ = c.args.state.0 in
    let a : List ℕ = c.loop-a.a.items in
    let choices : List Choice = choices_in_version v t c.args.n in
    elim c.if-all_count.branch [
      | then-all_count+in_ok-place w ↦
          rw w.place-is
          (part_past choices c.args.start _ v t (with_first m c.args.n s) c.loop-a.place a (rising_after m a) c.loop-a.invariant.come w.in_ok-place.place
          (rw w.as_slice-then-all_count.ensures.value at w.in_ok-place.ensures.passed))
      | else-all_count w ↦
          (let counts = rw c.as_slice.ensures.value at (sym c.all_count.ensures ∙ w.if-all_count.false) in
          rw w.place-is (part_over choices c.args.start _ v t (with_first m c.args.n s) c.loop-a.place a (rising_after m a) c.loop-a.invariant.come (none_counts v t s a _ counts)))
    ]

pub returns-then-not-step-clause-passed : goal.returns-then-not-step-clause-passed
returns-then-not-step-clause-passed c =
    let t = c.args.table.now in
    let v : ℕ = c.args.version in
    let f : List ℕ → List Choice = with_first (length t.operations) c.args.n c.args.state.0 in
    let none = rw (c.operations-operations.ensures.number, c.as_mut_slice.ensures.value) at (c.step.ensures.last c.if-not-step.true) in
    come_as (choices_in_version v t c.args.n) c.args.start _ c.if-all_count.place _ _ (ap (λ (lists : List (List ℕ)). counting v t (flat_map f lists)) none)
    (past (goal.at.returns-then-not-step-clause-passed c).Joined-all_count)

pub loop-a-preserved : goal.loop-a-preserved
loop-a-preserved c =
    let t = c.args.table.now in
    let v : ℕ = c.args.version in
    let f : List ℕ → List Choice = with_first (length t.operations) c.args.n c.args.state.0 in
    let a : List ℕ = c.loop-a.a.items in
    let choices : List Choice = choices_in_version v t c.args.n in
    let refuted : AreRefuted t choices c.args.entries.now c.if-all_count.place = elim c.if-all_count.branch [
      | then-all_count+in_ok-place w ↦ rw w.place-is w.in_ok-place.ensures.refuted
      | else-all_count w ↦ rw w.place-is c.loop-a.invariant.refuted
    ] in
    let more = rw (c.operations-operations.ensures.number, c.as_mut_slice.ensures.value) at (c.step.ensures.more c.if-not-step.false) in
    let long = c.step.ensures.long ∙ ap (λ (xs : List ℕ). length xs) c.as_mut_slice.ensures.value in
    let same : refill (length a) a c.step.new.list ≡ c.step.new.list = written_over a c.step.new.list long in
    let known = rw (c.operations-operations.ensures.number, c.as_mut_slice.ensures.value) at c.step.ensures.known in
    rw same (record {
      known = known c.loop-a.invariant.known;
      long = long ∙ c.loop-a.invariant.long;
      come = come_as choices c.args.start _ c.if-all_count.place _ _ (ap (λ (lists : List (List ℕ)). counting v t (flat_map f lists)) more) (past (goal.at.loop-a-preserved c).Joined-all_count);
      refuted = refuted;
    })
