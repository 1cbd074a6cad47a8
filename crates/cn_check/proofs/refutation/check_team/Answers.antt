use Rattle.std.proofs.Common.{◌≡◌, ◌∙◌, ℕ, List, length, ap, sym}
use Rattle.std.specs.List.{refill}
use Rattle.cn_choice.specs.Canonical.{Choice, with_first}
use Rattle.cn_choice.specs.Rising.{rising_after}
use Rattle.cn_check.specs.Refutations.{AreRefuted, HasComeTo, counting}
use Rattle.cn_check.specs.Versions.{choices_in_version}
use Rattle.cn_check.proofs.RefutationLemmas.{beside, come_as, come_first, team_next, team_over, team_past}
use Rattle.cn_check.proofs.StepLemmas.{written_over}
use Rattle.cn_check.proofs.refutation.check_team.Goals as goal
use Rattle.cn_check.proofs.refutation.check_team.Goals.{Joined-all_count, then-all_count+in_ok-place, else-all_count}

pub loop-b-init : goal.loop-b-init
loop-b-init c =
    let t = c.args.table.now in
    let v : ℕ = c.args.version in
    let m : ℕ = length t.operations in
    let some = rw c.operations-operations.ensures.number at c.operations-operations.ensures.range.0 in
    let first = c.first_beside-b.ensures.first m some in
    record {
      known = c.first_beside-b.ensures.known m some c.requires.known;
      come = come_first (choices_in_version v t c.args.n) c.args.start _ _ (ap (λ (bs : List (List ℕ)). counting v t (beside v t c.args.state.0 c.args.a.now bs)) first);
      refuted = c.requires.refuted;
    }

pub check_entry-requires-clause-here : goal.check_entry-requires-clause-here
check_entry-requires-clause-here c =
    let t = c.args.table.now in
    let v : ℕ = c.args.version in
    let counts = rw c.as_slice.ensures.value at (sym c.all_count.ensures ∙ c.if-all_count.true) in
    rw c.as_slice-then-all_count.ensures.value
    (team_next (choices_in_version v t c.args.n) c.args.start _ v t c.args.state.0 c.args.a.now c.loop-b.place c.loop-b.b.items
    (rising_after (length t.operations) c.loop-b.b.items) c.loop-b.invariant.come
    c.requires.next c.requires.counts counts)

-- past the choice with this list, whether it counts or not
past : (c : Joined-all_count) →
    let t = c.args.table.now in
    let m : ℕ = length t.operations in
    HasComeTo (choices_in_version c.args.version t c.args.n) c.args.start (counting c.args.version t (with_first m c.args.n c.args.state.0 c.args.a.now)) c.if-all_count.place
    (counting c.args.version t (beside c.args.version t c.args.state.0 c.args.a.now (rising_after m c.loop-b.b.items)))
past c =
    let t = c.args.table.now in
    let v : ℕ = c.args.version in
    let s : ℕ = c.args.state.0 in
    let b : List ℕ = c.loop-b.b.items in
    let choices : List Choice = choices_in_version v t c.args.n in
    elim c.if-all_count.branch [
      | then-all_count+in_ok-place w ↦
          (let counts = rw c.as_slice.ensures.value at (sym c.all_count.ensures ∙ w.if-all_count.true) in
          rw (w.place-is, w.in_ok-place.ensures.next)
          (team_past choices c.args.start _ v t s c.args.a.now c.loop-b.place b (rising_after (length t.operations) b) c.loop-b.invariant.come c.requires.counts counts))
      | else-all_count w ↦
          (let counts = rw c.as_slice.ensures.value at (sym c.all_count.ensures ∙ w.if-all_count.false) in
          rw w.place-is (team_over choices c.args.start _ v t s c.args.a.now c.loop-b.place b (rising_after (length t.operations) b) c.loop-b.invariant.come counts))
    ]

pub returns-then-not-step-clause-passed : goal.returns-then-not-step-clause-passed
returns-then-not-step-clause-passed c =
    let t = c.args.table.now in
    let v : ℕ = c.args.version in
    let none = rw (c.operations-operations.ensures.number, c.as_mut_slice.ensures.value) at (c.step.ensures.last c.if-not-step.true) in
    come_as (choices_in_version v t c.args.n) c.args.start _ c.if-all_count.place _ _ (ap (λ (bs : List (List ℕ)). counting v t (beside v t c.args.state.0 c.args.a.now bs)) none)
    (past (goal.at.returns-then-not-step-clause-passed c).Joined-all_count)

pub loop-b-preserved : goal.loop-b-preserved
loop-b-preserved c =
    let t = c.args.table.now in
    let v : ℕ = c.args.version in
    let b : List ℕ = c.loop-b.b.items in
    let choices : List Choice = choices_in_version v t c.args.n in
    let refuted : AreRefuted t choices c.args.entries.now c.if-all_count.place = elim c.if-all_count.branch [
      | then-all_count+in_ok-place w ↦ rw (w.place-is, w.in_ok-place.ensures.next) w.in_ok-place.ensures.refuted
      | else-all_count w ↦ rw w.place-is c.loop-b.invariant.refuted
    ] in
    let more = rw (c.operations-operations.ensures.number, c.as_mut_slice.ensures.value) at (c.step.ensures.more c.if-not-step.false) in
    let same : refill (length b) b c.step.new.list ≡ c.step.new.list = written_over b c.step.new.list (c.step.ensures.long ∙ ap (λ (xs : List ℕ). length xs) c.as_mut_slice.ensures.value) in
    let known = rw (c.operations-operations.ensures.number, c.as_mut_slice.ensures.value) at c.step.ensures.known in
    rw same (record {
      known = known c.loop-b.invariant.known;
      come = come_as choices c.args.start _ c.if-all_count.place _ _ (ap (λ (bs : List (List ℕ)). counting v t (beside v t c.args.state.0 c.args.a.now bs)) more)
          (past (goal.at.loop-b-preserved c).Joined-all_count);
      refuted = refuted;
    })
