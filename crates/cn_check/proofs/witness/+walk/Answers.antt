use Rattle.std.proofs.Common.{◌≡◌, ◌≢◌, ◌<◌, ◌+◌, inl, inr, ℕ, length, length-append, sym, arith, true≢false}
use Rattle.cn_choice.specs.Canonical.{raw_choice_of}
use Rattle.cn_choice.specs.RawChoices.{RawChoice}
use Rattle.cn_check.specs.Runs.{IsIn, ShowsFrom}
use Rattle.cn_check.specs.WalkedRuns.{HasPair, ends_at}
use Rattle.cn_check.proofs.RunLemmas.{Below, EndsNext, ShowsNext, as_other, below_next, both_cases, ends_by, ends_by_first, no_case, same_case, shows_by, shows_by_first, with_fact}
use Rattle.cn_check.proofs.WalkedLemmas.{walked_more, walked_put}
use Rattle.cn_check.proofs.witness.+walk.Goals as goal
use Rattle.cn_check.proofs.witness.+walk.Goals.{then-not-has_moved, else-not-has_moved}

pub returns-then-before-ne0-clause-shown : goal.returns-then-before-ne0-clause-shown
returns-then-before-ne0-clause-shown t c j r q =
    let known : c.args.state.0 < 16 = omega (arith, c.requires.state, c.states-states.ensures.number, c.states-states.ensures.range.1) in
    let some : ends_at c.args.end_sets.now c.args.used c.args.state.0 ≢ 0 = λ none. absurd (omega (arith, none, c.at-before.ensures, c.if-before-ne0.true)) in (
      λ old. inl old,
      λ h. elim h [ inl old ↦ old | inr s ↦ c.requires.walked.shown c.args.used c.args.state.0 j r q known some s ],
    )

pub loop-next-preserved : goal.loop-next-preserved
loop-next-preserved t c =
    let table = c.args.table.now in
    let choice : RawChoice = raw_choice_of c.args.choice.now in
    let used : ℕ = c.args.used in
    let state : ℕ = c.args.state.0 in
    let next : ℕ = c.loop-next.next in
    record {
      ends = λ q.
          let E : ℕ → Type 0 = EndsNext table choice used state q in
          elim c.if-not-has_moved.branch [
            | then-not-has_moved w ↦
                (let new : ¬ IsIn used next = λ old. true≢false (rw w.if-not-has_moved.true at (sym (c.has_moved.ensures.1 old))) in
                let m = w.move_of-response in
                let by = ends_by table choice used state next m.result.0 m.result.1.0 w.with_moved.result w.walk-later.result m.ensures.value w.with_moved.ensures.with w.walk-later.ensures.ends q in
                rw w.ends-is
                (both_cases (IsIn c.loop-next.ends q) _ (q ≡ state) (Below E next) (E next) (Below E (next + 1)) (c.loop-next.invariant.ends q)
                (same_case _ (IsIn c.loop-next.ends q) (IsIn w.walk-later.result q) (E next) (w.union-ends.ensures q)
                (with_fact (¬ IsIn used next) _ (IsIn w.walk-later.result q) new by)) (below_next E next)))
            | else-not-has_moved w ↦
                (let old : IsIn used next = c.has_moved.ensures.0 w.if-not-has_moved.false in
                rw w.ends-is
                (both_cases (IsIn c.loop-next.ends q) _ (q ≡ state) (Below E next) (E next) (Below E (next + 1)) (c.loop-next.invariant.ends q) (no_case _ (E next) (λ e. e.0 old))
                (below_next E next)))
          ];
      shown = λ j r q.
          let S : ℕ → Type 0 = ShowsNext table choice used state j r q in
          elim c.if-not-has_moved.branch [
            | then-not-has_moved w ↦
                (let new : ¬ IsIn used next = λ old. true≢false (rw w.if-not-has_moved.true at (sym (c.has_moved.ensures.1 old))) in
                let m = w.move_of-response in
                let by = shows_by table choice used state next m.result.0 m.result.1.0 w.with_moved.result w.walk-later.result m.ensures.value w.with_moved.ensures.with
                w.walk-later.ensures.ends j r q in
                rw w.pairs-is
                (both_cases (HasPair c.loop-next.pairs j r q) _ (HasPair c.args.pairs.now j r q) (Below S next) (S next) (Below S (next + 1)) (c.loop-next.invariant.shown j r q)
                (both_cases (HasPair w.walk-later.new.pairs j r q) _ (HasPair c.loop-next.pairs j r q) (ShowsFrom table choice w.with_moved.result w.move_of-response.result.1.0 j r q)
                ((j ≡ next) × (r ≡ w.move_of-response.result.0) × IsIn w.walk-later.result q) (S next) (w.walk-later.ensures.shown j r q) (w.add.ensures j r q)
                (λ h. by.0 h.1, λ h. (new, by.1 h))) (below_next S next)))
            | else-not-has_moved w ↦
                (let old : IsIn used next = c.has_moved.ensures.0 w.if-not-has_moved.false in
                rw w.pairs-is
                (both_cases (HasPair c.loop-next.pairs j r q) _ (HasPair c.args.pairs.now j r q) (Below S next) (S next) (Below S (next + 1)) (c.loop-next.invariant.shown j r q)
                (no_case _ (S next) (λ e. e.0 old)) (below_next S next)))
          ];
      walked = elim c.if-not-has_moved.branch [
        | then-not-has_moved w ↦ rw (w.end_sets-is, w.pairs-is)
            (walked_more table choice w.walk-later.new.end_sets w.walk-later.new.pairs w.add.new.self (λ j r q h. (w.add.ensures j r q).1 (inl h)) w.walk-later.ensures.walked)
        | else-not-has_moved w ↦ rw (w.end_sets-is, w.pairs-is) c.loop-next.invariant.walked
      ];
    }

pub returns-clause-ends : goal.returns-clause-ends
returns-clause-ends t c q =
    let choice : RawChoice = raw_choice_of c.args.choice.now in
    let all : c.loop-next.next ≡ length choice.operations = omega
    (arith, c.loop-next-test.false, c.loop-next.auto.next-end, c.processes-next-end.ensures, length-append c.args.choice.now.a c.args.choice.now.b) in
    as_other _ _ _ (c.loop-next.invariant.ends q) (ends_by_first c.args.table.now choice c.args.used c.args.state.0 c.loop-next.next q all)

pub returns-clause-shown : goal.returns-clause-shown
returns-clause-shown t c j r q =
    let choice : RawChoice = raw_choice_of c.args.choice.now in
    let all : c.loop-next.next ≡ length choice.operations = omega
    (arith, c.loop-next-test.false, c.loop-next.auto.next-end, c.processes-next-end.ensures, length-append c.args.choice.now.a c.args.choice.now.b) in
    let by = shows_by_first c.args.table.now choice c.args.used c.args.state.0 c.loop-next.next j r q all in
    same_case (HasPair c.loop-next.pairs j r q) (HasPair c.args.pairs.now j r q) _ (ShowsFrom c.args.table.now choice c.args.used c.args.state.0 j r q) (c.loop-next.invariant.shown j r q) (by.1, by.0)

pub returns-clause-walked : goal.returns-clause-walked
returns-clause-walked t c =
    let table = c.args.table.now in
    let choice : RawChoice = raw_choice_of c.args.choice.now in
    let all : c.loop-next.next ≡ length choice.operations = omega
    (arith, c.loop-next-test.false, c.loop-next.auto.next-end, c.processes-next-end.ensures, length-append c.args.choice.now.a c.args.choice.now.b) in
    walked_put table choice c.loop-next.end_sets c.put.new.self c.loop-next.pairs c.args.used c.args.state.0 c.loop-next.ends c.put.ensures.here c.put.ensures.others
    (λ q. as_other _ _ _ (c.loop-next.invariant.ends q) (ends_by_first table choice c.args.used c.args.state.0 c.loop-next.next q all))
    (λ j r q h. (c.loop-next.invariant.shown j r q).1 (inr ((shows_by_first table choice c.args.used c.args.state.0 c.loop-next.next j r q all).0 h))) c.loop-next.invariant.walked
