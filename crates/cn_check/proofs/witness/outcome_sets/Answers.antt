use Rattle.std.proofs.Common.{◌≡◌, ◌+◌, ◌∙◌, inl, ℕ, Some, length, length-append, sym, ap, subst, arith}
use denote.Enum.Bare.{same_false, same_true}
use Rattle.std.proofs.lemmas.Option.{same_Some}
use Rattle.cn_choice.specs.contracts.team.Team.{the_type}
use Rattle.cn_choice.specs.Canonical.{raw_choice_of}
use Rattle.cn_choice.specs.RawChoices.{RawChoice}
use Rattle.cn_check.specs.Runs.{IsIn, ShowsFrom}
use Rattle.cn_choice.specs.Moves.{move_of}
use Rattle.cn_check.specs.WalkedRuns.{HasPair}
use Rattle.cn_check.proofs.RunLemmas.{Below, ShowsFirst, as_other, below_next, both_cases, no_case, or_next, orders_by_first, shows_by}
use Rattle.cn_check.proofs.WalkedLemmas.{walked_more}
use Rattle.cn_check.proofs.witness.outcome_sets.Goals as goal
use Rattle.cn_check.proofs.witness.outcome_sets.Goals.{then-eq, else-eq}

pub loop-first-preserved : goal.loop-first-preserved
loop-first-preserved c =
    let table = c.args.table.now in
    let choice : RawChoice = raw_choice_of c.args.choice.now in
    let first : ℕ = c.loop-first.first in
    record {
      shown = λ j r q.
          let F : ℕ → Type 0 = ShowsFirst table choice c.args.team j r q in
          elim c.if-eq.branch [
            | then-eq w ↦
                (let mark = c.team_of.ensures ∙ ap Some (same_true the_type tt c.team_of.result c.args.team (sym c.eq.ensures ∙ w.if-eq.true)) in
                let m = w.move_of-response in
                let u = w.with_moved-used in
                let start = ap (λ x. x.state) c.choice.view_is in
                let move = subst (λ (s : ℕ). (m.result.0, m.result.1.0) ≡ move_of table choice first s) start m.ensures.value in
                let by = shows_by table choice 0 choice.state first m.result.0 m.result.1.0 u.result w.walk-later.result move u.ensures.with w.walk-later.ensures.ends j r q in
                rw w.pairs-is
                (or_next (HasPair c.loop-first.pairs j r q) _ (Below F first) (F first) (Below F (first + 1)) (c.loop-first.invariant.shown j r q)
                (both_cases (HasPair w.walk-later.new.pairs j r q) _ (HasPair c.loop-first.pairs j r q) (ShowsFrom table choice u.result m.result.1.0 j r q)
                ((j ≡ first) × (r ≡ m.result.0) × IsIn w.walk-later.result q) (F first) (w.walk-later.ensures.shown j r q) (w.add.ensures j r q)
                (λ h. by.0 h.1, λ h. (mark, by.1 h))) (below_next F first)))
            | else-eq w ↦
                (let other = same_false the_type c.team_of.result c.args.team (sym c.eq.ensures ∙ w.if-eq.false) in
                let none : ¬ F first = λ f. other (same_Some _ _ (sym c.team_of.ensures ∙ f.0)) in
                rw w.pairs-is (or_next (HasPair c.loop-first.pairs j r q) _ (Below F first) (F first) (Below F (first + 1)) (c.loop-first.invariant.shown j r q)
                (no_case _ (F first) none) (below_next F first)))
          ];
      walked = elim c.if-eq.branch [
        | then-eq w ↦ rw (w.end_sets-is, w.pairs-is)
            (walked_more table choice w.walk-later.new.end_sets w.walk-later.new.pairs w.add.new.self (λ j r q h. (w.add.ensures j r q).1 (inl h)) w.walk-later.ensures.walked)
        | else-eq w ↦ rw (w.end_sets-is, w.pairs-is) c.loop-first.invariant.walked
      ];
    }

pub returns : goal.returns
returns c j r q =
    let choice : RawChoice = raw_choice_of c.args.choice.now in
    let all : c.loop-first.first ≡ length choice.operations = omega
    (arith, c.loop-first-test.false, c.loop-first.auto.first-end, c.processes-first-end.ensures, length-append c.args.choice.now.a c.args.choice.now.b) in
    as_other _ _ _ (c.loop-first.invariant.shown j r q) (orders_by_first c.args.table.now choice c.args.team j r q c.pair_along_order.ensures c.loop-first.first all)
