use Rattle.std.proofs.Common.{◌≡◌, ℕ, ◌∙◌, List, [], ◌∷◌, ◌++◌, ap, arith, length, refl, sym, subst, None}
use Rattle.std.specs.Prelude.{IsBitSet}
use Rattle.cn_outcomes.proofs.LastProcess.{zero_has_none}
use Rattle.cn_collisions.specs.Ways.{IsFirstWay}
use Rattle.cn_collisions.proofs.WayLemmas.{dead_here, dead_more, first_way, no_way_left}
use Rattle.cn_collisions.proofs.endings.way_of_two.Goals as goal

pub returns-in-Some-clause-first : goal.returns-in-Some-clause-first
returns-in-Some-clause-first c =
    let a = c.args in
    let v = a.view.now in
    let t = v.sets.now.table.now in
    let raw = v.raw.now in
    let set = a.target.now in
    let at = a.start in
    let p = c.loop-process.process in
    let last = c.in-Some.last in
    let pair : ℕ × ℕ = (last.response, last.state) in
    let items : c.push-in-Some.new.self.items ≡ p ∷ last.process ∷ [] =
    c.push-in-Some.ensures.items ∙ ap (λ (xs : List ℕ). xs ++ last.process ∷ []) (c.push.ensures.items ∙ ap (λ (xs : List ℕ). xs ++ p ∷ []) c.loop-process.invariant.empty) in
    subst (λ (xs : List ℕ). IsFirstWay t raw v.process set 2 a.low a.high at.used at.state.0 None xs pair) (sym items)
    (first_way t raw v.process set 2 a.low a.high at.used at.state.0 None p (length raw.operations) refl (omega arith) (last.process ∷ []) pair
    (omega (arith, c.loop-process-test.true, c.requires.high)) c.loop-process.auto.process c.loop-process-test.true
    (λ u. zero_has_none p (subst (λ (x : ℕ). IsBitSet x p) c.requires.start.used u)) c.loop-process.invariant.dead c.in-Some.ensures.first.way)

pub loop-process-preserved : goal.loop-process-preserved
loop-process-preserved c =
    let a = c.args in
    let v = a.view.now in
    let t = v.sets.now.table.now in
    let raw = v.raw.now in
    let set = a.target.now in
    let at = a.start in
    let p = c.loop-process.process in
    let i = c.loop-process.invariant in
    record {
      dead = dead_more t raw v.process set 2 a.low a.high at.used at.state.0 None p i.dead
          (dead_here t raw v.process set 2 a.low a.high at.used at.state.0 None p (length raw.operations) refl (omega arith) c.in_default.ensures.none);
      empty = i.empty;
    }

pub returns-clause-none : goal.returns-clause-none
returns-clause-none c =
    let a = c.args in
    let v = a.view.now in
    no_way_left v.sets.now.table.now v.raw.now v.process a.target.now 2 a.low a.high a.start.used a.start.state.0 None c.loop-process.process (omega arith)
    c.loop-process-test.false c.loop-process.invariant.dead
