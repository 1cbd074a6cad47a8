use Rattle.std.proofs.Common.{◌+◌, ◌-◌, ◌≡◌, ℕ, List, length, ap, arith, below_more, inl, inr, refl, subst}
use Rattle.cn_choice.specs.Collisions.{IsCollision}
use Rattle.cn_choice.specs.RawChoices.{RawChoice}
use Rattle.cn_choice.specs.declared.team.Team.TheVariants.{A}
use Rattle.cn_choice.proofs.OrderLemmas.Walks.{the_pair}
use Rattle.cn_collisions.proofs.FirstCollisions.{twin_collides}
use Rattle.cn_collisions.proofs.examination.raw_collision.Goals as goal

pub loop-process-preserved-then-is_twin : goal.loop-process-preserved-then-is_twin
loop-process-preserved-then-is_twin c =
    let t = c.args.subject.now.sets.now.table.now in
    let raw = c.args.subject.now.raw.now in
    let p = c.loop-process.process in
    let i = c.loop-process.invariant in
    let some = c.is_twin.ensures.some c.if-is_twin.true in
    let twins = c.is_twin.ensures.twins c.if-is_twin.true in
    let same : p - 1 + 1 ≡ p = omega (arith, some) in
    record {
      none = below_more _ _ i.none (subst (λ (i : ℕ). (x y : List ℕ) → ¬ IsCollision t raw i x y) same (twin_collides t raw (p - 1) twins (i.none (p - 1) (omega (arith, some)))));
      empty = i.empty;
    }

pub returns-then-collision_of-clause-recorded : goal.returns-then-collision_of-clause-recorded
returns-then-collision_of-clause-recorded c =
    let asked = c.asked_of-asked.ensures in
    let first = rw (asked.raw, asked.table, asked.process) at (c.if-collision_of.ensures.first refl) in
    record {
      collision = first.collision;
      least = λ i x y l. c.loop-process.invariant.none i l x y;
      first_alpha = first.first_alpha;
      first_beta = first.first_beta;
    }

pub loop-process-preserved : goal.loop-process-preserved
loop-process-preserved c =
    let asked = c.asked_of-asked.ensures in
    record {
      none = below_more _ _ c.loop-process.invariant.none (rw (asked.raw, asked.table, asked.process) at (c.if-collision_of.ensures.none refl));
      empty = c.if-collision_of.ensures.unchanged refl;
    }

pub returns-clause-none : goal.returns-clause-none
returns-clause-none c =
    let seen = ap (λ (a : RawChoice). length a.operations) c.raw.view_is in
    let t = c.args.subject.now.sets.now.table.now in
    let raw = c.args.subject.now.raw.now in
    elim (c.collision_or_witness.ensures.either t raw) [
      | inl w ↦ w
      | inr r ↦
          (let k = r.3.collision in
          let p = the_pair _ k.takes_part in
          let l = c.process_of_pair.ensures t raw A r.0 p.0 (r.1, k.alpha_order, k.alpha_in_a, p.1) in
          absurd (c.loop-process.invariant.none r.0 (omega (arith, seen, l, c.len-process-end.ensures.value, c.loop-process-test.false)) r.1 r.2 k))
    ]
