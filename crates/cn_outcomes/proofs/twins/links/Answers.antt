use Rattle.std.proofs.Common.{ℕ, ◌≡◌, ◌+◌, ◌-◌, ◌≤◌, ◌⊎◌, inl, inr, ◌↔◌, arith, subst, sym}
use Rattle.std.specs.Prelude.{IsBitSet}
use Rattle.cn_choice.specs.RawChoices.{RawChoice}
use Rattle.cn_outcomes.specs.Twins.{AreTwinLinks, AreTwins}
use Rattle.cn_outcomes.proofs.twins.links.Goals as goal
use Rattle.cn_outcomes.proofs.twins.links.Goals.{else-is_linked, then-is_linked}

one_more : (c : RawChoice) (links more k : ℕ) → 1 ≤ k → AreTwinLinks c links → AreTwins c (k - 1) → ((q : ℕ) → IsBitSet more q ↔ (IsBitSet links q ⊎ (q ≡ k))) → AreTwinLinks c more
one_more c links more k some l t h = record {
  twins = λ p s. elim ((h (p + 1)).0 s) [ inl a ↦ l.twins p a | inr e ↦ (let before : k - 1 ≡ p = omega (arith, e) in subst (AreTwins c) before t) ];
  not_first = λ s. elim ((h 0).0 s) [ inl a ↦ l.not_first a | inr e ↦ absurd (omega (arith, e, some)) ];
}

pub loop-process-preserved : goal.loop-process-preserved
loop-process-preserved c = elim c.if-is_linked.branch [
  | then-is_linked w ↦ subst (AreTwinLinks c.args.choice.now) (sym w.links-is)
      (one_more c.args.choice.now c.loop-process.links w.insert.new.self c.loop-process.process (omega (arith, c.loop-process.auto.process))
      c.loop-process.invariant (c.is_linked.ensures w.if-is_linked.true) w.insert.ensures)
  | else-is_linked w ↦ subst (AreTwinLinks c.args.choice.now) (sym w.links-is) c.loop-process.invariant
]
