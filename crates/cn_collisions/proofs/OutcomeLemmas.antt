-- The pairs of the orders of a team, by their first process.
use Rattle.std.proofs.Common.{◌≡◌, ℕ, ◌+◌, ◌^◌, ◌<◌, ◌≤◌, ◌↔◌, inl, inr, length, subst, arith}
use Rattle.std.specs.Prelude.{IsBitSet, slice_index}
use Rattle.std.specs.Int.Bits.{bit_or}
use Rattle.cn_choice.specs.Moves.{answer_of, next_of}
use Rattle.cn_outcomes.proofs.LastProcess.{zero_has_none}
use Rattle.cn_outcomes.proofs.Packing.{below_or_last}
use Rattle.cn_collisions.specs.declared.view.Prefix.{Prefix}
use Rattle.cn_collisions.specs.declared.view.View.{View}
use Rattle.cn_collisions.specs.Views.{IsStart}
use Rattle.cn_collisions.specs.Ways.{IsPassed, IsTried, StepWay, WayTo, seen_after}
use Rattle.cn_collisions.proofs.WayLemmas.{step_exchanged}

module _ (v : View) (low r q : ℕ) where
  -- some way to go on from the prefix ends with the pair
  abbrev pub EndsWith : Prefix → Type 0
  EndsWith at = (k : ℕ) × (k < length v.raw.now.operations) × WayTo v.sets.now.table.now v.raw.now v.process k at.used at.state.0 at.seen r q

  -- the process is one from low on, and some way that begins with it ends with the pair
  abbrev pub Begins : ℕ → Type 0
  Begins p = (low ≤ p) × StepWay v.sets.now.table.now v.raw.now v.process p r q

  -- some process below the end is one
  abbrev pub IsPairBelow : ℕ → Type 0
  IsPairBelow end = (p : ℕ) × (p < end) × Begins p

  module _ (at : Prefix) (start : IsStart v at) (p : ℕ) where
    pub step_begins : low ≤ p → (next : Prefix) → next.used ≡ bit_or at.used (2 ^ p) → next.state.0 ≡ next_of v.sets.now.table.now v.raw.now p at.state.0
        → next.seen ≡ seen_after v.process p (answer_of v.sets.now.table.now v.raw.now p at.state.0) at.seen → EndsWith next ↔ Begins p
    step_begins from next used state seen =
        let same : EndsWith next ↔ StepWay v.sets.now.table.now v.raw.now v.process p r q = rw (used, state, seen, start.used, start.state, start.seen) (λ h. h, λ h. h) in
        (λ h. (from, same.0 h), λ h. same.1 h.1)

    -- a process that is passed over begins no way to another pair
    pub passed_begins : (tried : ℕ) → ((o : ℕ) → IsBitSet tried o → IsTried v.raw.now v.process low p at.used o) → IsPassed v.raw.now v.process at.used tried p
        → p < length v.raw.now.operations → Begins p → IsPairBelow p
    passed_begins tried known passed inside begins = elim passed [
      | inl u ↦ absurd (zero_has_none p (subst (λ (x : ℕ). IsBitSet x p) start.used u))
      | inr e ↦ (let t = known (slice_index v.raw.now.operations p) e.1 in
          (t.0, t.2, (t.1, step_exchanged v.sets.now.table.now v.raw.now v.process t.0 p t.5 t.3 e.0 (omega (arith, t.2, inside)) inside r q begins.1)))
    ]

    pub passed_below : (here : Type 0) → (Begins p → IsPairBelow p) → here ↔ IsPairBelow p → here ↔ IsPairBelow (p + 1)
    passed_below here covered h = (
      λ x. (let k = h.0 x in (k.0, omega (arith, k.1), k.2)),
      λ x. h.1 (elim (below_or_last x.0 p x.1) [ inl l ↦ (x.0, l, x.2) | inr e ↦ covered (subst Begins e x.2) ]),
    )
