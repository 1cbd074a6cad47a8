-- The first moves of a team, what they lead to, and how a way goes on from one of them.
use Rattle.std.proofs.Common.{◌≡◌, ◌≢◌, ◌↔◌, ℕ, zero, suc, ◌+◌, ◌-◌, ◌^◌, ◌<◌, ◌≤◌, ◌⊎◌, inl, inr, List, [], ◌∷◌, ◌++◌, length, refl, sym, ap, ◌∙◌, subst, arith, All, get_or, Option}
use Rattle.std.specs.Prelude.{IsBitSet, slice_index}
use Rattle.std.specs.List.{AllPairs, Any}
use Rattle.std.specs.Int.Bits.{bit_or}
use Rattle.std.proofs.lemmas.Bool.{cases_order}
use Rattle.std.proofs.lemmas.List.{get_or_append_left, length_push}
use Rattle.std.proofs.lemmas.List.Elements.{All-push}
use Rattle.std.proofs.lemmas.List.Quantifiers.{Any-push, all_pairs_push}
use Rattle.cn_choice.specs.Moves.{answer_of, next_of}
use Rattle.cn_stocks.specs.declared.pair_sets.PairSet.{PairSet}
use Rattle.cn_outcomes.proofs.LastProcess.{same_or_not, zero_has_none}
use Rattle.cn_collisions.specs.declared.view.Prefix.{Prefix}
use Rattle.cn_collisions.specs.declared.view.View.{View}
use Rattle.cn_collisions.specs.declared.ways.Step.{Step}
use Rattle.cn_collisions.specs.Steps.{AreOpenings, HasMovesLeft, IsFirstOnward, IsFirstStep, IsStep, LeadsOnward}
use Rattle.cn_collisions.specs.Views.{IsStart, moves_left, room_of}
use Rattle.cn_collisions.specs.Ways.{IsCovered, IsFirstWay, IsPassed, IsTried, LeadsNowhere, NoWay, seen_after}
use Rattle.cn_collisions.proofs.WayLemmas.{dead_closed, dead_here, leads_on, no_way, no_way_left, tried_more, tried_next}

module _ (v : View) (low high : ℕ) (at : Prefix) where
  -- the openings of the processes below the end
  pub record AreOpened (end tried : ℕ) (steps : List Step) : Type 0 where
    pub rising : AllPairs (λ (x y : Step). x.process < y.process) steps
    pub each : All (λ (s : Step). (low ≤ s.process) × (s.process < high) × IsStep v at s) steps
    pub below : All (λ (s : Step). s.process < end) steps
    pub needed : All (λ (s : Step). ¬ IsCovered v.raw.now v.process low at.used s.process) steps
    pub every : (p : ℕ) → low ≤ p → p < end → Any (λ (s : Step). s.process ≡ p) steps ⊎ IsCovered v.raw.now v.process low at.used p
    pub known : (o : ℕ) → IsBitSet tried o ↔ IsTried v.raw.now v.process low end at.used o
    pub few : length steps ≤ end

  pub list_start : (steps : List Step) → steps ≡ [] → AreOpened low 0 steps
  list_start steps e = subst (AreOpened low 0) (sym e) (record {
    rising = λ i j d less inside. absurd (omega (arith, inside));
    each = λ k d inside. absurd (omega (arith, inside));
    below = λ k d inside. absurd (omega (arith, inside));
    needed = λ k d inside. absurd (omega (arith, inside));
    every = λ p from upto. absurd (omega (arith, from, upto));
    known = λ o. (λ s. absurd (zero_has_none o s), λ h. absurd (omega (arith, h.1, h.2)));
    few = omega arith;
  })

  module _ (p : ℕ) (tried : ℕ) (steps : List Step) (is : AreOpened p tried steps) where
    earlier : (o : ℕ) (h : IsTried v.raw.now v.process low (p + 1) at.used o) → h.0 ≢ p → IsTried v.raw.now v.process low p at.used o
    earlier o h n = (h.0, h.1, omega (arith, h.2, n), h.3, h.4, h.5)

    pub list_passed : IsCovered v.raw.now v.process low at.used p → AreOpened (p + 1) tried steps
    list_passed covered = record {
      rising = is.rising;
      each = is.each;
      below = λ k d inside. omega (arith, is.below k d inside);
      needed = is.needed;
      every = λ q from upto. elim (same_or_not q p) [ inl e ↦ inr (subst (IsCovered v.raw.now v.process low at.used) (sym e) covered) | inr n ↦ is.every q from (omega (arith, upto, n)) ];
      known = λ o. (
        λ s. tried_more v.raw.now v.process low p at.used o ((is.known o).0 s),
        λ h. elim (same_or_not h.0 p) [
          | inl e ↦ elim covered [
            | inl u ↦ absurd (h.4 (subst (IsBitSet at.used) (sym e) u))
            | inr r ↦ (is.known o).1 (subst (IsTried v.raw.now v.process low p at.used) (sym (ap (slice_index v.raw.now.operations) e) ∙ h.5) r.1)
          ]
          | inr n ↦ (is.known o).1 (earlier o h n)
        ],
      );
      few = omega (arith, is.few);
    }

    pub list_pushed : (s : Step) (after : ℕ) (longer : List Step) → longer ≡ steps ++ s ∷ [] → s.process ≡ p → low ≤ p → p < high → IsStep v at s → ¬ IsPassed v.raw.now v.process at.used tried p
        → ((o : ℕ) → IsBitSet after o ↔ (IsBitSet tried o ⊎ ((p ≢ v.process) × (o ≡ slice_index v.raw.now.operations p)))) → AreOpened (p + 1) after longer
    list_pushed s after longer whole same from upto step fresh added = subst (AreOpened (p + 1) after) (sym whole) (record {
      rising = all_pairs_push (λ (x y : Step). x.process < y.process) steps s is.rising (λ k d inside. omega (arith, same, is.below k d inside));
      each = All-push (λ (x : Step). (low ≤ x.process) × (x.process < high) × IsStep v at x) steps s is.each (omega (arith, same, from), omega (arith, same, upto), step);
      below = All-push (λ (x : Step). x.process < p + 1) steps s (λ k d inside. omega (arith, is.below k d inside)) (omega (arith, same));
      needed = All-push (λ (x : Step). ¬ IsCovered v.raw.now v.process low at.used x.process) steps s is.needed
          (subst (λ (k : ℕ). ¬ IsCovered v.raw.now v.process low at.used k) (sym same) (λ c. fresh (elim c [ inl u ↦ inl u | inr r ↦ inr (r.0, (is.known _).1 r.1) ])));
      every = λ q l u. elim (same_or_not q p) [
        | inl e ↦ inl (Any-push (λ (x : Step). x.process ≡ q) steps s (same ∙ sym e))
        | inr n ↦ elim (is.every q l (omega (arith, u, n))) [
          | inl a ↦ inl (a.0, a.1, (let long = length_push steps s in omega (arith, long, a.2)), get_or_append_left steps (s ∷ []) a.1 a.0 a.2 ∙ a.3, a.4)
          | inr c ↦ inr c
        ]
      ];
      known = λ o. (
        tried_next v.raw.now v.process low p at.used tried after from (subst (λ (k : ℕ). ¬ IsBitSet at.used k) same step.free) (λ x s. (is.known x).0 s) (λ x s. (added x).0 s) o,
        λ h. elim (same_or_not h.0 p) [
          | inl e ↦ (added o).1 (inr (λ f. h.3 (e ∙ f), sym h.5 ∙ ap (slice_index v.raw.now.operations) e))
          | inr n ↦ (added o).1 (inl ((is.known o).1 (earlier o h n)))
        ],
      );
      few = (let long = length_push steps s in omega (arith, long, is.few));
    })

  pub list_whole : (end tried : ℕ) (steps : List Step) → high ≤ end → AreOpened end tried steps → AreOpenings v low high at steps
  list_whole end tried steps past is = record {
    rising = is.rising;
    each = is.each;
    needed = is.needed;
    every = λ p from upto. is.every p from (omega (arith, upto, past));
  }

  module _ (set : PairSet) (left : ℕ) where
    abbrev pub Ended : ℕ → Type 0
    Ended p = LeadsNowhere v.sets.now.table.now v.raw.now v.process set (left + 1) low high at.used at.state.0 at.seen p

    -- a step after which no way leads on
    ended_step : (s : Step) → IsStep v at s → ¬ LeadsOnward v set left s.prefix → Ended s.process
    ended_step s is nowhere =
        let none = no_way v.sets.now.table.now v.raw.now v.process set left (length v.raw.now.operations) s.prefix.used s.prefix.state.0 s.prefix.seen refl nowhere in
        let back : left ≡ left + 1 - 1 = omega arith in
        dead_here v.sets.now.table.now v.raw.now v.process set (left + 1) low high at.used at.state.0 at.seen s.process (length v.raw.now.operations) refl (omega arith)
        (subst (λ (k : ℕ). NoWay v.sets.now.table.now v.raw.now v.process set k 0 (length v.raw.now.operations) (bit_or at.used (2 ^ s.process))
        (next_of v.sets.now.table.now v.raw.now s.process at.state.0)
        (seen_after v.process s.process (answer_of v.sets.now.table.now v.raw.now s.process at.state.0) at.seen)) back (rw (is.used, is.state, is.seen) at none))

    module _ (steps : List Step) (are : AreOpenings v low high at steps) where
      -- where each step of a process below the top leads nowhere, each process below it does
      ended_below : (top : ℕ) → top ≤ high → ((k : ℕ) (d : Step) → k < length steps → (get_or steps k d).process < top → ¬ LeadsOnward v set left (get_or steps k d).prefix)
          → (p : ℕ) → low ≤ p → p < top → Ended p
      ended_below top inside nowhere p from upto = by_end (p + 1) (omega (arith, upto)) p from (omega arith)
        where
          by_end : (end : ℕ) → end ≤ top → (p : ℕ) → low ≤ p → p < end → Ended p
          by_end zero l p from upto = absurd (omega (arith, upto))
          by_end (suc end) l p from upto = elim (same_or_not p end) [
            | inl e ↦ subst Ended (sym e) (elim (are.every end (omega (arith, from, e)) (omega (arith, l, inside))) [
              | inl a ↦ subst Ended a.4 (ended_step a.1 (subst (IsStep v at) a.3 (are.each a.0 a.1 a.2).2)
                  (subst (λ (s : Step). ¬ LeadsOnward v set left s.prefix) a.3 (nowhere a.0 a.1 a.2 (let here = ap (λ (s : Step). s.process) a.3 in omega (arith, here, a.4, l)))))
              | inr c ↦ dead_closed v.sets.now.table.now v.raw.now v.process set (left + 1) low high at.used at.state.0 at.seen end (omega (arith, l, inside))
                  (λ q m u. by_end end (omega (arith, l)) q m u) c
            ])
            | inr n ↦ by_end end (omega (arith, l)) p from (omega (arith, upto, n))
          ]

      pub none_onward : All (λ (s : Step). ¬ LeadsOnward v set left s.prefix) steps → NoWay v.sets.now.table.now v.raw.now v.process set (left + 1) low high at.used at.state.0 at.seen
      none_onward nowhere = no_way_left v.sets.now.table.now v.raw.now v.process set (left + 1) low high at.used at.state.0 at.seen high (omega arith) (omega arith)
          (ended_below high (omega arith) (λ k d inside u. nowhere k d inside))

      pub first_onward : (s : Step) → IsFirstOnward v set left steps s → IsFirstStep v set (left + 1) low high at s
      first_onward s is =
          let here = subst (λ (x : Step). (low ≤ x.process) × (x.process < high) × IsStep v at x) (is.there s) (are.each is.place s is.inside) in
          record {
            step = here.2;
            from = here.0;
            upto = here.1;
            earlier = ended_below s.process (omega (arith, here.1)) (λ k d inside u. before k d inside u);
            leads = (let back : left ≡ left + 1 - 1 = omega arith in subst (λ (k : ℕ). LeadsOnward v set k s.prefix) back is.leads);
          }
        where
          before : (k : ℕ) (d : Step) → k < length steps → (get_or steps k d).process < s.process → ¬ LeadsOnward v set left (get_or steps k d).prefix
          before k d inside u = elim (cases_order k is.place) [
            | inl e ↦ (let same = ap (λ (x : Step). x.process) (ap (λ (i : ℕ). get_or steps i d) e ∙ is.there d) in absurd (omega (arith, same, u)))
            | inr apart ↦ elim apart [
              | inl less ↦ is.earlier k d less
              | inr more ↦ (let up = are.rising is.place k d more inside in let same = ap (λ (x : Step). x.process) (is.there d) in absurd (omega (arith, up, same, u)))
            ]
          ]

      -- the steps have room for as many processes as can move after a first one
      pub have_room : left + 1 ≤ moves_left at → All (HasMovesLeft v left) steps
      have_room few k d inside =
          let is = (are.each k d inside).2 in
          record { prefix = is.prefix; begun = is.begun; room = omega (arith, is.room, few) }

  -- the way that goes on from the first step, as one from its start
  pub way_from_step : (set : PairSet) (left : ℕ) (s : Step) → IsFirstStep v set (left + 1) low high at s → (before new : List ℕ) (pair : ℕ × ℕ) → before ≡ []
      → ((tail : List ℕ) × (new ≡ (before ++ s.process ∷ []) ++ tail)
      × IsFirstWay v.sets.now.table.now v.raw.now v.process set left 0 (length v.raw.now.operations) s.prefix.used s.prefix.state.0 s.prefix.seen tail pair)
      → IsFirstWay v.sets.now.table.now v.raw.now v.process set (left + 1) low high at.used at.state.0 at.seen new pair
  way_from_step set left s is before new pair e h =
      let back : left ≡ left + 1 - 1 = omega arith in
      let rest = subst (λ (k : ℕ). IsFirstWay v.sets.now.table.now v.raw.now v.process set k 0 (length v.raw.now.operations) s.prefix.used s.prefix.state.0 s.prefix.seen h.0 pair) back h.2 in
      let whole = leads_on v.sets.now.table.now v.raw.now v.process set (left + 1) low high at.used at.state.0 at.seen s.process (omega arith) is.step.inside is.from is.upto is.step.free is.earlier
      s.prefix.used s.prefix.state.0 s.prefix.seen is.step.used is.step.state is.step.seen before (before ++ s.process ∷ []) new pair (length v.raw.now.operations) refl refl (h.0, h.1, rest) in
      let order = whole.1 ∙ ap (λ (xs : List ℕ). xs ++ whole.0) e in
      subst (λ (xs : List ℕ). IsFirstWay v.sets.now.table.now v.raw.now v.process set (left + 1) low high at.used at.state.0 at.seen xs pair) (sym order) whole.2

-- at the start each process can move
pub start_room : (v : View) (p : Prefix) → IsStart v p → moves_left p ≡ length v.raw.now.operations
start_room v p is = ap (λ (s : Option ℕ). room_of s p.size) is.seen ∙ is.size

-- each first way to go on from here ends one from the first prefix, behind the processes so far
abbrev pub GoesOn : View → PairSet → ℕ → Prefix → List ℕ → ℕ → Prefix → List ℕ → Type 0
GoesOn v set left at here size first start = (tail : List ℕ) (pair : ℕ × ℕ)
    → IsFirstWay v.sets.now.table.now v.raw.now v.process set left 0 (length v.raw.now.operations) at.used at.state.0 at.seen tail pair
    → (whole : List ℕ) × (here ++ tail ≡ start ++ whole)
    × IsFirstWay v.sets.now.table.now v.raw.now v.process set size 0 (length v.raw.now.operations) first.used first.state.0 first.seen whole pair

module _ (v : View) (set : PairSet) (size : ℕ) (first : Prefix) (start : List ℕ) where
  pub goes_start : (left : ℕ) (here : List ℕ) → left ≡ size → here ≡ start → GoesOn v set left first here size first start
  goes_start left here e f tail pair way = (
    tail,
    ap (λ (xs : List ℕ). xs ++ tail) f,
    subst (λ (k : ℕ). IsFirstWay v.sets.now.table.now v.raw.now v.process set k 0 (length v.raw.now.operations) first.used first.state.0 first.seen tail pair) e way,
  )

  -- by one more process
  pub goes_more : (left high : ℕ) (at : Prefix) (here : List ℕ) → 1 ≤ left → high ≡ length v.raw.now.operations → (s : Step) → IsFirstStep v set left 0 high at s → (more : List ℕ)
      → more ≡ here ++ s.process ∷ []
      → GoesOn v set left at here size first start → (after : ℕ) → after ≡ left - 1 → GoesOn v set after s.prefix more size first start
  goes_more left high at here some every s is more e goes after less tail pair way =
      let rest = subst (λ (k : ℕ). IsFirstWay v.sets.now.table.now v.raw.now v.process set k 0 (length v.raw.now.operations) s.prefix.used s.prefix.state.0 s.prefix.seen tail pair) less way in
      let on = leads_on v.sets.now.table.now v.raw.now v.process set left 0 high at.used at.state.0 at.seen s.process some is.step.inside is.from is.upto is.step.free is.earlier
      s.prefix.used s.prefix.state.0 s.prefix.seen is.step.used is.step.state is.step.seen here more (more ++ tail) pair (length v.raw.now.operations) refl e (tail, refl, rest) in
      let all = goes on.0 pair (subst (λ (n : ℕ). IsFirstWay v.sets.now.table.now v.raw.now v.process set left 0 n at.used at.state.0 at.seen on.0 pair) every on.2) in
      (all.0, on.1 ∙ all.1, all.2)
