use Rattle.std.proofs.Common.{Global, List, ◌≤◌, ℕ, ◌+◌, ◌≡◌, ◌-◌, ◌<◌, ◌↔◌, ◌⊎◌, inl, inr, Option, arith, length, slice_index, sym, subst}
use Rattle.std.specs.Prelude.{IsBitSet, MatchOption}
use Rattle.std.specs.declared.vec.Vec.{Vec}
use Rattle.cn_collisions.specs.declared.word_sets.Ends.{Ends}
use Rattle.cn_collisions.specs.declared.word_sets.Shown.{Shown}
use Rattle.cn_collisions.specs.Levels.{AreAllSets}
use Rattle.cn_collisions.specs.WordSets.{IsEnds, IsShown}
use Rattle.cn_stocks.specs.Pairs.{Has}
use Rattle.cn_collisions.specs.Exact.{ShowsAfter, ShowsUpTo}
use Rattle.cn_collisions.specs.Views.{room_of}
use Rattle.cn_collisions.specs.Ways.{WayTo}
use Rattle.cn_collisions.proofs.WayWords.{ends_way, shows_way, way_ends, way_shows}
use Rattle.cn_collisions.proofs.view.View.add_pairs_of_ways.Goals as goal

pub at-ends-requires-clause-sets : goal.at-ends-requires-clause-sets
at-ends-requires-clause-sets c =
    let s = c.args.self.now.sets.now in
    let view = c.requires.view in (
      s.n,
      omega (arith, c.requires.prefix.few, view.number),
      subst (λ (xs : List (Vec Ends Global)). AreAllSets (IsEnds s.table.now) s.stocks.items s.n xs) (sym c.deref.ensures.value) view.sets_are.ends_are,
    )

pub ever-set-requires : goal.ever-set-requires
ever-set-requires c = omega (arith, c.requires.prefix.known, c.states-states.ensures.number, c.states-states.ensures.range.1)

pub at-shown-requires-clause-sets : goal.at-shown-requires-clause-sets
at-shown-requires-clause-sets c =
    let s = c.args.self.now.sets.now in
    let view = c.requires.view in
    let at = c.args.prefix in
    let begun = subst (λ (seen : Option ℕ). room_of seen at.size + 1 ≤ length c.args.self.now.raw.now.operations) c.in-None.is c.requires.begun in (
      s.n - 1,
      omega (arith, begun, view.number),
      subst (λ (xs : List (Vec Shown Global)). AreAllSets (IsShown s.table.now) s.stocks.items (s.n - 1) xs) (sym c.deref-in-None.ensures.value) view.sets_are.shown_are,
    )

pub ever-all-requires : goal.ever-all-requires
ever-all-requires c =
    let is = c.requires.prefix in
    record {
      t = c.args.self.now.sets.now.table.now;
      m = c.args.prefix.size;
      stock = is.stock;
      shown_are = c.at-shown.ensures is.stock is.stands;
      count = omega arith;
      asked = c.operation-asked.ensures.known;
      known = is.known;
    }

pub returns-in-Some : goal.returns-in-Some
returns-in-Some c r q =
    let v = c.args.self.now in
    let t = v.sets.now.table.now in
    let at = c.args.prefix in
    let is = c.requires.prefix in
    let n = length v.raw.now.operations in
    let moved = subst (λ (s : Option ℕ). MatchOption s (¬ IsBitSet at.used v.process) (λ r. IsBitSet at.used v.process)) c.in-Some.is is.told in
    let room : at.size + 1 ≡ n = subst (λ (s : Option ℕ). room_of s at.size + 1 ≡ n) c.in-Some.is c.requires.room in
    let ends = c.ever-set.ensures t at.size is.stock (c.at-ends.ensures is.stock is.stands) is.known q in
    let added = c.add_states.ensures r q in
    let old = Has c.args.pairs.now r q in
    subst (λ (s : Option ℕ). Has c.add_states.new.self r q ↔ (old ⊎ ((k : ℕ) × (k < n) × WayTo t v.raw.now v.process k at.used at.state.0 s r q))) (sym c.in-Some.is) (
      λ h. elim (added.0 h) [
        | inl a ↦ inl a
        | inr b ↦ inr (let e = ends.0 b.1 in (e.0, omega (arith, e.1, room), ends_way v.raw.now v.process t at.used at.state.0 is.stock is.rest moved c.in-Some.response e.0 r q (sym b.0) e.2))
      ],
      λ h. elim h [
        | inl a ↦ added.1 (inl a)
        | inr w ↦ (let e = way_ends v.raw.now v.process t at.used at.state.0 is.stock is.rest moved c.in-Some.response w.0 r q w.2 in
            added.1 (inr (sym e.0, ends.1 (w.0, omega (arith, w.1, room), e.1))))
      ],
    )

pub returns-in-None : goal.returns-in-None
returns-in-None c r q =
    let v = c.args.self.now in
    let t = v.sets.now.table.now in
    let at = c.args.prefix in
    let is = c.requires.prefix in
    let n = length v.raw.now.operations in
    let pairs = c.ever-all.result.now in
    let still = subst (λ (s : Option ℕ). MatchOption s (¬ IsBitSet at.used v.process) (λ r. IsBitSet at.used v.process)) c.in-None.is is.told in
    let room : at.size + 1 + 1 ≡ n = subst (λ (s : Option ℕ). room_of s at.size + 1 ≡ n) c.in-None.is c.requires.room in
    let shown = subst (λ (o : ℕ). Has pairs r q ↔ ShowsUpTo t at.state.0 is.stock o at.size r q) c.operation-asked.ensures.operation
    (c.ever-all.ensures t at.size is.stock (c.at-shown.ensures is.stock is.stands) c.operation-asked.ensures.known is.known r q) in
    let old = Has c.args.pairs.now r q in
    let added = c.add_all.ensures r q in
    subst (λ (s : Option ℕ). Has c.add_all.new.self r q ↔ (old ⊎ ((k : ℕ) × (k < n) × WayTo t v.raw.now v.process k at.used at.state.0 s r q))) (sym c.in-None.is) (
      λ h. elim (added.0 h) [
        | inl a ↦ inl a
        | inr b ↦ inr (let e = shown.0 b in (
          e.0 + 1,
          omega (arith, e.1, room),
          shows_way v.raw.now v.process t at.used at.state.0 is.stock is.rest still c.requires.view.inside (e.0 + 1) r q (omega arith)
              (subst (λ (k : ℕ). ShowsAfter t at.state.0 is.stock (slice_index v.raw.now.operations v.process) k r q) (omega arith) e.2),
        ))
      ],
      λ h. elim h [
        | inl a ↦ added.1 (inl a)
        | inr w ↦ (let e = way_shows v.raw.now v.process t at.used at.state.0 is.stock is.rest still c.requires.view.inside w.0 r q w.2 in
            added.1 (inr (shown.1 (w.0 - 1, omega (arith, w.1, room, e.0), e.1))))
      ],
    )
