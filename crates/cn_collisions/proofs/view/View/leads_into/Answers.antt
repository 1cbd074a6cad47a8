use Rattle.std.proofs.Common.{Global, List, ◌+◌, length, ℕ, ◌-◌, ◌≤◌, ◌↔◌, Option, IsTrue, arith, refl, sym, subst, true≢false}
use Rattle.std.specs.Prelude.{IsBitSet, MatchOption}
use Rattle.std.specs.declared.vec.Vec.{Vec}
use Rattle.cn_collisions.specs.declared.word_sets.Ends.{Ends}
use Rattle.cn_collisions.specs.declared.word_sets.Shown.{Shown}
use Rattle.cn_collisions.specs.Levels.{AreAllSets}
use Rattle.cn_collisions.specs.WordSets.{IsEnds, IsShown}
use Rattle.cn_stocks.specs.Pairs.{Has}
use Rattle.cn_collisions.specs.Exact.{ShowsAfter}
use Rattle.cn_collisions.specs.Views.{room_of}
use Rattle.cn_collisions.specs.Ways.{WayTo}
use Rattle.cn_collisions.proofs.WayWords.{ends_way, shows_way, way_ends, way_shows}
use Rattle.cn_collisions.proofs.view.View.leads_into.Goals as goal

pub at-ends-requires-clause-sets : goal.at-ends-requires-clause-sets
at-ends-requires-clause-sets c =
    let s = c.args.self.now.sets.now in
    let view = c.requires.view in (
      s.n,
      omega (arith, c.requires.prefix.few, view.number),
      subst (λ (xs : List (Vec Ends Global)). AreAllSets (IsEnds s.table.now) s.stocks.items s.n xs) (sym c.deref.ensures.value) view.sets_are.ends_are,
    )

pub after-set-requires : goal.after-set-requires
after-set-requires c =
    let is = c.requires.prefix in
    record {
      t = c.args.self.now.sets.now.table.now;
      m = c.args.prefix.size;
      stock = is.stock;
      ends_are = c.at-ends.ensures is.stock is.stands;
      count = subst (λ (seen : Option ℕ). c.args.left ≤ room_of seen c.args.prefix.size) c.in-Some.is c.requires.left;
      small = omega (arith, is.known, c.states-states.ensures.number, c.states-states.ensures.range.1);
    }

pub at-shown-requires-clause-sets : goal.at-shown-requires-clause-sets
at-shown-requires-clause-sets c =
    let s = c.args.self.now.sets.now in
    let view = c.requires.view in
    let at = c.args.prefix in
    let begun = subst (λ (seen : Option ℕ). room_of seen at.size + 1 ≤ length c.args.self.now.raw.now.operations) c.in-None-2.is c.requires.begun in (
      s.n - 1,
      omega (arith, begun, view.number),
      subst (λ (xs : List (Vec Shown Global)). AreAllSets (IsShown s.table.now) s.stocks.items (s.n - 1) xs) (sym c.deref-in-None-2.ensures.value) view.sets_are.shown_are,
    )

pub after-found-requires : goal.after-found-requires
after-found-requires c =
    let is = c.requires.prefix in
    let left = subst (λ (seen : Option ℕ). c.args.left ≤ room_of seen c.args.prefix.size) c.in-None-2.is c.requires.left in
    record {
      t = c.args.self.now.sets.now.table.now;
      m = c.args.prefix.size;
      stock = is.stock;
      shown_are = c.at-shown.ensures is.stock is.stands;
      count = omega (arith, left);
      asked = c.operation-asked.ensures.known;
      known = is.known;
    }

pub returns-in-Some : goal.returns-in-Some
returns-in-Some c =
    let v = c.args.self.now in
    let t = v.sets.now.table.now in
    let at = c.args.prefix in
    let is = c.requires.prefix in
    let target = c.args.target.now in
    let moved = subst (λ (s : Option ℕ). MatchOption s (¬ IsBitSet at.used v.process) (λ r. IsBitSet at.used v.process)) c.in-Some.is is.told in
    let count = subst (λ (seen : Option ℕ). c.args.left ≤ room_of seen at.size) c.in-Some.is c.requires.left in
    let ends = c.after-set.ensures t at.size is.stock (c.at-ends.ensures is.stock is.stands) count is.known in
    subst (λ (s : Option ℕ). IsTrue c.has_some.result ↔ ((r : ℕ) × ((q : ℕ) × WayTo t v.raw.now v.process c.args.left at.used at.state.0 s r q × Has target r q))) (sym c.in-Some.is) (
      λ h. (let some = c.has_some.ensures.0 h in (
        c.in-Some.response,
        (
          some.0,
          ends_way v.raw.now v.process t at.used at.state.0 is.stock is.rest moved c.in-Some.response c.args.left c.in-Some.response some.0 refl
              ((ends some.0).0 some.2),
          some.1,
        ),
      )),
      λ h. (let e = way_ends v.raw.now v.process t at.used at.state.0 is.stock is.rest moved c.in-Some.response c.args.left h.0 h.1.0 h.1.1 in
          c.has_some.ensures.1 (h.1.0, subst (λ (r : ℕ). Has target r h.1.0) (sym e.0) h.1.2, (ends h.1.0).1 e.1)),
    )

pub returns-in-None : goal.returns-in-None
returns-in-None c =
    let v = c.args.self.now in
    let t = v.sets.now.table.now in
    let at = c.args.prefix in
    let is = c.requires.prefix in
    let still = subst (λ (s : Option ℕ). MatchOption s (¬ IsBitSet at.used v.process) (λ r. IsBitSet at.used v.process)) c.in-None.is is.told in (
      λ h. absurd (true≢false (sym h)),
      λ h. absurd (let e = way_shows v.raw.now v.process t at.used at.state.0 is.stock is.rest still c.requires.view.inside c.args.left h.0 h.1.0
          (subst (λ (s : Option ℕ). WayTo t v.raw.now v.process c.args.left at.used at.state.0 s h.0 h.1.0) c.in-None.is h.1.1) in omega (arith, e.0, c.if-left-eq0.true)),
    )

pub returns-in-None-2 : goal.returns-in-None-2
returns-in-None-2 c =
    let v = c.args.self.now in
    let t = v.sets.now.table.now in
    let at = c.args.prefix in
    let is = c.requires.prefix in
    let target = c.args.target.now in
    let pairs = c.after-found.result.now in
    let left = subst (λ (seen : Option ℕ). c.args.left ≤ room_of seen at.size) c.in-None-2.is c.requires.left in
    let still = subst (λ (s : Option ℕ). MatchOption s (¬ IsBitSet at.used v.process) (λ r. IsBitSet at.used v.process)) c.in-None-2.is is.told in
    let shown : (r q : ℕ) → Has pairs r q ↔ ShowsAfter t at.state.0 is.stock _ (c.args.left - 1) r q =
    λ r q. subst (λ (o : ℕ). Has pairs r q ↔ ShowsAfter t at.state.0 is.stock o (c.args.left - 1) r q) c.operation-asked.ensures.operation
    (c.after-found.ensures t at.size is.stock (c.at-shown.ensures is.stock is.stands) (omega (arith, left)) c.operation-asked.ensures.known is.known r q) in
    let some : 1 ≤ c.args.left = omega (arith, c.if-left-eq0.false) in
    subst (λ (s : Option ℕ). IsTrue c.meets.result ↔ ((r : ℕ) × ((q : ℕ) × WayTo t v.raw.now v.process c.args.left at.used at.state.0 s r q × Has target r q))) (sym c.in-None-2.is) (
      λ h. (let both = c.meets.ensures.0 h in (
        both.0,
        (
          both.1.0,
          shows_way v.raw.now v.process t at.used at.state.0 is.stock is.rest still c.requires.view.inside c.args.left both.0 both.1.0 some
              ((shown both.0 both.1.0).0 both.1.1),
          both.1.2,
        ),
      )),
      λ h. (let e = way_shows v.raw.now v.process t at.used at.state.0 is.stock is.rest still c.requires.view.inside c.args.left h.0 h.1.0 h.1.1 in
          c.meets.ensures.1 (h.0, (h.1.0, (shown h.0 h.1.0).1 e.1, h.1.2))),
    )
