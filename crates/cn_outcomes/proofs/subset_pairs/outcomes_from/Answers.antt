use Rattle.std.proofs.Common.{rules, List, [], get_or-set_same, length-set, ◌∙◌, arith, ℕ, ◌≡◌, ◌<◌, ◌≤◌, ◌^◌, ◌↔◌, length, get_or, ap, sym, subst, true≢false}
use Rattle.std.proofs.Math.ListN.{set}
use Rattle.std.specs.Prelude.{IsBitSet}
use Rattle.cn_choice.specs.RawChoices.{RawChoice}
use Rattle.cn_outcomes.specs.PairSets.{Has}
use Rattle.cn_outcomes.specs.Subsets.{GivesPair}
use Rattle.cn_outcomes.specs.Twins.{IsPacked}
use Rattle.cn_outcomes.proofs.Unions.{gives_nothing, subsets_without, pairs_first, pairs_more, pairs_passed, subsets_passed, subsets_first, subsets_more, subsets_all, subsets_of}
use Rattle.cn_outcomes.proofs.subset_pairs.outcomes_from.Goals as goal

pub loop-number-init : goal.loop-number-init
loop-number-init c =
    let s = c.args.setting.now in
    let long : length c.args.pairs.now ≡ 256 = search rules in
    let first : get_or (set c.args.pairs.now 0 c.none.result) 0 [] ≡ c.none.result = get_or-set_same c.args.pairs.now 0 c.none.result [] (omega (arith, long)) in (
      pairs_first s.table.now s.choice.now s.team c.args.j s.links (set c.args.pairs.now 0 c.none.result) (length-set c.args.pairs.now 0 c.none.result ∙ long)
          (λ r q h. c.none.ensures r q (subst (λ (x : List ℕ). Has x r q) first h)),
      subsets_first s.table.now s.choice.now s.team c.args.j s.links (λ (x : ℕ × ℕ). Has c.none-all.result x.0 x.1) (λ x. c.none-all.ensures x.0 x.1),
    )

pub loop-number-preserved : goal.loop-number-preserved
loop-number-preserved c =
    let s = c.args.setting.now in
    let t = s.table.now in
    let i = c.loop-number.invariant in
    let seen = ap (λ (a : RawChoice). length a.operations) c.choice.view_is in
    let n : c.len.result ≤ 8 = omega (arith, seen, c.len.ensures.value) in
    let all = subsets_of c.len.result n in
    let l : c.loop-number.number < length c.loop-number.pairs = omega (arith, all.0, all.1, c.loop-number-test.true, i.0.long) in
    let here = subst (λ (k : ℕ). (r q : ℕ) → Has c.pairs_of-here.result r q ↔ GivesPair t s.choice.now s.team c.args.j k r q) c.of_number-subset.ensures c.pairs_of-here.ensures in (
      pairs_more t s.choice.now s.team c.args.j s.links c.loop-number.pairs c.loop-number.number c.pairs_of-here.result l i.0 here,
      subsets_more t s.choice.now s.team c.args.j s.links c.loop-number.number (λ (x : ℕ × ℕ). Has c.loop-number.all x.0 x.1) (λ (x : ℕ × ℕ). Has c.pairs_of-here.result x.0 x.1)
          (λ (x : ℕ × ℕ). Has c.union-all.result x.0 x.1)
          (subst (IsPacked s.links) c.of_number-subset.ensures (c.is_packed.ensures.0 c.if-not-is_packed.false)) i.1 (λ x. here x.0 x.1) (λ x. c.union-all.ensures x.0 x.1),
    )

pub loop-number-preserved-then-not-has : goal.loop-number-preserved-then-not-has
loop-number-preserved-then-not-has c =
    let s = c.args.setting.now in
    let t = s.table.now in
    let i = c.loop-number.invariant in
    let seen = ap (λ (a : RawChoice). length a.operations) c.choice.view_is in
    let n : c.len.result ≤ 8 = omega (arith, seen, c.len.ensures.value) in
    let all = subsets_of c.len.result n in
    let l : c.loop-number.number < length c.loop-number.pairs = omega (arith, all.0, all.1, c.loop-number-test.true, i.0.long) in
    let not : ¬ IsBitSet c.loop-number.number c.args.j = λ m. true≢false (sym (c.has.ensures.1 (subst (λ (k : ℕ). IsBitSet k c.args.j) (sym c.of_number-subset.ensures) m)) ∙ c.if-not-has.true) in (
      pairs_more t s.choice.now s.team c.args.j s.links c.loop-number.pairs c.loop-number.number c.none-then-not-has.result l i.0
          (gives_nothing t s.choice.now s.team c.args.j s.links c.loop-number.number c.none-then-not-has.result not c.none-then-not-has.ensures),
      subsets_without t s.choice.now s.team c.args.j s.links c.loop-number.number (λ (x : ℕ × ℕ). Has c.loop-number.all x.0 x.1) not i.1,
    )

pub returns : goal.returns
returns c r q =
    let s = c.args.setting.now in
    let seen = ap (λ (a : RawChoice). length a.operations) c.choice.view_is in
    let same : c.len.result ≡ length s.choice.now.operations = omega (arith, seen, c.len.ensures.value) in
    let n : c.len.result ≤ 8 = omega (arith, same) in
    let all = subsets_of c.len.result n in
    let e : c.loop-number.number ≡ 2 ^ c.len.result = omega (arith, all.0, all.2, c.loop-number-test.false, c.loop-number.auto.number-end) in
    subsets_all s.table.now s.choice.now s.team c.args.j s.links c.requires.setting.linked c.requires.first c.requires.setting.few c.loop-number.number (λ (x : ℕ × ℕ). Has c.loop-number.all x.0 x.1)
    (cc (e, ap (λ (k : ℕ). 2 ^ k) same)) c.loop-number.invariant.1 (r, q)

pub loop-number-preserved-then-not-is_packed : goal.loop-number-preserved-then-not-is_packed
loop-number-preserved-then-not-is_packed c =
    let s = c.args.setting.now in
    let i = c.loop-number.invariant in
    let not : ¬ IsPacked s.links c.loop-number.number = λ p. true≢false (sym (c.is_packed.ensures.1 (subst (IsPacked s.links) (sym c.of_number-subset.ensures) p)) ∙ c.if-not-is_packed.true) in (
      pairs_passed s.table.now s.choice.now s.team c.args.j s.links c.loop-number.pairs c.loop-number.number not i.0,
      subsets_passed s.table.now s.choice.now s.team c.args.j s.links c.loop-number.number (λ (x : ℕ × ℕ). Has c.loop-number.all x.0 x.1) not i.1,
    )

pub pairs_of-here-requires-clause-rows : goal.pairs_of-here-requires-clause-rows
pairs_of-here-requires-clause-rows c =
    let s = c.args.setting.now in
    let seen = ap (λ (a : RawChoice). length a.operations) c.choice.view_is in
    let same : c.len.result ≡ length s.choice.now.operations = omega (arith, seen, c.len.ensures.value) in
    let all = subsets_of c.len.result (omega (arith, same)) in
    let e : 2 ^ c.len.result ≡ 2 ^ length s.choice.now.operations = ap (λ (k : ℕ). 2 ^ k) same in
    let number = c.of_number-subset.ensures in
    let inside : c.of_number-subset.result < 2 ^ length s.choice.now.operations = omega (arith, all.0, e, number, c.loop-number-test.true) in
    record {
      small = omega (arith, all.0, all.1, number, c.loop-number-test.true);
      inside = inside;
      packed = c.is_packed.ensures.0 c.if-not-is_packed.false;
      before = record {
        same = λ k l p. c.requires.rows.same k (omega (arith, l, inside)) p;
        known = λ k l p. c.requires.rows.known k (omega (arith, l, inside)) p;
        long = c.requires.rows.long;
      };
    }

pub pairs_of-here-requires-clause-pairs : goal.pairs_of-here-requires-clause-pairs
pairs_of-here-requires-clause-pairs c = rw c.of_number-subset.ensures c.loop-number.invariant.0
