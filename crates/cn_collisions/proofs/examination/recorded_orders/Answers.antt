use Rattle.std.proofs.Common.{ℕ, IfNone, List, ◌≡◌, ◌∙◌, ap, arith, length, subst, sym}
use Rattle.cn_choice.specs.RawChoices.{IsRawChoice, RawChoice}
use Rattle.cn_stocks.specs.Words.{times}
use Rattle.cn_choice.specs.Discerning.{IsWitness}
use Rattle.cn_collisions.proofs.examination.recorded_orders.Goals as goal

pub raw_collision-requires : goal.raw_collision-requires
raw_collision-requires c =
    let s = c.args.sets.now in
    let t = s.table.now in
    let raw = c.of-raw.result in
    let fits = c.requires.fits in
    let number : s.n ≡ length raw.operations = sym (ap (λ (r : RawChoice). length r.operations) c.of-raw.ensures ∙ fits.one_operation_each) in
    let place = c.place_of-place.ensures in
    record {
      sets_are = c.requires.sets;
      number = number;
      fits = subst (λ (k : ℕ). IsRawChoice t k raw) number (subst (λ (r : RawChoice). IsRawChoice t s.n r) (sym c.of-raw.ensures) fits);
      same = c.of-raw.ensures;
      stock = place.0;
      stands = place.1;
      all = λ o. omega (arith, place.2 o, ap (λ (xs : List ℕ). times o xs) c.as_slice.ensures.value, ap (λ (r : RawChoice). times o r.operations) c.raw.view_is);
    }

pub returns-clause-none : goal.returns-clause-none
returns-clause-none c = subst (λ (raw : RawChoice). IfNone c.raw_collision.result (IsWitness c.args.sets.now.table.now raw)) c.of-raw.ensures c.raw_collision.ensures.none
