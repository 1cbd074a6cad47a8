use Rattle.std.proofs.Common.{ℕ, ap, ◌∷◌, ◌≤◌, arith, refl, subst, sym}
use Rattle.std.specs.Prelude.{slice_index}
use Rattle.cn_choice.specs.RawChoices.{RawChoice}
use Rattle.cn_outcomes.proofs.LastProcess.{zero_has_none}
use Rattle.cn_stocks.specs.Words.{HaveSame, times}
use Rattle.cn_stocks.proofs.Times.{same_trans, times_of_place}
use Rattle.cn_collisions.proofs.WayWords.{rest_first}
use Rattle.cn_collisions.proofs.examination.asked_of.Goals as goal

pub less-place-requires-clause-stock : goal.less-place-requires-clause-stock
less-place-requires-clause-stock c =
    let s = c.args.subject.now in
    let is = c.requires.subject in
    let p = c.args.process in
    let o = slice_index s.raw.now.operations p in
    let has : 1 ≤ times o is.stock = omega (arith, times_of_place s.raw.now.operations p c.requires.process, is.all o) in
    (is.stock, is.stands, subst (λ (x : ℕ). 1 ≤ times x is.stock) (sym c.operation-operation.ensures.operation) has)

pub returns-clause-asked : goal.returns-clause-asked
returns-clause-asked c =
    let s = c.args.subject.now in
    let is = c.requires.subject in
    let raw = s.raw.now in
    let p = c.args.process in
    let less = c.less-place.ensures is.stock is.stands in
    let same = subst (λ (o : ℕ). HaveSame is.stock (o ∷ less.1.0)) c.operation-operation.ensures.operation less.1.1 in
    let whole : HaveSame raw.operations (slice_index raw.operations p ∷ less.1.0) = same_trans raw.operations is.stock (slice_index raw.operations p ∷ less.1.0) is.all same in
    record {
      view = record { sets_are = is.sets_are; number = is.number; fits = is.fits; inside = c.requires.process };
      same = is.same;
      start = record {
        prefix = record {
          stock = less.1.0;
          stands = less.1.2;
          rest = rest_first raw p less.1.0 c.requires.process whole;
          few = omega (arith, is.number, less.0);
          told = zero_has_none p;
          known = omega (arith, ap (λ (r : RawChoice). r.state) c.raw.view_is, is.fits.state_known);
          answer = tt;
        };
        used = refl;
        seen = refl;
        state = omega (arith, ap (λ (r : RawChoice). r.state) c.raw.view_is);
        size = omega (arith, is.number, less.0);
      };
    }
