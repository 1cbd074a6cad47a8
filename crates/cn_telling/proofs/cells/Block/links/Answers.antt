use Rattle.std.proofs.lemmas.Option.{none-some}
use Rattle.std.proofs.Common.{ℕ, ◌≡◌, ◌≢◌, ◌+◌, ◌<◌, ◌≤◌, ◌++◌, ◌∷◌, ◌∙◌, List, [], Option, Some, None, arith, ap, get_or, inl, inr, length, length-set, refl, subst, sym, get_or-set_other}
use Rattle.cn_stocks.specs.Stocks.{HasLess}
use Rattle.cn_stocks.specs.Words.{times}
use Rattle.cn_outcomes.proofs.Packing.{below_or_last}
use Rattle.cn_stocks.proofs.Growing.{eight_nones, set_none, set_some}
use Rattle.cn_stocks.proofs.StockLemmas.{items_of, no_less, read_stock, same_items}
use Rattle.cn_telling.proofs.CellLemmas.{less_of_next, links_of_next}
use Rattle.cn_telling.proofs.cells.Block.links.Goals as goal
use Rattle.cn_telling.proofs.cells.Block.links.Goals.{in-Some, in_default}

pub loop-other-init : goal.loop-other-init
loop-other-init c = record {
  long = refl;
  some = λ items at x j e. absurd (none-some j (sym (eight_nones x) ∙ e));
  places = λ x j e. absurd (none-some j (sym (eight_nones x) ∙ e));
  none = λ items at x l n e. absurd (omega (arith, l));
}

pub loop-other-preserved-then-other-self : goal.loop-other-preserved-then-other-self
loop-other-preserved-then-other-self c =
    let i = c.loop-other.invariant in record {
      long = i.long;
      some = i.some;
      places = i.places;
      none = λ items at x l n e. elim (below_or_last x c.loop-other.other l) [ inl u ↦ i.none items at x u n e | inr same ↦ absurd (n (omega (arith, same, c.if-other-self.true))) ];
    }

pub loop-other-preserved : goal.loop-other-preserved
loop-other-preserved c =
    let list = c.args.list.now in
    let place = c.args.place in
    let b = c.args.self.now in
    let s = c.index-list-place.result in
    let under = c.requires.underway in
    let inside : place < length list = omega (arith, under.long, under.size) in
    let here = read_stock list place s inside c.index-list-place.is in
    let k = c.loop-other.other in
    let i = c.loop-other.invariant in
    let other : k ≢ b.operation = λ e. absurd (omega (arith, e, c.if-other-self.false)) in
    elim c.match-stock-other.branch [
      | in-Some w ↦ (
          let v : ℕ = w.in-Some.rest + b.size in
          let next = less_of_next b place list s k w.in-Some.rest under here other w.in-Some.is in
          let room : k < length c.loop-other.less = omega (arith, i.long, c.loop-other-test.true) in
          record {
            long = ap length w.less-is ∙ (length-set c.loop-other.less k (Some v) ∙ i.long);
            some = λ items at x j e.
                let same = same_items list place s.operations.items items (items_of list place s here) at in
                set_some (HasLess list (items ++ b.operation ∷ [])) c.loop-other.less k v room (subst (λ (all : List ℕ). HasLess list (all ++ b.operation ∷ []) k v) same next.0)
                (i.some items at) x j (sym (ap (λ (l : List (Option ℕ)). get_or l x None) w.less-is) ∙ e);
            places = λ x j e. set_some (λ x j. (b.first + b.size ≤ j) × (j < place + b.size)) c.loop-other.less k v room (next.1, next.2) i.places x j
                (sym (ap (λ (l : List (Option ℕ)). get_or l x None) w.less-is) ∙ e);
            none = λ items at x l n e.
                let r = set_none c.loop-other.less k v x room (sym (ap (λ (l : List (Option ℕ)). get_or l x None) w.less-is) ∙ e) in
                elim (below_or_last x k l) [ inl u ↦ i.none items at x u n r.1 | inr same ↦ absurd (r.0 same) ];
          }
          )
      | in_default w ↦ record {
        long = ap length w.less-is ∙ i.long;
        some = λ items at x j e. i.some items at x j (sym (ap (λ (l : List (Option ℕ)). get_or l x None) w.less-is) ∙ e);
        places = λ x j e. i.places x j (sym (ap (λ (l : List (Option ℕ)). get_or l x None) w.less-is) ∙ e);
        none = λ items at x l n e. elim (below_or_last x k l) [
          | inl u ↦ i.none items at x u n (sym (ap (λ (l : List (Option ℕ)). get_or l x None) w.less-is) ∙ e)
          | inr same ↦ (
              let all = same_items list place s.operations.items items (items_of list place s here) at in
              subst (λ (list : List ℕ). times x list ≡ 0) all
              (subst (λ (y : ℕ). times y s.operations.items ≡ 0) (sym same) (no_less list s.operations.items s.less (under.linked.stocks place s here).smaller k w.in_default.not-Some))
              )
        ];
      }
    ]

pub returns-clause-smaller : goal.returns-clause-smaller
returns-clause-smaller c items at =
    let list = c.args.list.now in
    let place = c.args.place in
    let b = c.args.self.now in
    let s = c.index-list-place.result in
    let under = c.requires.underway in
    let inside : place < length list = omega (arith, under.long, under.size) in
    let here = read_stock list place s inside c.index-list-place.is in
    let all = same_items list place s.operations.items items (items_of list place s here) at in
    let i = c.loop-other.invariant in
    let room : b.operation < length c.loop-other.less = omega (arith, i.long, under.operation) in
    links_of_next b.operation list place items c.loop-other.less at (λ o l. (under.linked.stocks place s here).known o (subst (λ (list : List ℕ). 1 ≤ times o list) (sym all) l)) room
    (i.some items at) (λ x l n e. i.none items at x (omega (arith, l, c.loop-other-test.false)) n e)

pub returns-clause-places : goal.returns-clause-places
returns-clause-places c =
    let b = c.args.self.now in
    let i = c.loop-other.invariant in
    let under = c.requires.underway in
    let room : b.operation < length c.loop-other.less = omega (arith, i.long, under.operation) in (
      λ x j n e. (i.places x j (sym (get_or-set_other c.loop-other.less b.operation x (Some c.args.place) None n) ∙ e)).0,
      λ x j e. set_some (λ x j. j < c.args.place + b.size) c.loop-other.less b.operation c.args.place room (omega (arith, under.size)) (λ x j e. (i.places x j e).1) x j e,
    )
