use Rattle.std.proofs.lemmas.Option.{none-some}
use Rattle.std.proofs.Common.{ℕ, ◌≡◌, ◌<◌, ◌≤◌, ◌++◌, ◌∷◌, ◌∙◌, List, [], Option, Some, None, arith, ap, get_or, inl, inr, length, length-set, refl, subst, sym}
use Rattle.std.specs.Prelude.{slice_index, slice_index_or}
use Rattle.cn_stocks.specs.Stocks.{HasLess}
use Rattle.cn_stocks.specs.Words.{times}
use Rattle.cn_outcomes.proofs.Packing.{below_or_last}
use Rattle.cn_stocks.proofs.Growing.{eight_nones, links_of_child, set_none, set_some}
use Rattle.cn_stocks.proofs.StockLemmas.{items_of, items_within, less_of_child, no_less, read_stock, same_items}
use Rattle.cn_stocks.proofs.stocks.Stocks.less_with.Goals as goal
use Rattle.cn_stocks.proofs.stocks.Stocks.less_with.Goals.{in-Some, in_default}

pub loop-other-init : goal.loop-other-init
loop-other-init c = record {
  long = refl;
  some = λ items at x j e. absurd (none-some j (sym (eight_nones x) ∙ e));
  none = λ items at x l e. absurd (omega (arith, l));
}

pub child_place-requires-clause-place : goal.child_place-requires-clause-place
child_place-requires-clause-place c =
    let stocks = c.args.self.now.list.items in
    let place = c.args.place in
    let all = c.requires.all.1 in
    let s = c.index-stock.result.now in
    let inside : place < length stocks = omega (arith, c.requires.place, c.args.self.now.list.ok.0) in
    let less = (all.stocks place s (read_stock stocks place s inside c.index-stock.ensures)).smaller.some c.loop-other.other c.in-Some.rest c.in-Some.is in
    omega (arith, items_within c.requires.all.0 c.in-Some.rest less.0 less.1, all.count, ap length c.as_slice-children.ensures.value)

pub loop-other-preserved : goal.loop-other-preserved
loop-other-preserved c =
    let stocks = c.args.self.now.list.items in
    let place = c.args.place in
    let all = c.requires.all.1 in
    let s = c.index-stock.result.now in
    let inside : place < length stocks = omega (arith, c.requires.place, c.args.self.now.list.ok.0) in
    let here = read_stock stocks place s inside c.index-stock.ensures in
    let is = all.stocks place s here in
    let k = c.loop-other.other in
    let i = c.loop-other.invariant in
    let children = c.args.self.now.children.items in
    elim c.match-stock-other.branch [
      | in-Some w ↦ (
          let less = is.smaller.some k w.in-Some.rest w.in-Some.is in
          let child : w.child_place.result ≡ slice_index (slice_index_or children w.in-Some.rest []) c.args.operation =
          w.child_place.ensures ∙ ap (λ (rows : List (List ℕ)). slice_index (slice_index_or rows w.in-Some.rest []) c.args.operation) c.as_slice-children.ensures.value in
          let room : k < length c.loop-other.less = omega (arith, i.long, c.loop-other-test.true, c.requires.few) in
          record {
            long = ap length w.less-is ∙ (length-set c.loop-other.less k (Some w.child_place.result) ∙ i.long);
            some = λ items at x j e.
                let same = same_items stocks place s.operations.items items (items_of stocks place s here) at in
                let first = less_of_child c.args.operations c.args.operation c.requires.all.0 stocks children s.operations.items k w.in-Some.rest all.children all.count c.requires.operation
                (c.requires.up_to s.operations.items (items_of stocks place s here)) less in
                set_some (HasLess stocks (items ++ c.args.operation ∷ [])) c.loop-other.less k w.child_place.result room
                (subst (λ (v : ℕ). HasLess stocks (items ++ c.args.operation ∷ []) k v) (sym child)
                (subst (λ (list : List ℕ). HasLess stocks (list ++ c.args.operation ∷ []) k (slice_index (slice_index_or children w.in-Some.rest []) c.args.operation)) same first))
                (i.some items at) x j (sym (ap (λ (l : List (Option ℕ)). get_or l x None) w.less-is) ∙ e);
            none = λ items at x l e.
                let r = set_none c.loop-other.less k w.child_place.result x room (sym (ap (λ (l : List (Option ℕ)). get_or l x None) w.less-is) ∙ e) in
                elim (below_or_last x k l) [ inl u ↦ i.none items at x u r.1 | inr same ↦ absurd (r.0 same) ];
          }
          )
      | in_default w ↦ record {
        long = ap length w.less-is ∙ i.long;
        some = λ items at x j e. i.some items at x j (sym (ap (λ (l : List (Option ℕ)). get_or l x None) w.less-is) ∙ e);
        none = λ items at x l e. elim (below_or_last x k l) [
          | inl u ↦ i.none items at x u (sym (ap (λ (l : List (Option ℕ)). get_or l x None) w.less-is) ∙ e)
          | inr same ↦ (
              let list = same_items stocks place s.operations.items items (items_of stocks place s here) at in
              subst (λ (list : List ℕ). times x list ≡ 0) list
              (subst (λ (y : ℕ). times y s.operations.items ≡ 0) (sym same) (no_less c.requires.all.0 s.operations.items s.less is.smaller k w.in_default.not-Some))
              )
        ];
      }
    ]

pub returns : goal.returns
returns c items at =
    let stocks = c.args.self.now.list.items in
    let place = c.args.place in
    let all = c.requires.all.1 in
    let s = c.index-stock.result.now in
    let inside : place < length stocks = omega (arith, c.requires.place, c.args.self.now.list.ok.0) in
    let here = read_stock stocks place s inside c.index-stock.ensures in
    let is = all.stocks place s here in
    let i = c.loop-other.invariant in
    let list = same_items stocks place s.operations.items items (items_of stocks place s here) at in
    let room : c.args.operation < length c.loop-other.less = omega (arith, i.long, c.requires.operation, c.requires.few) in
    links_of_child c.args.operations c.args.operation stocks place items c.loop-other.less at (λ o l. is.known o (subst (λ (all : List ℕ). 1 ≤ times o all) (sym list) l)) room
    (i.some items at) (λ x l e. i.none items at x (omega (arith, l, c.loop-other-test.false)) e)
