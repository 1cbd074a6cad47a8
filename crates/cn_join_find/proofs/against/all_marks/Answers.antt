use Rattle.std.proofs.Common.{ℕ, ◌≡◌, ◌∙◌, List, Some, ap, arith, length, refl, subst, sym, false, true≢false}
use Rattle.std.specs.Prelude.{slice_get}
use Rattle.std.proofs.lemmas.Option.{none-some}
use Rattle.cn_stocks.specs.declared.stocks.Stock.{Stock}
use Rattle.cn_stocks.proofs.StockLemmas.{count_push, read_stock}
use Rattle.cn_stocks.proofs.Zips.{zip_long}
use Rattle.cn_telling.specs.Levels.{AreStarts}
use Rattle.cn_telling.proofs.CandidateLemmas.{search_long}
use Rattle.cn_join_find.proofs.MarkLemmas.{marks_more, marks_push}
use Rattle.cn_join_find.proofs.SearchLemmas.{above_of}
use Rattle.cn_join_find.proofs.ReachLemmas.{all_more, more_trans, none_more}
use Rattle.cn_join_find.proofs.against.all_marks.Goals as goal

pub loop-place-init : goal.loop-place-init
loop-place-init c = record {
  more = none_more c.args.table.now c.args.start c.args.joins.now.items;
  are = c.requires.joins;
  count = ap length c.in_ok-all.ensures.items;
  marked = record { connect = λ i s at mark differ. absurd (none-some _ (sym (ap (λ l. slice_get l i) c.in_ok-all.ensures.items) ∙ mark)) };
}

pub bounds-starts-place : goal.bounds-starts-place
bounds-starts-place c =
    let search = c.args.search.now in
    let fit : Stock → ℕ → Type 0 = λ stock starts. AreStarts c.args.table.now stock.operations.items starts in
    let long = zip_long fit search.stocks.list.items search.starts.items c.requires.search.starts in
    omega (arith, c.loop-place-test.true, long, ap length c.as_slice-stocks.ensures.value, ap length c.as_slice-starts.ensures.value)

pub rows_differ-requires : goal.rows_differ-requires
rows_differ-requires c =
    let search = c.args.search.now in
    let i = c.loop-place.place in
    let s = c.index-stocks-place.result in
    let list = c.as_slice-stocks.result.now in
    let here = subst (λ (l : List Stock). slice_get l i ≡ Some s) c.as_slice-stocks.ensures.value (read_stock list i s (omega (arith, c.loop-place-test.true)) c.index-stocks-place.is) in
    (search.below.stocks.list.items, c.requires.search.stocks.stocks i s here)

pub is_left-requires-clause-above : goal.is_left-requires-clause-above
is_left-requires-clause-above c =
    let t = c.args.table.now in
    let search = c.args.search.now in
    let i = c.loop-place.place in
    let s = c.index-stocks-place.result in
    let list = c.as_slice-stocks.result.now in
    let here = subst (λ (l : List Stock). slice_get l i ≡ Some s) c.as_slice-stocks.ensures.value (read_stock list i s (omega (arith, c.loop-place-test.true)) c.index-stocks-place.is) in
    above_of t c.args.n search c.requires.search c.args.start c.args.joins.now.items c.loop-place.joins.items c.args.marks.now _ i s c.loop-place.invariant.more c.requires.marks
    c.as_slice.ensures.value refl here (c.rows_differ.ensures.0 c.if-not-rows_differ.false)

pub is_left-requires-clause-some : goal.is_left-requires-clause-some
is_left-requires-clause-some c =
    let search = c.args.search.now in
    let i = c.loop-place.place in
    let s = c.index-stocks-place.result in
    let list = c.as_slice-stocks.result.now in
    let here = subst (λ (l : List Stock). slice_get l i ≡ Some s) c.as_slice-stocks.ensures.value (read_stock list i s (omega (arith, c.loop-place-test.true)) c.index-stocks-place.is) in
    omega (arith, search_long c.args.table.now c.args.n search i s c.requires.search here, c.requires.some)

-- a stock whose rows do not differ
pub loop-place-preserved-then-not-rows_differ : goal.loop-place-preserved-then-not-rows_differ
loop-place-preserved-then-not-rows_differ c =
    let t = c.args.table.now in
    let i = c.loop-place.place in
    let s = c.index-stocks-place.result in
    let list = c.as_slice-stocks.result.now in
    let stocks = c.args.search.now.stocks.list.items in
    let here = subst (λ (l : List Stock). slice_get l i ≡ Some s) c.as_slice-stocks.ensures.value (read_stock list i s (omega (arith, c.loop-place-test.true)) c.index-stocks-place.is) in
    let v = c.loop-place.invariant in
    let all = c.loop-place.all.items in
    let pushed = c.in_ok-push.ensures.items in
    record {
      more = v.more;
      are = v.are;
      count = count_push all c.push.new.self.items false i pushed v.count;
      marked = marks_push t c.args.start c.loop-place.joins.items stocks all c.push.new.self.items s false pushed (subst (λ (n : ℕ). slice_get stocks n ≡ Some s) (sym v.count) here)
          (λ mark differ. absurd (true≢false (sym (c.rows_differ.ensures.1 differ) ∙ c.if-not-rows_differ.true))) v.marked;
    }

pub loop-place-preserved : goal.loop-place-preserved
loop-place-preserved c =
    let t = c.args.table.now in
    let start = c.args.start in
    let i = c.loop-place.place in
    let s = c.index-stocks-place.result in
    let list = c.as_slice-stocks.result.now in
    let stocks = c.args.search.now.stocks.list.items in
    let here = subst (λ (l : List Stock). slice_get l i ≡ Some s) c.as_slice-stocks.ensures.value (read_stock list i s (omega (arith, c.loop-place-test.true)) c.index-stocks-place.is) in
    let v = c.loop-place.invariant in
    let old = c.loop-place.joins.items in
    let new = c.is_left.new.joins.items in
    let told = c.in_ok-mark.ensures in
    let all = c.loop-place.all.items in
    let pushed = c.in_ok-push-2.ensures.items in
    record {
      more = more_trans t start c.args.joins.now.items old new v.more told.more;
      are = all_more t start old new told.more v.are;
      count = count_push all c.push-in-loop-place.new.self.items c.in_ok-mark.mark i pushed v.count;
      marked = marks_push t start new stocks all c.push-in-loop-place.new.self.items s c.in_ok-mark.mark pushed (subst (λ (n : ℕ). slice_get stocks n ≡ Some s) (sym v.count) here) (λ mark differ. told.connected mark)
          (marks_more t start old new stocks all told.more v.marked);
    }

pub returns : goal.returns
returns c =
    let v = c.loop-place.invariant in
    record {
      more = v.more;
      marks = record {
        count = omega (arith, v.count, c.loop-place-test.false, c.loop-place.auto.place-end, ap length c.as_slice-stocks.ensures.value);
        connect = v.marked.connect;
      };
    }
