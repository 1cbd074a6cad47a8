use Rattle.std.proofs.Common.{◌≡◌, Some, None, length, sym, ap, ◌∙◌, arith}
use Rattle.json.specs.Json.{after_end_array}
use Rattle.cn_cert.specs.Tokens.{data_at, items_at, with_value, nothing, all_items}
use Rattle.cn_cert.proofs.Walks.{told-shorter, refuse_more}
use Rattle.cn_cert.proofs.ArrayWalks.{behind, list_next, list_stops, list_refused, list_cut, list_over}
use Rattle.cn_cert.proofs.array.items.Goals as goal

pub returns-in_err-item-clause-err : goal.returns-in_err-item-clause-err
returns-in_err-item-clause-err g c =
    let kind = g.T.Kind.kind in
    let l = c.items in
    let going : (after_end_array l.reader ≡ None) × (c.take_end_array.new.self ≡ l.reader) = grind arith in
    let refused = refuse_more _ _ (with_value (all_items kind) (items_at c.args.depth c.args.reader.now))
    (λ none. l.invariant ∙ list_refused kind c.args.depth l.values.items l.reader going.0 (ap (λ ts. with_value kind (data_at c.args.depth ts)) (sym going.1) ∙ none)) c.in_err-item.ensures.err in
    grind (arith, refused)

pub items-smaller : goal.items-smaller
items-smaller g c =
    let kind = g.T.Kind.kind in
    let same : c.take_end_array.new.self ≡ c.items.reader = grind arith in
    let less = told-shorter kind c.args.depth c.take_end_array.new.self c.next.new.reader (Some c.in-Some.item) (grind arith) in
    omega (arith, less, ap length same)

pub items-preserved : goal.items-preserved
items-preserved g c =
    let kind = g.T.Kind.kind in
    let l = c.items in
    let going : (after_end_array l.reader ≡ None) × (c.take_end_array.new.self ≡ l.reader) = grind arith in
    let read : with_value kind (data_at c.args.depth c.take_end_array.new.self) ≡ Some (Some c.in-Some.item, c.next.new.reader) = grind arith in
    l.invariant ∙ list_next kind c.args.depth l.values.items l.reader c.next.new.reader c.in-Some.item going.0 (ap (λ ts. with_value kind (data_at c.args.depth ts)) (sym going.1) ∙ read)
    ∙ ap (λ xs. behind kind c.args.depth xs c.next.new.reader) (sym c.in_ok-push-in-Some.ensures.items)

pub returns-in_err-rest_of_items-in-None-clause-err : goal.returns-in_err-rest_of_items-in-None-clause-err
returns-in_err-rest_of_items-in-None-clause-err g c =
    let kind = g.T.Kind.kind in
    let l = c.items in
    let going : (after_end_array l.reader ≡ None) × (c.take_end_array.new.self ≡ l.reader) = grind arith in
    let read : with_value kind (data_at c.args.depth c.take_end_array.new.self) ≡ Some (None, c.next.new.reader) = grind arith in
    let refused = refuse_more _ _ (with_value (all_items kind) (items_at c.args.depth c.args.reader.now))
    (λ none. l.invariant ∙ list_cut kind c.args.depth l.values.items l.reader c.next.new.reader going.0
    (ap (λ ts. with_value kind (data_at c.args.depth ts)) (sym going.1) ∙ read) none) c.in_err-rest_of_items-in-None.ensures.err in
    grind (arith, refused)

pub returns-in-None-clause-ok : goal.returns-in-None-clause-ok
returns-in-None-clause-ok g c =
    let kind = g.T.Kind.kind in
    let l = c.items in
    let going : (after_end_array l.reader ≡ None) × (c.take_end_array.new.self ≡ l.reader) = grind arith in
    let read : with_value kind (data_at c.args.depth c.take_end_array.new.self) ≡ Some (None, c.next.new.reader) = grind arith in
    let rest : with_value nothing (items_at c.args.depth c.next.new.reader) ≡ Some (tt, c.rest_of_items.new.reader) = grind arith in
    l.invariant ∙ list_stops kind c.args.depth l.values.items l.reader c.next.new.reader c.rest_of_items.new.reader going.0
    (ap (λ ts. with_value kind (data_at c.args.depth ts)) (sym going.1) ∙ read) rest

pub returns-clause-ok : goal.returns-clause-ok
returns-clause-ok g c = c.items.invariant ∙ list_over g.T.Kind.kind c.args.depth c.items.values.items c.items.reader c.take_end_array.new.self (grind arith)
