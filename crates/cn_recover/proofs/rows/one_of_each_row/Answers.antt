use Rattle.std.proofs.Common.{◌∙◌, ◌+◌, ◌<◌, ◌∷◌, [], ap, arith, length, map, refl, subst, sym, List}
use Rattle.std.proofs.lemmas.List.{map-append}
use Rattle.std.proofs.lemmas.List.Elements.{All-from_recursion}
use Rattle.cn_choice.proofs.ListLemmas.Members.{IsIn-map, each_from}
use Rattle.cn_table.specs.declared.elements.Operation.{Operation}
use Rattle.cn_recover.specs.Rows.{HasRowOf}
use Rattle.cn_recover.proofs.RowLists.{AreOfFirst, of_all, of_new_row, of_row}
use Rattle.cn_recover.proofs.rows.one_of_each_row.Goals as goal

pub has_row_of-requires-clause-operations : goal.has_row_of-requires-clause-operations
has_row_of-requires-clause-operations c =
    let t = c.args.table.now in
    rw (c.deref.ensures.value) (All-from_recursion (λ (o : Operation). o.0 < length t.operations) c.loop-number.list.items
    (each_from (λ (o : Operation). o.0 < length t.operations) c.loop-number.list.items (λ o i.
    let l = c.loop-number.invariant.known o.0 (IsIn-map (λ (o : Operation). o.0) o c.loop-number.list.items i) in
    omega (arith, l, c.loop-number-test.true, c.operations-number-end.ensures.number))))

pub loop-number-preserved-then-has_row_of : goal.loop-number-preserved-then-has_row_of
loop-number-preserved-then-has_row_of c =
    of_row c.args.table.now c.loop-number.number (map (λ (o : Operation). o.0) c.loop-number.list.items)
    (subst (λ (xs : List Operation). HasRowOf c.args.table.now (map (λ (o : Operation). o.0) xs) c.loop-number.number) c.deref.ensures.value (c.if-has_row_of.ensures.0 refl))
    c.loop-number.invariant

pub loop-number-preserved : goal.loop-number-preserved
loop-number-preserved c =
    let n = c.loop-number.number in
    let old = c.loop-number.list.items in
    subst (AreOfFirst c.args.table.now (n + 1))
    (sym (ap (map (λ (o : Operation). o.0)) c.in_ok-push.ensures.items ∙ map-append (λ (o : Operation). o.0) old (record { 0 = n } ∷ [])))
    (of_new_row c.args.table.now n (map (λ (o : Operation). o.0) old)
    (λ has.
    let bad = c.if-has_row_of.ensures.1 (subst (λ (xs : List Operation). HasRowOf c.args.table.now (map (λ (o : Operation). o.0) xs) n) (sym c.deref.ensures.value) has) in cc)
    c.loop-number.invariant)

pub returns : goal.returns
returns c =
    let list = map (λ (o : Operation). o.0) c.loop-number.list.items in
    of_all c.args.table.now list (omega (arith, c.operations-number-end.ensures.number, c.operations-number-end.ensures.range))
    (subst (λ n. AreOfFirst c.args.table.now n list) (omega (arith, c.loop-number-test.false, c.loop-number.auto.number-end, c.operations-number-end.ensures.number)) c.loop-number.invariant)
