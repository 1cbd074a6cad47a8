use Rattle.std.proofs.Common.{◌∙◌, ◌+◌, ◌∷◌, [], ap, arith, map, refl, subst, sym}
use Rattle.std.proofs.lemmas.List.{map-append}
use Rattle.cn_table.specs.declared.elements.Operation.{Operation}
use Rattle.cn_copies.proofs.FirstLemmas.{AreFirstOf, first_added, first_of_all, first_skipped}
use Rattle.cn_copies.proofs.copies.first_operations.Goals as goal

pub loop-number-preserved-then-is_copy : goal.loop-number-preserved-then-is_copy
loop-number-preserved-then-is_copy c =
    first_skipped c.args.table.now c.loop-number.number (map (λ (o : Operation). o.0) c.loop-number.list.items) (c.if-is_copy.ensures.0 refl) c.loop-number.invariant

pub loop-number-preserved : goal.loop-number-preserved
loop-number-preserved c =
    let n = c.loop-number.number in
    let old = c.loop-number.list.items in
    subst (AreFirstOf c.args.table.now (n + 1))
    (sym (ap (map (λ (o : Operation). o.0)) c.in_ok-push.ensures.items ∙ map-append (λ (o : Operation). o.0) old (record { 0 = n } ∷ [])))
    (first_added c.args.table.now n (map (λ (o : Operation). o.0) old) (λ copy. let bad = c.if-is_copy.ensures.1 copy in cc) c.loop-number.invariant)

pub returns : goal.returns
returns c =
    let list = map (λ (o : Operation). o.0) c.loop-number.list.items in
    first_of_all c.args.table.now list (omega (arith, c.operations-number-end.ensures.number, c.operations-number-end.ensures.range))
    (subst (λ n. AreFirstOf c.args.table.now n list) (omega (arith, c.loop-number-test.false, c.loop-number.auto.number-end, c.operations-number-end.ensures.number)) c.loop-number.invariant)
