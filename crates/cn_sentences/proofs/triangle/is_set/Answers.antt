use Rattle.std.proofs.Common.{◌∙◌, ap, nat_eq, sym}
use Rattle.std.specs.Cmp.Derive.Mapped.{pointwise-map}
use Rattle.std.specs.Cmp.Lexicographic.{pointwise}
use Rattle.cn_table.specs.declared.elements.Operation.{Operation}
use Rattle.cn_sentences.proofs.triangle.is_set.Goals as goal

pub returns : goal.returns
returns c =
    let same = λ (a b : Operation). nat_eq a.0 b.0 in
    c.eq.ensures
    ∙ (ap (λ xs. pointwise same xs c.args.operations.now) c.as_slice.ensures.value
    ∙ sym (pointwise-map (λ (o : Operation). o.0) nat_eq c.args.set.now.operations.items c.args.operations.now))
