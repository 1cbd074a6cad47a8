use Rattle.std.proofs.Common.{◌∙◌, ℕ, List, ap, length, subst, sym}
use Rattle.cn_table.specs.FewerStates.{AreClasses, with_states}
use Rattle.cn_table.specs.TypeTable.{TypeTable}
use Rattle.cn_merging.specs.Merged.{IsWhollyMerged}
use Rattle.cn_merging.specs.Numbering.{AreOwnFirsts, IsNumbering}
use Rattle.cn_merging.proofs.Merging.{are_classes, own_firsts, whole_again, wholly_merged}
use Rattle.cn_merging.proofs.merged.merge.Goals as goal

pub numbered-kept-requires-clause-own : goal.numbered-kept-requires-clause-own
numbered-kept-requires-clause-own c =
    subst AreOwnFirsts (sym c.as_slice.ensures.value) (own_firsts c.args.table.now c.first_states-firsts.result.items c.first_states-firsts.ensures.firsts)

pub with_states-requires : goal.with_states-requires
with_states-requires c =
    let t = c.args.table.now in
    let f = c.first_states-firsts.result.items in
    let kept = c.numbered-kept.result.kept.items in
    let classes = c.numbered-kept.result.class_of.items in
    let numbers = subst (λ (xs : List ℕ). IsNumbering (length xs) xs kept classes) c.as_slice.ensures.value c.numbered-kept.ensures in
    subst (λ (xs : List ℕ). AreClasses t xs c.as_slice-3.result.now) (sym c.as_slice-2.ensures.value)
    (subst (λ (xs : List ℕ). AreClasses t kept xs) (sym c.as_slice-3.ensures.value)
    (are_classes t c.first_states-firsts.ensures.table f kept classes c.first_states-firsts.ensures.firsts numbers))

pub returns-clause-merged : goal.returns-clause-merged
returns-clause-merged c =
    let t = c.args.table.now in
    let f = c.first_states-firsts.result.items in
    let kept = c.numbered-kept.result.kept.items in
    let classes = c.numbered-kept.result.class_of.items in
    let numbers = subst (λ (xs : List ℕ). IsNumbering (length xs) xs kept classes) c.as_slice.ensures.value c.numbered-kept.ensures in
    let own = c.in_ok-own.ensures ∙ (ap (λ xs. with_states t xs c.as_slice-3.result.now) c.as_slice-2.ensures.value ∙ ap (λ xs. with_states t kept xs) c.as_slice-3.ensures.value) in
    subst (λ (x : TypeTable). IsWhollyMerged t x classes) (sym own)
    (wholly_merged t c.first_states-firsts.ensures.table f kept classes c.first_states-firsts.ensures.firsts numbers (numbers.long ∙ c.first_states-firsts.ensures.firsts.long))

pub returns-clause-whole : goal.returns-clause-whole
returns-clause-whole c = λ apart.
    let t = c.args.table.now in
    let f = c.first_states-firsts.result.items in
    let kept = c.numbered-kept.result.kept.items in
    let classes = c.numbered-kept.result.class_of.items in
    let numbers = subst (λ (xs : List ℕ). IsNumbering (length xs) xs kept classes) c.as_slice.ensures.value c.numbered-kept.ensures in
    let own = c.in_ok-own.ensures ∙ (ap (λ xs. with_states t xs c.as_slice-3.result.now) c.as_slice-2.ensures.value ∙ ap (λ xs. with_states t kept xs) c.as_slice-3.ensures.value) in
    own ∙ whole_again t c.first_states-firsts.ensures.table f kept classes c.first_states-firsts.ensures.firsts numbers apart
