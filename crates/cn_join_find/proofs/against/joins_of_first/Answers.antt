use Rattle.std.proofs.Common.{◌∙◌, All, List, ℕ, ap, length, map, refl, subst, sym}
use Rattle.std.proofs.lemmas.List.{length-map}
use Rattle.cn_table.specs.Restriction.{with_operations}
use Rattle.cn_table.specs.TypeTable.{TypeTable}
use Rattle.cn_table.specs.declared.elements.Operation.{Operation}
use Rattle.cn_choice.specs.Discerning.{IsDiscerning}
use Rattle.cn_joins.specs.Evidence.{ConnectAll}
use Rattle.cn_joins.specs.Joins.{IsJoin, Join}
use Rattle.cn_join_find.specs.Renaming.{IsOfFirst, renamed}
use Rattle.cn_join_find.proofs.RenameLemmas.{all_renamed, joins_renamed, of_first}
use Rattle.cn_join_find.proofs.against.joins_of_first.Goals as goal

pub renamed_joins-requires : goal.renamed_joins-requires
renamed_joins-requires g c place d =
    let t = c.args.table.now in
    let numbers = map (λ (o : Operation). o.0) c.args.first.now in
    let found = rw c.in-Some.is at c.in_ok-found.ensures in
    let are = subst (λ (u : TypeTable). All (IsJoin u) c.in-Some.joins.items) c.in_ok-smaller.ensures found.0 in
    let all = subst (λ (k : ℕ). All (IsOfFirst k) c.in-Some.joins.items) (length-map c.args.first.now (λ (o : Operation). o.0)) (of_first t numbers c.in-Some.joins.items are) in
    subst (All (IsOfFirst (length c.args.first.now))) (sym c.as_slice.ensures.value) all place d

pub returns : goal.returns
returns g c =
    let t = c.args.table.now in
    let n = c.args.n in
    let numbers = map (λ (o : Operation). o.0) c.args.first.now in
    let joins = c.in-Some.joins.items in
    let found = rw c.in-Some.is at c.in_ok-found.ensures in
    let are = subst (λ (u : TypeTable). All (IsJoin u) joins) c.in_ok-smaller.ensures found.0 in
    let connect = subst (λ (u : TypeTable). ConnectAll u n joins) c.in_ok-smaller.ensures found.1 in
    let is = c.in_ok-renamed-in-Some.ensures ∙ ap (map (renamed numbers)) c.as_slice.ensures.value in
    subst (λ (list : List Join). All (IsJoin t) list × ConnectAll t n list) (sym is) (
      joins_renamed t numbers c.requires.first.are.known joins are,
      all_renamed t numbers c.tables_are_valid.ensures.table c.requires.first n joins are connect,
    )

pub returns-in-None : goal.returns-in-None
returns-in-None g c =
    let t = c.args.table.now in
    let n = c.args.n in
    let numbers = map (λ (o : Operation). o.0) c.args.first.now in
    let found = rw c.in-None.is at c.in_ok-found.ensures in
    let small = subst (λ (u : TypeTable). IsDiscerning u n) c.in_ok-smaller.ensures found in
    (c.copies_tell_nothing.ensures.without t (with_operations t numbers) (c.tables_are_closed.ensures t c.tables_are_valid.ensures.table) (numbers, c.requires.first, refl) n).1 small
