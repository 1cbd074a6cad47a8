use Rattle.std.proofs.Common.{◌≡◌, ◌∙◌, ◌<◌, false, arith, length, subst, sym, ◌==◌}
use Rattle.std.proofs.lemmas.Bool.Decides.{nat_tests}
use Rattle.std.proofs.lemmas.Result.{IfOk-weaker}
use Rattle.cn_table.specs.TypeTable.{TypeTable}
use Rattle.cn_search.specs.Nexts.{Serves}
use Rattle.cn_changes.proofs.Sharing.{all_served}
use Rattle.cn_changes.proofs.numbers.shared_search.Goals as goal

pub returns : goal.returns
returns g c =
    let t = c.args.table.now in
    let changes = c.args.changes.now in
    let law = c.entry_makes_a_table.ensures in
    let some : 0 < length changes = let e : (length changes == 0) ≡ false = sym c.is_empty.ensures ∙ c.if-is_empty.false in grind (arith, nat_tests) in
    IfOk-weaker c.search_nexts.result _ _
    (λ searched h.
    all_served t c.tables_are_valid.ensures.table law.there law.other_operation law.other_state c.searches_serve_other_responses.ensures c.args.target _ searched
    (c.requires.target 0 _ some) (c.requires.known 0 _ some) (subst (λ (u : TypeTable). Serves u searched) c.in_ok-changed.ensures h) changes c.requires.known c.requires.target)
    c.search_nexts.ensures
