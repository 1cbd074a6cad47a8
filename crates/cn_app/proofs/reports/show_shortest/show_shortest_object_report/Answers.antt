use Rattle.std.proofs.Common.{inl, inr, refl}
use Rattle.std.proofs.lemmas.Result.{err_from_is_err_and}
use Rattle.cn_app.proofs.reports.show_shortest.show_shortest_object_report.Goals as goal

pub returns-in_err-tree : goal.returns-in_err-tree
returns-in_err-tree c =
    let p = err_from_is_err_and c.from_residual.result c.from_residual.ensures.1 in
    rw (p.1, p.2) (inl (c.in_err-tree.field-0.0, c.in_err-tree.ensures, refl))

pub returns-in_err-served : goal.returns-in_err-served
returns-in_err-served c =
    let p = err_from_is_err_and c.from_residual-in_err-served.result c.from_residual-in_err-served.ensures.1 in
    rw (p.1, p.2) (inr (c.in_ok-tree.tree, c.in_ok-tree.ensures, inl (c.in_err-served.field-0.0, c.in_err-served.ensures, refl)))

pub returns : goal.returns
returns c = inr (c.in_ok-tree.tree, c.in_ok-tree.ensures, inr (c.in_ok-served.served, c.in_ok-served.ensures, c.tree_report.ensures))
