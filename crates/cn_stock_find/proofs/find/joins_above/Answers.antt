use Rattle.std.proofs.Common.{◌≡◌, ◌∙◌, List, None, Some, arith, subst, sym}
use Rattle.std.specs.Prelude.{option_map}
use Rattle.std.specs.declared.alloc.Global.{Global}
use Rattle.std.specs.declared.vec.Vec.{Vec}
use Rattle.cn_joins.specs.Joins.{Join}
use Rattle.cn_stock_cert.specs.Right.{ShowsAtMost}
use Rattle.cn_stock_find.specs.Found.{upper_bound}
use Rattle.cn_stock_find.proofs.FindLemmas.{bound_below, bound_in, no_bound, not_above, shows_most}
use Rattle.cn_stock_find.proofs.find.joins_above.Goals as goal

pub overflow_add-n : goal.overflow_add-n
overflow_add-n g c =
    let b = bound_in c.args.table.now c.args.limit c.args.number c.in-Some.most c.requires.some c.requires.number (sym c.most_of.ensures ∙ c.in-Some.is) in
    omega (arith, b.2, c.requires.few)

pub joins_against-requires-clause-some : goal.joins_against-requires-clause-some
joins_against-requires-clause-some g c κs lives =
    let b = bound_in c.args.table.now c.args.limit c.args.number c.in-Some.most c.requires.some c.requires.number (sym c.most_of.ensures ∙ c.in-Some.is) in
    omega (arith, b.1)

pub joins_against-requires-clause-few : goal.joins_against-requires-clause-few
joins_against-requires-clause-few g c κs lives =
    let limit = c.args.limit in
    let e = sym c.most_of.ensures ∙ c.in-Some.is in
    let b = bound_below c.args.table.now limit c.args.number c.in-Some.most c.requires.some c.requires.number e in
    omega (arith, b, c.requires.few)

pub returns-in_default : goal.returns-in_default
returns-in_default g c = subst (ShowsAtMost c.args.table.now None) c.most_of.ensures (no_bound c.args.table.now c.most_of.result c.in_default.not-Some)

pub returns : goal.returns
returns g c =
    let t = c.args.table.now in
    let most = c.in-Some.most in
    let joins = c.in_ok-joins.joins in
    let items : Vec Join Global → List Join = λ (list : Vec Join Global). list.items in
    let e : upper_bound c.args.limit c.args.number ≡ Some most = sym c.most_of.ensures ∙ c.in-Some.is in
    subst (ShowsAtMost t (option_map items joins)) (sym e)
    (shows_most items t most (not_above t c.args.limit c.args.number most c.requires.some c.requires.number e) joins c.in_ok-joins.ensures)
