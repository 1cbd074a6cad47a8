use Rattle.std.proofs.Common.{◌≡◌, ◌+◌, ◌-◌, ◌∙◌, arith, ap, length, List, Option, refl, Some, subst, sym, take}
use Rattle.std.proofs.lemmas.Option.{slice_get_read}
use Rattle.cn_tree_costs.specs.Least.{Load}
use Rattle.cn_shortest.specs.Choosing.{IsChoice}
use Rattle.cn_shortest.specs.Loads.{AreAllOf, IsLoadOf, load_at, load_of, roots_in, table_of}
use Rattle.cn_shortest.specs.declared.loads.Row.{Row}
use Rattle.cn_shortest.proofs.Rows.{read}
use Rattle.cn_shortest.proofs.Searching.{load_is, root_is, roots_are}
use Rattle.cn_shortest.proofs.building.root.Goals as goal

pub choose-requires-clause-roots : goal.choose-requires-clause-roots
choose-requires-clause-roots c =
    let s = c.args.found.now in
    let here = c.index-2.result.now in
    let at = slice_get_read s.roots.items (length s.roots.items) (c.args.n - 2) here refl (omega (arith, c.requires.few, c.requires.found.long, c.requires.some)) c.index-2.ensures in
    subst (λ (rows : List Row). AreAllOf (length (take (c.args.n - 1) rows) + 1) here) (sym c.deref.ensures.value) (roots_are s c.requires.found c.args.n c.args.budget c.requires.some c.requires.few c.requires.budget here at)

pub choose-requires-clause-some : goal.choose-requires-clause-some
choose-requires-clause-some c =
    let s = c.args.found.now in
    let n = c.args.n in
    let here = c.index-2.result.now in
    let row = c.index.result.now in
    let x : Load = record { nodes = c.in-Some.load.nodes; sum = c.in-Some.load.sum } in
    let at = slice_get_read s.roots.items (length s.roots.items) (n - 2) here refl (omega (arith, c.requires.few, c.requires.found.long, c.requires.some)) c.index-2.ensures in
    let row_at = slice_get_read s.rows.items (length s.rows.items) (n - 1) row refl (omega (arith, c.requires.few, c.requires.some)) c.index.ensures in
    let load : table_of s.rows.items n c.args.budget ≡ Some x = ap (λ (o : Option Row). load_at o c.args.budget) row_at ∙ (read row.loads c.args.budget ∙ ap load_of c.in-Some.is) in
    subst (λ (rows : List Row). IsLoadOf (table_of (take (n - 1) rows)) (length (take (n - 1) rows) + 1) c.args.budget (roots_in here) x) (sym c.deref.ensures.value)
    (load_is s c.requires.found n c.args.budget c.requires.some c.requires.few c.requires.budget here at x load)

pub returns : goal.returns
returns c =
    let s = c.args.found.now in
    let n = c.args.n in
    let here = c.index-2.result.now in
    let row = c.index.result.now in
    let x : Load = record { nodes = c.in-Some.load.nodes; sum = c.in-Some.load.sum } in
    let at = slice_get_read s.roots.items (length s.roots.items) (n - 2) here refl (omega (arith, c.requires.few, c.requires.found.long, c.requires.some)) c.index-2.ensures in
    let row_at = slice_get_read s.rows.items (length s.rows.items) (n - 1) row refl (omega (arith, c.requires.few, c.requires.some)) c.index.ensures in
    let load : table_of s.rows.items n c.args.budget ≡ Some x = ap (λ (o : Option Row). load_at o c.args.budget) row_at ∙ (read row.loads c.args.budget ∙ ap load_of c.in-Some.is) in
    root_is s c.requires.found n c.args.budget c.requires.some c.requires.few c.requires.budget here at x c.choose.result load
    (subst (λ (rows : List Row). IsChoice (table_of (take (n - 1) rows)) (length (take (n - 1) rows) + 1) c.args.budget here x c.choose.result) c.deref.ensures.value c.choose.ensures)
