use Rattle.std.proofs.Common.{List, ◌≡◌, ◌+◌, ◌∙◌, ap, arith, length, refl, subst, sym, Some}
use Rattle.std.specs.Prelude.{All, slice_get}
use Rattle.std.proofs.lemmas.Option.{slice_get_read}
use Rattle.cn_meetings.specs.Sights.{sight_of}
use Rattle.cn_shortest.specs.Loads.{IsEntry, roots_with, table_of}
use Rattle.cn_shortest.specs.Sizes.{AreOf}
use Rattle.cn_shortest.specs.declared.roots.SightRoots.{SightRoots}
use Rattle.cn_shortest.specs.declared.sizes.Sizes.{Sizes}
use Rattle.cn_shortest.proofs.Entries.{entry_all, entry_none, entry_on}
use Rattle.cn_shortest.proofs.loads.entry.Goals as goal

pub loop-which-init : goal.loop-which-init
loop-which-init c = entry_none (table_of c.args.rows.now) (length c.args.rows.now + 1) c.args.budget c.args.roots.now

pub least_of-requires-clause-sizes : goal.least_of-requires-clause-sizes
least_of-requires-clause-sizes c =
    let all = c.as_slice-all.result.now in
    let k = c.loop-which.which in
    let r = c.index-all-which.result in
    let here = ap (λ (l : List SightRoots). slice_get l k) (sym c.as_slice-all.ensures.value) ∙ slice_get_read all (length all) k r refl c.loop-which-test.true c.index-all-which.is in
    subst (All (λ (s : Sizes). AreOf (length c.args.rows.now + 1) s.counts)) (sym c.as_slice-sizes.ensures.value) (c.requires.roots k r here)

pub loop-which-preserved : goal.loop-which-preserved
loop-which-preserved c =
    let best = table_of c.args.rows.now in
    let n = length c.args.rows.now + 1 in
    let all = c.as_slice-all.result.now in
    let k = c.loop-which.which in
    let r = c.index-all-which.result in
    let here = ap (λ (l : List SightRoots). slice_get l k) (sym c.as_slice-all.ensures.value) ∙ slice_get_read all (length all) k r refl c.loop-which-test.true c.index-all-which.is in
    entry_on best n c.args.budget c.args.roots.now k r c.loop-which.load c.least_of.result c.less-load.result here c.loop-which.invariant
    (subst (λ (l : List Sizes). IsEntry best n c.args.budget (roots_with (sight_of r.sight) l) c.least_of.result) c.as_slice-sizes.ensures.value c.least_of.ensures)
    c.less-load.ensures

pub returns : goal.returns
returns c =
    entry_all (table_of c.args.rows.now) (length c.args.rows.now + 1) c.args.budget c.args.roots.now c.loop-which.which c.loop-which.load
    (omega (arith, c.loop-which-test.false, ap length c.as_slice-all.ensures.value)) c.loop-which.invariant
