use Rattle.std.proofs.Common.{◌+◌, Global, arith, subst, sym, ◌∙◌, true≢false, ap}
use Rattle.std.specs.declared.vec.Vec.{Vec}
use Rattle.std.specs.Option.{is_some}
use Rattle.cn_shortest.specs.declared.sizes.Sizes.{Sizes}
use Rattle.cn_shortest.proofs.Merging.{MergedTo, few_counts, merged_more, merged_none}
use Rattle.cn_shortest.proofs.roots.add_merged_with.Goals as goal
use Rattle.cn_shortest.proofs.roots.add_merged_with.Goals.{in-Some+in_ok-add, in_default}

pub merge-requires-clause-few : goal.merge-requires-clause-few
merge-requires-clause-few c x some l = few_counts c.args.n c.args.sizes.now.counts x c.requires.n c.requires.sizes some l

pub loop-b-preserved : goal.loop-b-preserved
loop-b-preserved c =
    let n = c.args.n in
    let sizes = c.args.sizes.now in
    let first = c.args.list.now.items in
    let old = c.loop-b.list.items in
    let a = c.args.a in
    let b = c.loop-b.b in
    let la = c.requires.a.0 in
    let lb = c.loop-b.auto.b in
    elim c.match-merge.branch [
      | in-Some+in_ok-add w ↦ subst (λ (v : Vec Sizes Global). MergedTo n sizes first v.items a (b + 1)) (sym w.list-is)
          (merged_more n sizes first old a b c.requires.n la lb c.requires.sizes c.loop-b.invariant w.add.new.list.items w.in-Some.merged w.in-Some.ensures.merged.0 (w.in-Some.ensures.merged.1, w.in-Some.ensures.merged.2)
          c.sizes_are_kept.ensures.any_order c.sizes_are_kept.ensures.merged w.in-Some.ensures.example w.in_ok-add.ensures.added w.in_ok-add.ensures.has)
      | in_default w ↦ subst (λ (v : Vec Sizes Global). MergedTo n sizes first v.items a (b + 1)) (sym w.list-is)
          (merged_none n sizes first old a b c.requires.n la lb c.requires.sizes c.loop-b.invariant (λ both lt. true≢false (sym (c.merge.ensures.all both lt) ∙ ap is_some w.in_default.is)))
    ]

pub returns-clause-all : goal.returns-clause-all
returns-clause-all c b new la lb both lt are = c.loop-b.invariant.all b (omega (arith, lt, c.loop-b-test.false, c.loop-b.auto.b)) new la lb both lt are
