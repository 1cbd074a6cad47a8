use Rattle.std.proofs.Common.{ℕ, ◌≡◌, arith, subst}
use Rattle.cn_shortest.specs.Roots.{HasAllWithin}
use Rattle.cn_shortest.proofs.Passing.{within_more}
use Rattle.cn_shortest.proofs.roots.all_sizes.Goals as goal

pub loop-merges-preserved : goal.loop-merges-preserved
loop-merges-preserved c =
    let i = c.loop-merges.invariant in
    let e = c.in_ok-coarsen.ensures in
    record {
      of_n = e.of_n;
      found = λ t sight h. e.found t sight (i.found t sight h);
      all = within_more c.args.n c.loop-merges._merges c.args.divisions.now c.loop-merges.list.items c.coarsen.new.list.items e.kept e.all i.all;
    }

pub returns : goal.returns
returns c =
    let i = c.loop-merges.invariant in
    let end : c.loop-merges._merges ≡ 8 = omega (arith, c.loop-merges-test.false, c.loop-merges.auto._merges-end) in
    record {
      of_n = i.of_n;
      found = i.found;
      all = subst (λ (q : ℕ). HasAllWithin c.args.n q c.args.divisions.now c.loop-merges.list.items) end i.all;
    }
