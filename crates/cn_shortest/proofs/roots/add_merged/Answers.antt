use Rattle.std.proofs.Common.{arith, inl, inr, sym, subst}
use Rattle.cn_shortest.specs.Roots.{HasMerged}
use Rattle.cn_shortest.proofs.Elements.{below_or_last}
use Rattle.cn_shortest.proofs.Merging.{extended_on, has_extended}
use Rattle.cn_shortest.proofs.roots.add_merged.Goals as goal

pub loop-a-preserved : goal.loop-a-preserved
loop-a-preserved c =
    let i = c.loop-a.invariant in
    let e = c.in_ok-add_merged_with.ensures in
    let old = c.loop-a.list.items in
    let new = c.add_merged_with.new.list.items in
    record {
      kept = extended_on c.args.list.now.items old new i.kept e.kept;
      of_n = e.of_n;
      found = λ t sight h all. e.found t sight h (i.found t sight h all);
      all = λ d b l. elim (below_or_last d c.loop-a.a l) [
        | inl m ↦ (λ counts la lb both lt are. has_extended old new counts e.kept (i.all d b m counts la lb both lt are))
        | inr m ↦ subst (λ x. HasMerged c.args.n c.args.sizes.now.counts new x b) (sym m) (e.all b)
      ];
    }

pub returns-clause-all : goal.returns-clause-all
returns-clause-all c a b new la lb both lt are = c.loop-a.invariant.all a b (omega (arith, lt, c.loop-a-test.false)) new la lb both lt are
