use Rattle.std.proofs.Common.{sym, true≢false, map, subst}
use Rattle.std.proofs.lemmas.List.{take_all}
use Rattle.std.proofs.lemmas.List.Elements.{All-more, recursion_from_All}
use Rattle.cn_choice.proofs.ListLemmas.Members.{IsIn-from_Contains, IsIn-map_from, each_at}
use Rattle.cn_table.specs.declared.elements.Operation.{Operation}
use Rattle.cn_telling.specs.Rows.{HaveOneRow}
use Rattle.cn_recover.proofs.rows.has_row_of.Goals as goal

pub loop-earlier-preserved : goal.loop-earlier-preserved
loop-earlier-preserved c =
    All-more (λ (o : Operation). ¬ HaveOneRow c.args.table.now c.args.operation.0 o.0) c.args.operations.now c.loop-earlier.earlier-index (record { 0 = 0 }) c.loop-earlier-test.true c.loop-earlier.invariant
    (λ h. true≢false (sym (c.if-have_one_row.ensures.1 h)))

pub returns : goal.returns
returns c = (
  λ h. absurd (true≢false (sym h)),
  λ h.
      let t = c.args.table.now in
      let list = c.args.operations.now in
      let none = rw (take_all c.loop-earlier.earlier-index list c.loop-earlier-test.false) at c.loop-earlier.invariant in
      let r = IsIn-map_from (λ (o : Operation). o.0) h.0 list (IsIn-from_Contains h.0 (map (λ (o : Operation). o.0) list) h.1) in
      absurd (each_at (λ (o : Operation). ¬ HaveOneRow t c.args.operation.0 o.0) list r.0
      (recursion_from_All (λ (o : Operation). ¬ HaveOneRow t c.args.operation.0 o.0) list none) r.2
      (subst (HaveOneRow t c.args.operation.0) (sym r.1) h.2)),
)
