use Rattle.std.proofs.Common.{◌↔◌, ◌∙◌, Contains, IsTrue, false, subst, sym, true≢false}
use Rattle.cn_stock_cert.specs.LastingSets.{LastingSets}
use Rattle.cn_stock_check.specs.LastingParts.{AreFirstRight}
use Rattle.cn_stock_check.proofs.lasting.are_first_right.Goals as goal

pub returns-then-not-is_among : goal.returns-then-not-is_among
returns-then-not-is_among c =
    let among = rw c.as_slice-first.ensures.value at c.is_among.ensures in
    subst (λ (s : LastingSets). IsTrue false ↔ AreFirstRight c.args.table.now s) c.sets.view_is (
      λ f. absurd (true≢false (sym f)),
      λ h. absurd (true≢false (sym (among.1 (subst (Contains c.sets.inside.first.items) (sym c.next-begun.ensures.value) h.0)) ∙ c.if-not-is_among.true)),
    )

pub returns-then-not-leads_into : goal.returns-then-not-leads_into
returns-then-not-leads_into c =
    let leads = rw c.as_slice-first.ensures.value at c.leads_into.ensures in
    subst (λ (s : LastingSets). IsTrue false ↔ AreFirstRight c.args.table.now s) c.sets.view_is (
      λ f. absurd (true≢false (sym f)),
      λ h. absurd (true≢false (sym (leads.1 h.1) ∙ c.if-not-leads_into.true)),
    )

pub returns : goal.returns
returns c =
    let among = rw c.as_slice-first.ensures.value at c.is_among.ensures in
    let leads = rw c.as_slice-first.ensures.value at c.leads_into.ensures in
    let apart = rw (c.as_slice-first.ensures.value, c.as_slice.ensures.value, c.as_slice-2.ensures.value) at c.are_apart.ensures in
    subst (λ (s : LastingSets). IsTrue c.are_apart.result ↔ AreFirstRight c.args.table.now s) c.sets.view_is (
      λ y. (subst (Contains c.sets.inside.first.items) c.next-begun.ensures.value (among.0 c.if-not-is_among.false), leads.0 c.if-not-leads_into.false, apart.0 y),
      λ h. apart.1 h.2,
    )
