use Rattle.std.proofs.Common.{◌↔◌, ◌∙◌, IsTrue, false, subst, sym, true≢false}
use Rattle.cn_stock_cert.specs.LastingSets.{LastingSets}
use Rattle.cn_stock_check.specs.LastingParts.{AreLaterRight}
use Rattle.cn_stock_check.proofs.lasting.are_later_right.Goals as goal

pub returns-then-not-is_among : goal.returns-then-not-is_among
returns-then-not-is_among c =
    let among = rw c.as_slice-alone.ensures.value at c.is_among.ensures in
    subst (λ (s : LastingSets). IsTrue false ↔ AreLaterRight c.args.table.now s) c.sets.view_is (
      λ f. absurd (true≢false (sym f)),
      λ h. absurd (true≢false (sym (among.1 h.0) ∙ c.if-not-is_among.true)),
    )

pub returns-then-not-leads_into : goal.returns-then-not-leads_into
returns-then-not-leads_into c =
    let leads = rw c.as_slice-alone.ensures.value at c.leads_into.ensures in
    subst (λ (s : LastingSets). IsTrue false ↔ AreLaterRight c.args.table.now s) c.sets.view_is (
      λ f. absurd (true≢false (sym f)),
      λ h. absurd (true≢false (sym (leads.1 h.1) ∙ c.if-not-leads_into.true)),
    )

pub returns-then-not-leads_behind : goal.returns-then-not-leads_behind
returns-then-not-leads_behind c =
    let leads = rw (c.as_slice-alone.ensures.value, c.as_slice-behind.ensures.value) at c.leads_behind.ensures in
    subst (λ (s : LastingSets). IsTrue false ↔ AreLaterRight c.args.table.now s) c.sets.view_is (
      λ f. absurd (true≢false (sym f)),
      λ h. absurd (true≢false (sym (leads.1 h.2) ∙ c.if-not-leads_behind.true)),
    )

pub returns : goal.returns
returns c =
    let among = rw c.as_slice-alone.ensures.value at c.is_among.ensures in
    let leads = rw c.as_slice-alone.ensures.value at c.leads_into.ensures in
    let behind = rw (c.as_slice-alone.ensures.value, c.as_slice-behind.ensures.value) at c.leads_behind.ensures in
    let later = rw c.as_slice-behind.ensures.value at c.leads_into-2.ensures in
    subst (λ (s : LastingSets). IsTrue c.leads_into-2.result ↔ AreLaterRight c.args.table.now s) c.sets.view_is (
      λ y. (among.0 c.if-not-is_among.false, leads.0 c.if-not-leads_into.false, behind.0 c.if-not-leads_behind.false, later.0 y),
      λ h. later.1 h.3,
    )
