use Rattle.std.proofs.Common.{ℕ, List, ◌≡◌, ◌∙◌, ◌++◌, ap, codes, string_bytes, subst, sym, None}
use Rattle.cn_table.specs.TypeTable.{IsTypeTable}
use Rattle.cn_tree_cert.specs.Reading.{AreOf, fault_of}
use Rattle.cn_tree_cert.specs.TreeText.{tree_certificate_text}
use Rattle.cn_app.proofs.reports.find_shortest.plan_report.Goals as goal

pub returns : goal.returns
returns c =
    let certificate = c.in_ok-certificate.certificate in
    let right = c.in_ok-certificate.ensures.right in
    let valid = subst IsTypeTable c.table.ensures c.tables_are_valid.ensures.table in
    let back = c.right_certificates_are_read_back.ensures c.args.plan.now.table certificate valid right in
    let written : string_bytes c.whole.result.text ≡ tree_certificate_text certificate ++ codes "\n" = ap string_bytes c.whole.ensures.text ∙ c.in_ok-with_line_feed.ensures ∙ ap (λ text. text ++ codes "\n") c.in_ok-text.ensures in (
      record {
        certificate = certificate;
        says = c.in_ok-certificate.ensures.says;
        right = right;
        written = written;
        read = subst (λ (bytes : List ℕ). AreOf bytes certificate × (fault_of bytes ≡ None)) (sym written) (back.1, back.0);
      },
      c.whole.ensures.outcome,
    )
