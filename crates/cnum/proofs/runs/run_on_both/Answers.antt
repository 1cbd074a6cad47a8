use Rattle.std.proofs.Common.{◌≡◌, ◌∙◌, Some, ap, inr, sym}
use Rattle.cnum.specs.Runs.{certificate_of}
use Rattle.cnum.proofs.runs.run_on_both.Goals as goal

pub returns-in-Check : goal.returns-in-Check
returns-in-Check g c =
    let given : Some c.in-Check.certificate ≡ Some c.args.source = ap certificate_of (sym c.in-Check.is) ∙ c.requires.command in
    let same : c.in-Check.certificate ≡ c.args.source = cc in
    rw c.in-Check.is (
      c.text_of-certificate.result,
      rw same c.text_of-certificate.ensures,
      record {
        table_after = c.check-end.new.table;
        certificate_after = c.check-end.new.certificate;
        read = c.check-end.ensures.read;
        order = inr tt;
        reported = rw c.noting_table.ensures c.check-end.ensures.checked;
      },
    )

pub returns-in-CheckUnread : goal.returns-in-CheckUnread
returns-in-CheckUnread g c =
    let given : Some c.in-CheckUnread.certificate ≡ Some c.args.source = ap certificate_of (sym c.in-CheckUnread.is) ∙ c.requires.command in
    let same : c.in-CheckUnread.certificate ≡ c.args.source = cc in
    rw c.in-CheckUnread.is (
      c.text_of-certificate.result,
      rw same c.text_of-certificate.ensures,
      record {
        table_after = c.check_unread-end.new.table;
        certificate_after = c.check_unread-end.new.certificate;
        read = c.check_unread-end.ensures.read;
        order = inr tt;
        reported = rw c.noting_table-in-CheckUnread.ensures c.check_unread-end.ensures.checked;
      },
    )

pub returns-in-CheckShortest : goal.returns-in-CheckShortest
returns-in-CheckShortest g c =
    let given : Some c.in-CheckShortest.certificate ≡ Some c.args.source = ap certificate_of (sym c.in-CheckShortest.is) ∙ c.requires.command in
    let same : c.in-CheckShortest.certificate ≡ c.args.source = cc in
    rw c.in-CheckShortest.is (
      c.text_of-certificate.result,
      rw same c.text_of-certificate.ensures,
      record {
        table_after = c.check_shortest-end.new.table;
        certificate_after = c.check_shortest-end.new.certificate;
        read = c.check_shortest-end.ensures.read;
        order = inr tt;
        reported = rw c.noting_table-in-CheckShortest.ensures c.check_shortest-end.ensures.checked;
      },
    )

pub returns-in-CheckStocks : goal.returns-in-CheckStocks
returns-in-CheckStocks g c =
    let given : Some c.in-CheckStocks.certificate ≡ Some c.args.source = ap certificate_of (sym c.in-CheckStocks.is) ∙ c.requires.command in
    let same : c.in-CheckStocks.certificate ≡ c.args.source = cc in
    rw c.in-CheckStocks.is (
      c.text_of-certificate.result,
      rw same c.text_of-certificate.ensures,
      record {
        table_after = c.check_stocks-end.new.table;
        certificate_after = c.check_stocks-end.new.certificate;
        read = c.check_stocks-end.ensures.read;
        order = inr tt;
        reported = rw c.noting_table-in-CheckStocks.ensures c.check_stocks-end.ensures.checked;
      },
    )

pub returns-in-ExplainStocks : goal.returns-in-ExplainStocks
returns-in-ExplainStocks g c =
    let given : Some c.in-ExplainStocks.certificate ≡ Some c.args.source = ap certificate_of (sym c.in-ExplainStocks.is) ∙ c.requires.command in
    let same : c.in-ExplainStocks.certificate ≡ c.args.source = cc in
    rw c.in-ExplainStocks.is (
      c.text_of-certificate.result,
      rw same c.text_of-certificate.ensures,
      record {
        table_after = c.explain_stocks-end.new.table;
        certificate_after = c.explain_stocks-end.new.certificate;
        read = c.explain_stocks-end.ensures.read;
        order = inr tt;
        reported = rw c.noting_table-in-ExplainStocks.ensures c.explain_stocks-end.ensures.explained;
      },
    )

pub returns-in-Explain : goal.returns-in-Explain
returns-in-Explain g c =
    let given : Some c.in-Explain.certificate ≡ Some c.args.source = ap certificate_of (sym c.in-Explain.is) ∙ c.requires.command in
    let same : c.in-Explain.certificate ≡ c.args.source = cc in
    rw c.in-Explain.is (
      c.text_of-certificate.result,
      rw same c.text_of-certificate.ensures,
      record {
        table_after = c.explain-end.new.table;
        certificate_after = c.explain-end.new.certificate;
        read = c.explain-end.ensures.read;
        order = inr tt;
        reported = rw c.noting_table-in-Explain.ensures c.explain-end.ensures.explained;
      },
    )

pub returns-in-Show : goal.returns-in-Show
returns-in-Show g c =
    let given : Some c.in-Show.certificate ≡ Some c.args.source = ap certificate_of (sym c.in-Show.is) ∙ c.requires.command in
    let same : c.in-Show.certificate ≡ c.args.source = cc in
    rw c.in-Show.is (c.text_of-certificate.result, rw same c.text_of-certificate.ensures, c.show.ensures)

pub returns-in-Agree : goal.returns-in-Agree
returns-in-Agree g c =
    let given : Some c.in-Agree.certificate ≡ Some c.args.source = ap certificate_of (sym c.in-Agree.is) ∙ c.requires.command in
    let same : c.in-Agree.certificate ≡ c.args.source = cc in
    rw c.in-Agree.is (c.text_of-certificate.result, rw same c.text_of-certificate.ensures, c.agree.ensures)

pub returns-in-Replay : goal.returns-in-Replay
returns-in-Replay g c =
    let given : Some c.in-Replay.opening.certificate ≡ Some c.args.source = ap certificate_of (sym c.in-Replay.is) ∙ c.requires.command in
    let same : c.in-Replay.opening.certificate ≡ c.args.source = cc in
    rw c.in-Replay.is (c.text_of-certificate.result, rw same c.text_of-certificate.ensures, c.replay.ensures)

pub returns-in-Serve : goal.returns-in-Serve
returns-in-Serve g c =
    let given : Some c.in-Serve.opening.certificate ≡ Some c.args.source = ap certificate_of (sym c.in-Serve.is) ∙ c.requires.command in
    let same : c.in-Serve.opening.certificate ≡ c.args.source = cc in
    rw c.in-Serve.is (c.text_of-certificate.result, rw same c.text_of-certificate.ensures, c.serve.ensures)
