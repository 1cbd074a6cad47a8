use Rattle.cn_unread_cert.proofs.maker.unread_certificate.Goals as goal

pub returns-clause-kept : goal.returns-clause-kept
returns-clause-kept g c =
    let found = c.in_ok-number.number in record {
      merged = found.merged.table;
      merging = (c.tables_are_valid.ensures.table, (found.merged.class_of.items, c.in_ok-number.ensures.merged));
      found = found.evidence;
      shown = c.in_ok-number.ensures.shown;
      close = c.in_ok-number.ensures.close;
      lower = c.in_ok-certificate.ensures.least;
      upper = c.in_ok-certificate.ensures.most;
    }
