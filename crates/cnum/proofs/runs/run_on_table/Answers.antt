use Rattle.cnum.proofs.runs.run_on_table.Goals as goal

pub returns-in-Find : goal.returns-in-Find
returns-in-Find g c = λ stdin. rw c.in-Find.is (record {
  after = c.find.new.table;
  read = c.find.ensures.read;
  reported = c.find.ensures.found;
})

pub returns-in-FindUnread : goal.returns-in-FindUnread
returns-in-FindUnread g c = λ stdin. rw c.in-FindUnread.is (record {
  after = c.find_unread.new.table;
  read = c.find_unread.ensures.read;
  reported = c.find_unread.ensures.found;
})

pub returns-in-FindShortest : goal.returns-in-FindShortest
returns-in-FindShortest g c = λ stdin. rw c.in-FindShortest.is (record {
  after = c.find_shortest.new.table;
  read = c.find_shortest.ensures.read;
  reported = c.find_shortest.ensures.found;
})

pub returns-in-FindStocks : goal.returns-in-FindStocks
returns-in-FindStocks g c = λ stdin. rw c.in-FindStocks.is (record {
  after = c.find_stocks.new.table;
  read = c.find_stocks.ensures.read;
  reported = c.find_stocks.ensures.found;
})

pub returns-in-WhyStocks : goal.returns-in-WhyStocks
returns-in-WhyStocks g c = λ stdin. rw c.in-WhyStocks.is (record {
  after = c.why_stocks.new.table;
  read = c.why_stocks.ensures.read;
  reported = c.why_stocks.ensures.told;
})

pub returns-in-Lint : goal.returns-in-Lint
returns-in-Lint g c = λ stdin. rw c.in-Lint.is (record {
  after = c.lint.new.table;
  read = c.lint.ensures.read;
  reported = c.lint.ensures.linted;
})

pub returns-in-Draw : goal.returns-in-Draw
returns-in-Draw g c = λ stdin. rw c.in-Draw.is (record {
  after = c.draw.new.table;
  read = c.draw.ensures.read;
  reported = c.draw.ensures.drawn;
})

pub returns-in-Why : goal.returns-in-Why
returns-in-Why g c = λ stdin. rw c.in-Why.is (record {
  after = c.why.new.table;
  read = c.why.ensures.read;
  reported = c.why.ensures.told;
})

pub returns-in-WhyRecoverable : goal.returns-in-WhyRecoverable
returns-in-WhyRecoverable g c = λ stdin. rw c.in-WhyRecoverable.is (record {
  after = c.why_recoverable.new.table;
  read = c.why_recoverable.ensures.read;
  reported = c.why_recoverable.ensures.told;
})

pub returns-in-WhyUnread : goal.returns-in-WhyUnread
returns-in-WhyUnread g c = λ stdin. rw c.in-WhyUnread.is (record {
  after = c.why_unread.new.table;
  read = c.why_unread.ensures.read;
  reported = c.why_unread.ensures.told;
})

pub returns-in-Pairs : goal.returns-in-Pairs
returns-in-Pairs g c = λ stdin. rw c.in-Pairs.is (record {
  after = c.pairs.new.table;
  read = c.pairs.ensures.read;
  reported = c.pairs.ensures.told;
})

pub returns-in-Changes : goal.returns-in-Changes
returns-in-Changes g c = λ stdin. rw (c.in-Changes.is, ← c.asked_changes-asked.ensures) (record {
  after = c.changes.new.table;
  read = c.changes.ensures.read;
  reported = c.changes.ensures.told;
})
