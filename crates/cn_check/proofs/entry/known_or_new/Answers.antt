use Rattle.cn_choice.specs.Canonical.{Choice}
use Rattle.cn_check.proofs.LineLemmas.{known_begins}
use Rattle.cn_check.proofs.entry.known_or_new.Goals as goal

pub returns-in-Some-clause-begins : goal.returns-in-Some-clause-begins
returns-in-Some-clause-begins c =
    let choice : Choice = record { state = c.args.state.0; a = c.args.a.now; b = c.args.b.now } in
    known_begins c.args.table.now choice _ c.args.bytes.now _ _ c.requires.known c.in-Some.ensures.known c.in-Some.ensures.text
