use Rattle.cn_io.proofs.readers.accepted.is_accepted.Goals as goal

pub returns-in-Some : goal.returns-in-Some
returns-in-Some c = λ yes.
    let entries = c.accepts.ensures yes in
    (record c.in-Some.frame.certificate { collisions = entries.0 }, c.in-Some.ensures entries.0 entries.1 entries.2, entries.3)
