use Rattle.cn_log.specs.Opening.{setting}
use Rattle.cn_app.proofs.LineLemmas.Log.{known_entries}
use Rattle.cn_app.proofs.lines.threads.service_lines.Goals as goal

pub entry_lines-requires-clause-known : goal.entry_lines-requires-clause-known
entry_lines-requires-clause-known c =
    rw (← c.requires.object)
    (known_entries (setting c.args.service.now.core) c.args.service.now.core.schedule c.logs_are_linearized.ensures.events c.logs_are_linearized.ensures.linearized)
