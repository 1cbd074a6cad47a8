use Rattle.cn_log.specs.Opening.{setting_of}
use Rattle.cn_app.proofs.LineLemmas.Log.{known_entries}
use Rattle.cn_app.proofs.reports.replay.log_lines.Goals as goal

pub entry_lines-requires-clause-known : goal.entry_lines-requires-clause-known
entry_lines-requires-clause-known c =
    rw (c.object-2.ensures, c.opening-opening.ensures)
    (known_entries (setting_of c.args.replayed.now.core.opening) c.args.replayed.now.core.schedule c.requires.events c.requires.linearized)
