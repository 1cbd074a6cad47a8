use Rattle.cn_log.specs.Opening.{setting_of}
use Rattle.cn_app.proofs.LineLemmas.Log.{answers_have_responses, known_entries}
use Rattle.cn_app.proofs.reports.replay.log_object.Goals as goal

pub log_json-requires-clause-known : goal.log_json-requires-clause-known
log_json-requires-clause-known c =
    rw (c.object.ensures, c.opening-opening.ensures)
    (known_entries (setting_of c.args.replayed.now.core.opening) c.args.replayed.now.core.schedule c.requires.events c.requires.linearized)

pub log_json-requires-clause-answers : goal.log_json-requires-clause-answers
log_json-requires-clause-answers c =
    rw (c.object.ensures, c.opening-opening.ensures, c.deref-2.ensures.value, c.in_ok-answers.ensures, c.deref.ensures.value)
    (answers_have_responses c.args.replayed.now.core.opening.object c.args.replayed.now.ends.items c.requires.responses)
