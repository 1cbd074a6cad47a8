use Rattle.cn_log.specs.Opening.{setting}
use Rattle.cn_app.proofs.LineLemmas.Log.{known_entries}
use Rattle.cn_app.proofs.LineLemmas.Threads.{told_have_responses}
use Rattle.cn_app.proofs.lines.threads.service_object.Goals as goal

pub service_json-requires-clause-known : goal.service_json-requires-clause-known
service_json-requires-clause-known c =
    rw (← c.requires.object)
    (known_entries (setting c.args.service.now.core) c.args.service.now.core.schedule c.logs_are_linearized.ensures.events c.logs_are_linearized.ensures.linearized)

pub service_json-requires-clause-answers : goal.service_json-requires-clause-answers
service_json-requires-clause-answers c =
    rw (c.deref-2.ensures.value, c.in_ok-answers.ensures, c.deref.ensures.value)
    (told_have_responses c.args.object.now 0 c.args.service.now.processes.items c.requires.range)
