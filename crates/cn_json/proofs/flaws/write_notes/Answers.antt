use Rattle.cn_json.specs.Flaws.{notes_data}
use Rattle.cn_json.proofs.KnownNotes.{known_idle, known_unreached}
use Rattle.cn_json.proofs.Pieces.{piece}
use Rattle.cn_json.proofs.flaws.write_notes.Goals as goal

pub array_at-requires : goal.array_at-requires
array_at-requires c = rw (c.deref.ensures.value) (known_idle c.args.table.now c.args.notes.now.idle.items c.requires.idle)

pub array_at-requires-2 : goal.array_at-requires-2
array_at-requires-2 c = rw (c.deref-2.ensures.value) (known_unreached c.args.table.now c.args.notes.now.unreached.items c.requires.unreached)

pub returns : goal.returns
unfolding notes_data
returns c = rw (← c.deref.ensures.value, ← c.deref-2.ensures.value)
    (piece c.in_ok-begin_object.ensures (piece c.in_ok-begin_array_at.ensures (piece c.in_ok-end_array.ensures
    (piece c.in_ok-array_at.ensures (piece c.in_ok-array_at-2.ensures c.end_object.ensures)))))
