use Rattle.std.proofs.Common.{◌≡◌, ◌++◌, map, drop}
use Rattle.serde_json.specs.View.{items_of}
use Rattle.serde_json.specs.Written.{compact_text, items_text}
use Rattle.cn_cert.specs.CertificateText.{collision_data, collisions_data}
use Rattle.cn_cert.proofs.write.push_collisions.Given as goal

abbrev pub invariant-loop-entry : goal.invariant-loop-entry
invariant-loop-entry g l = g.S.Sink.text l.out ++ items_text l.later (items_of (map collision_data (drop l.entry-index l.list))) ≡ g.S.Sink.text l.fn.out ++ compact_text (collisions_data l.list)
