use Rattle.std.proofs.Common.{◌≡◌, ◌+◌, ◌*◌, ◌≤◌, ◌++◌, map, drop, take}
use Rattle.serde_json.specs.View.{items_of}
use Rattle.serde_json.specs.Written.{compact_text, items_text}
use Rattle.cn_cert.specs.CertificateText.{number_data, numbers_data}
use Rattle.cn_cert.proofs.line.Line.put_numbers.Given as goal

abbrev pub invariant-loop-n : goal.invariant-loop-n
invariant-loop-n l = (take l.end l.self.bytes ++ items_text l.later (items_of (map number_data (drop l.n-index l.list)))
    ≡ take l.at l.fn.self.bytes ++ compact_text (numbers_data l.list)) × (l.end ≤ l.at + 1 + 4 * l.n-index)
