use Rattle.std.proofs.Common.{take}
use Rattle.std.proofs.lemmas.Str.{IsAscii-take, IsUtf8-from_ascii}
use Rattle.cn_cert.proofs.line.Line.text.Goals as goal

pub from_utf8_unchecked-requires : goal.from_utf8_unchecked-requires
from_utf8_unchecked-requires c = let line = c.args.self.now in IsUtf8-from_ascii (take c.args.end line.bytes) (IsAscii-take line.bytes c.args.end line.ascii)
