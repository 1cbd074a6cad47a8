use Rattle.std.proofs.Common.{◌≡◌, true, arith}
use Rattle.cn_table.specs.Names.{is_name}
use Rattle.cn_cert.proofs.WrittenTexts.{name_text}
use Rattle.cn_cert.proofs.write.push_name.Goals as goal

pub returns-then-is_name : goal.returns-then-is_name
returns-then-is_name g c =
    let is : is_name c.args.name.now ≡ true = grind arith in
    let quoted = name_text (g.S.Sink.text c.args.out.now) c.args.name.now is in
    grind (arith, quoted, c.push-then-is_name.ensures)
