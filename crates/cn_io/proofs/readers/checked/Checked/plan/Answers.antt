use Rattle.std.proofs.Common.{ap}
use Rattle.cn_io.proofs.AcceptedWitnesses.{no_meeting}
use Rattle.cn_io.specs.declared.readers.checked.Checked.{Checked}
use Rattle.cn_io.proofs.readers.checked.Checked.plan.Goals as goal

pub unreachable-requires : goal.unreachable-requires
unreachable-requires c =
    let checked = c.args.self.now in
    let first = rw c.in-Err-Meets.field-0-is at c.in-Err-Meets.ensures in
    no_meeting checked.table _ checked.certificate _ c.in-Some.witness c.in-Err-Meets.field-0-0 c.requires
    (ap (λ (x : Checked). x.table) c.self.view_is) (ap (λ (x : Checked). x.certificate.witness) c.self.view_is) c.in-Some.is first
