-- How a command with calls ends.
use Rattle.std.specs.Prelude.{Bool, if◌then◌else◌}
use Rattle.cn_io.specs.declared.report.Outcome.{Outcome}
use Rattle.cn_io.specs.declared.report.Outcome.TheVariants.{Cut, Whole}

-- `Cut` if some call has no reply, and else `Whole`
abbrev pub cut_if : Bool → Outcome
cut_if is_cut = if is_cut then Cut else Whole
