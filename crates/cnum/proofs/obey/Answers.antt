use Rattle.std.proofs.Common.{◌∙◌, ap, sym}
use Rattle.cnum.proofs.obey.Goals as goal

pub returns : goal.returns
returns g c = (
  c.new-output.result,
  c.do_command-exit.new.output,
  c.new-input.result,
  ap (λ pipe. pipe.writer) c.new-output.ensures.writer ∙ c.new.ensures,
  c.new-output.ensures.unwritten,
  c.new-input.ensures,
  sym c.into_writer-writer.ensures,
  c.do_command-exit.ensures,
)
