use Rattle.std.proofs.Common.{◌≡◌, ◌≤◌, length}
use Rattle.std.specs.Io.KnownBytes.{Consumes}
use Rattle.cn_io.specs.Streams.Reading.{most_of}
use Rattle.cn_io.specs.declared.streams.progress.Progress.TheVariants.{Open}
use Rattle.cn_io.proofs.streams.text.Text.fill.Given as goal

abbrev pub invariant-loop : goal.invariant-loop
invariant-loop g l = record {
  turns : l.counter ≤ length l.self.bytes.items;
  within : length l.self.bytes.items ≤ most_of l.source;
  unfinished : l.self.progress ≡ Open;
  consumed : Consumes (g.R.Read.remaining l.initial.self.reader) (g.R.Read.remaining l.self.reader) l.self.bytes.items;
}
