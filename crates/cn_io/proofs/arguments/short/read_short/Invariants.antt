use Rattle.std.proofs.Common.{◌≡◌, ◌+◌, length, map}
use Rattle.cn_table.specs.Draft.{all_some}
use Rattle.cn_table.proofs.Lists.{with_front}
use Rattle.cn_io.specs.Arguments.Events.{event_of, word_of}
use Rattle.cn_io.proofs.ArgumentLemmas.ShortEvents.{pieces}
use Rattle.cn_io.proofs.arguments.short.read_short.Given as goal

abbrev pub invariant-loop-event : goal.invariant-loop-event
invariant-loop-event l = record {
  spelled : with_front (map word_of l.events.items) (all_some (map event_of (pieces l.rest))) ≡ all_some (map event_of (pieces l.list));
  many : length l.events.items + length (pieces l.rest) ≡ length (pieces l.list);
}

abbrev pub decreases-loop-event : goal.decreases-loop-event
decreases-loop-event l = length l.rest
