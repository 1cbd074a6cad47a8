use Rattle.std.proofs.Common.{ℕ, ◌≡◌, ◌+◌, ◌<◌, ◌≤◌, [], length}
use Rattle.cn_table.specs.Run.{state_after}
use Rattle.cn_log.specs.Batches.{and_entry, entry_at, members}
use Rattle.cn_log.specs.Fields.{count_at}
use Rattle.cn_log.specs.Log.{operations_of}
use Rattle.cn_log.proofs.caller_state.CallerState.replay.Given as goal

abbrev pub invariant-loop-p : goal.invariant-loop-p
invariant-loop-p l = record {
  slots : l.self.replayed_slots ≡ l.fn.self.replayed_slots;
  entries : l.self.replayed_entries ≡ l.fn.self.replayed_entries + length (members l.p 0 l.batch);
  places : length l.self.calls_seen.calls ≡ 8;
  counted : (q : ℕ) → q < l.p → count_at l.self.calls_seen q ≡ count_at l.fn.self.calls_seen q + length (and_entry (entry_at l.batch q) []);
  left : (q : ℕ) → l.p ≤ q → count_at l.self.calls_seen q ≡ count_at l.fn.self.calls_seen q;
  made : l.self.calls ≡ l.fn.self.calls;
  doing : l.self.phase ≡ l.fn.self.phase;
  reached : l.self.state.0 ≡ state_after l.object l.fn.self.state.0 (operations_of (members l.p 0 l.batch));
  known : l.self.state.0 < length l.object.states;
}
