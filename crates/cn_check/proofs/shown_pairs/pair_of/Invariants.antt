use Rattle.std.proofs.Common.{◌<◌, ◌↔◌, IfSome, drop, length}
use Rattle.cn_choice.specs.Canonical.{raw_choice_of}
use Rattle.cn_check.specs.Runs.{AreMoves}
use Rattle.cn_check.proofs.WalkLemmas.{IsWalked}
use Rattle.cn_check.proofs.shown_pairs.pair_of.Given as goal

-- the whole list is moves where nobody has moved exactly if what is left is where these have; the walk so far, and the response seen is one of the table's
abbrev pub invariant-loop-p : goal.invariant-loop-p
invariant-loop-p l = record {
  moves : AreMoves l.n l.used (drop l.p-index l.list) ↔ AreMoves l.n 0 l.list;
  walked : IsWalked l.table (raw_choice_of (record { state = l.fn.start.0; a = l.teams.0.now; b = l.teams.1.now })) l.list l.process l.p-index l.state.0 l.own_response;
  in_range : IfSome l.own_response (λ response. response < length l.table.responses);
}
