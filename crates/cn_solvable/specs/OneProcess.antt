-- The protocol in which each process decides its own input: it solves consensus for one process.
use Rattle.std.specs.Prelude.{Bool, Option, None}
use Rattle.cn_agree.specs.declared.local.Local.{Local}
use Rattle.cn_agree.specs.declared.local.Local.TheVariants.{NotBegun, Active, Decided}
use Rattle.cn_consensus.specs.Protocol.{Action, Protocol}
use Rattle.cn_consensus.specs.Protocol.Action.{Decide, ReadRegister}

-- a process that has decided keeps its decision; no process is in another local state
abbrev pub own_action : Local Bool → Action (Local Bool) (Option Bool)
own_action NotBegun = ReadRegister 0 (λ v. NotBegun)
own_action (Active i x stage) = ReadRegister 0 (λ v. NotBegun)
own_action (Decided x) = Decide x

abbrev pub own_input : Protocol (Local Bool) (Option Bool)
own_input = record {
  start = λ p x. Decided x;
  action = λ p l. own_action l;
  registers = λ i. None;
  objects = λ i. 0;
}
