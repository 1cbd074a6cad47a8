-- The reports of commands.
use Rattle.std.proofs.Common.{◌≡◌, inl, inr, ℕ, List, Option, Result, refl, sym, subst}
use Rattle.cn_io.specs.Streams.Writing.{IsSilent, Reports}
use Rattle.cn_io.specs.declared.fault.AppFault.{AppFault}
use Rattle.cn_io.specs.declared.report.Outcome.{Outcome}
use Rattle.cn_io.specs.declared.report.Report.{Report}
use Rattle.cn_io.specs.declared.streams.output.Output.{Output}

-- an output that was not touched
pub silent : {W : Type 0} (output : Output W) → IsSilent output output
silent output = record { writer = refl; bytes = refl; progress = refl }

-- to report the result of a work is to report that work
pub reported : {W : Type 0} (contents : W → Option (List ℕ)) (work : Result Report AppFault → Type 0) (old new : Output W)
    (done : Result Report AppFault) (r : Result Outcome AppFault) → work done → Reports contents (λ q. q ≡ done) old new r
    → Reports contents work old new r
reported contents work old new done r has (inl (e, is, fault, silence)) = inl (e, subst work (sym is) has, fault, silence)
reported contents work old new done r has (inr (report, is, handed)) = inr (report, subst work (sym is) has, handed)
