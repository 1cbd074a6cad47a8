-- Facts about a served object, whoever made the gates.
use Rattle.std.proofs.Common.{inl, inr, ℕ, List, map, Option, Result, Ok, Err}
use Rattle.cn_hall.specs.Seats.{SeatState}
use Rattle.cn_hall.specs.declared.call.Go.{Go}
use Rattle.cn_form.specs.declared.answer_form.AnswerForm.{AnswerForm}
use Rattle.cn_io.specs.Arguments.Calls.{GivesCalls, calls_in}
use Rattle.cn_io.specs.Arguments.Events.{GivesCapacity}
use Rattle.cn_app.specs.Commands.Serve.{HasServeReport, IsServeReport}
use Rattle.cn_io.specs.Steps.{Then}
use Rattle.cn_io.specs.Streams.Writing.{Reports}
use Rattle.cn_io.specs.Texts.Openings.{GivesOpening}
use Rattle.cn_service.specs.Workers.{EachHasOneGate}
use Rattle.cn_io.specs.declared.arguments.list_text.ListText.{ListText}
use Rattle.cn_io.specs.declared.fault.AppFault.{AppFault}
use Rattle.cn_io.specs.declared.readers.opening.OpeningArguments.{OpeningArguments}
use Rattle.cn_io.specs.declared.report.Outcome.{Outcome}
use Rattle.cn_io.specs.declared.report.Report.{Report}
use Rattle.cn_io.specs.declared.streams.output.Output.{Output}

-- a fact that follows for each value and for each fault follows for a result
by_result : {X : Type 0} (P Q : Result X AppFault → Type 0) → ((x : X) → P (Ok x) → Q (Ok x)) → ((e : AppFault) → P (Err e) → Q (Err e))
    → (r : Result X AppFault) → P r → Q r
by_result P Q value fault (Ok x) h = value x h
by_result P Q value fault (Err e) h = fault e h

-- a weaker fact about the step behind a first one
behind : {X Y : Type 0} (first : Result X AppFault → Type 0) (next less : X → Result Y AppFault → Type 0)
    → ((x : X) (r : Result Y AppFault) → next x r → less x r) → (r : Result Y AppFault) → Then first next r → Then first less r
behind first next less follows r (inl fault) = inl fault
behind first next less follows r (inr (x, is, after)) = inr (x, is, follows x r after)

-- and about the work that a command reports
reports_less : {W : Type 0} (contents : W → Option (List ℕ)) (work less : Result Report AppFault → Type 0)
    → ((q : Result Report AppFault) → work q → less q) → (u v : Output W) (r : Result Outcome AppFault)
    → Reports contents work u v r → Reports contents less u v r
reports_less contents work less follows u v r (inl (e, is, fault, silent)) = inl (e, follows (Err e) is, fault, silent)
reports_less contents work less follows u v r (inr (report, is, handed)) = inr (report, follows (Ok report) is, handed)

module _ {G : Type 0} (asks : G → SeatState → ℕ → G → Type 0) (says : G → Go) (made : ℕ → G → Type 0) where
  served_by_any : {R C O : Type 0} (given : OpeningArguments R C O) (calls : ListText) (told : AnswerForm) (q : Result Report AppFault)
      → HasServeReport (EachHasOneGate asks says made) given calls told q → HasServeReport (EachHasOneGate asks says (λ _ _. Unit {0})) given calls told q
  served_by_any given calls told q h =
      behind (GivesCapacity given.capacity.now) _ _ (λ slots. behind (GivesCalls calls) _ _ (λ lists. behind (GivesOpening given slots) _ _ (λ o.
      by_result (IsServeReport (EachHasOneGate asks says made) told o (calls_in o.object (map (λ list. list.items) lists.items)))
      (IsServeReport (EachHasOneGate asks says (λ _ _. Unit {0})) told o (calls_in o.object (map (λ list. list.items) lists.items)))
      (λ report done. (record {
        fit = done.fit;
        log = done.log;
        opened = done.opened;
        may_come = done.may_come;
        linearized = done.linearized;
        bypass = done.bypass;
        wait_free = done.wait_free;
        worked = done.worked;
        each = done.each;
        served = done.served;
        gated = λ p less. let one = done.gated p less in (
          one.0,
          one.1,
          record {
            gate = one.2.gate;
            before = one.2.before;
            after = one.2.after;
            made_for = tt;
            process = one.2.process;
            first = one.2.first;
            carried = one.2.carried;
            asked = one.2.asked;
          },
        );
        written = done.written;
        ended = done.ended;
      }))
      (λ e fault. fault)))) q h

  -- the report of a served object, whoever made the gates
  pub reports_any_gates : {R C O W : Type 0} (contents : W → Option (List ℕ)) (given : OpeningArguments R C O) (calls : ListText) (told : AnswerForm) (u v : Output W)
      (r : Result Outcome AppFault) → Reports contents (HasServeReport (EachHasOneGate asks says made) given calls told) u v r
      → Reports contents (HasServeReport (EachHasOneGate asks says (λ _ _. Unit {0})) given calls told) u v r
  reports_any_gates contents given calls told u v r = reports_less contents (HasServeReport (EachHasOneGate asks says made) given calls told)
      (HasServeReport (EachHasOneGate asks says (λ _ _. Unit {0})) given calls told) (served_by_any given calls told) u v r
