use Rattle.std.proofs.Common.{◌≡◌, ◌⊎◌, inr, subst}
use Rattle.cn_app.specs.Commands.Serve.{SpellCalls}
use Rattle.cnum.proofs.GateLemmas.{reports_any_gates}
use Rattle.cnum.proofs.runs.serve.Goals as goal

pub returns : goal.returns
returns g c =
    inr (
      c.in_ok-calls.calls,
      c.in_ok-calls.ensures,
      record {
        given = c.opening-given.result;
        after = c.serve.new.given;
        arguments = c.opening-given.ensures;
        read = c.serve.ensures.read;
        order = subst (λ word. (c.serve.new.given ≡ c.opening-given.result) ⊎ SpellCalls word.now c.in_ok-calls.calls) c.opening-given.ensures.capacity c.serve.ensures.order;
        reported = reports_any_gates _ _ _ g.O.Write.contents c.serve.new.given c.in_ok-calls.calls c.args.form c.args.output.now c.serve.new.output c.serve.result c.serve.ensures.served;
      },
    )
