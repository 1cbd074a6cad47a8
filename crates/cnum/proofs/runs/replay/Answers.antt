use Rattle.std.proofs.Common.{◌≡◌, ◌⊎◌, inr, subst}
use Rattle.cn_app.specs.Commands.Replay.{SpellEvents}
use Rattle.cnum.proofs.runs.replay.Goals as goal

pub returns : goal.returns
returns g c =
    inr (
      c.in_ok-events.events,
      c.in_ok-events.ensures,
      record {
        given = c.opening-given.result;
        after = c.replay.new.given;
        arguments = c.opening-given.ensures;
        read = c.replay.ensures.read;
        order = subst (λ word. (c.replay.new.given ≡ c.opening-given.result) ⊎ SpellEvents word.now c.in_ok-events.events) c.opening-given.ensures.capacity c.replay.ensures.order;
        reported = c.replay.ensures.served;
      },
    )
