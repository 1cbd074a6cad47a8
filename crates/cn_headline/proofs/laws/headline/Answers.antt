use Rattle.std.proofs.Common.{◌+◌, length, Some, ap, sym, ◌∙◌}
use Rattle.cn_choice.specs.Canonical.{Choice}
use Rattle.cn_headline.proofs.Headline.{number_of_witness, serves_objects}
use Rattle.cn_headline.proofs.laws.headline.Goals as goal

pub returns : goal.returns
returns g c = λ t limit f found. record {
  number = found.number;
  plan = λ w plan witness is table choice. record {
    processes = number_of_witness c.live_list.ensures.listed t limit f w found witness ∙ ap (λ (x : Choice). Some (length x.a + length x.b)) (sym choice);
    consensus = c.plans_reach_consensus.ensures plan is;
    log = serves_objects c.event_lists_are_linearized.ensures.linearized plan;
  };
}
