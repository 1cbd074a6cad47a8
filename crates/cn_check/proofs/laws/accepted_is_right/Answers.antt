use Rattle.cn_check.proofs.VerdictLemmas.{finding_accepted, number_accepted}
use Rattle.cn_check.proofs.laws.accepted_is_right.Goals as goal

pub returns-clause-number : goal.returns-clause-number
returns-clause-number c =
    number_accepted (record {
      canonical_decide = c.canonical_choices_decide.ensures.refuted;
      live_decide = c.live_choices_decide.ensures.refuted;
      number_found = λ t. c.greatest_before_failure.ensures.found t (c.monotonicity.ensures t);
      no_number = λ t. c.greatest_before_failure.ensures.none t (c.monotonicity.ensures t);
      no_witness = c.collision_or_witness.ensures.exactly;
      listed = c.live_list.ensures.listed;
    })

pub returns-clause-found : goal.returns-clause-found
returns-clause-found c =
    finding_accepted (record {
      canonical_decide = c.canonical_choices_decide.ensures.refuted;
      live_decide = c.live_choices_decide.ensures.refuted;
      number_found = λ t. c.greatest_before_failure.ensures.found t (c.monotonicity.ensures t);
      no_number = λ t. c.greatest_before_failure.ensures.none t (c.monotonicity.ensures t);
      no_witness = c.collision_or_witness.ensures.exactly;
      listed = c.live_list.ensures.listed;
    })
