use Rattle.std.proofs.Common.{ℕ, ◌↔◌, subst}
use Rattle.cn_outcomes.specs.PairSets.{Has}
use Rattle.cn_choice.specs.OutcomeSets.{InOutcomeSet}
use Rattle.cn_choice.specs.RawChoices.{RawChoice}
use Rattle.cn_outcomes.proofs.Packing.{run_results}
use Rattle.cn_outcomes.proofs.outcome_sets.outcomes.Goals as goal

pub returns : goal.returns
returns c =
    let t = c.args.table.now in
    let first = c.first_twin-first.result in
    subst (λ (raw : RawChoice). (r q : ℕ) → Has c.outcomes_from.result r q ↔ InOutcomeSet t raw c.args.team c.args.process (r, q)) c.of-raw.ensures (λ r q.
    let same = run_results t c.of-raw.result c.args.team c.links-links.result c.links-links.ensures first c.args.process (r, q) c.first_twin-first.ensures.upto c.first_twin-first.ensures.run in
    (λ h. same.0 ((c.outcomes_from.ensures r q).0 h), λ h. (c.outcomes_from.ensures r q).1 (same.1 h)))
