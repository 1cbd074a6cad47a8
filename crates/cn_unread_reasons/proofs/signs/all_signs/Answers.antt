use Rattle.std.proofs.Common.{◌↔◌, ℕ, List, Contains, subst}
use Rattle.std.specs.Prelude.{AllPairs, IsBitSet}
use Rattle.std.proofs.lemmas.Result.{IfOk-weaker}
use Rattle.cn_choice.specs.declared.team.Team.{Team}
use Rattle.cn_signs.specs.StateSets.{InTeam}
use Rattle.cn_unread_reasons.specs.SignWitnesses.{IsBefore, IsSignOf}
use Rattle.cn_unread_reasons.specs.declared.sight.Answer.{Answer}
use Rattle.cn_unread_reasons.proofs.SignsTold.{HasFor, exact_signs}
use Rattle.cn_unread_reasons.proofs.signs.all_signs.Goals as goal

pub returns-clause-signs : goal.returns-clause-signs
returns-clause-signs c =
    let t = c.args.table.now in
    let own = c.of_team-own.result in
    let others = c.of_team-others.result in
    IfOk-weaker c.signs_of.result (λ list. HasFor t own others c.as_slice.result.now list.items) (λ list. (a : Answer) → Contains list.items a ↔ IsSignOf t c.args.choice.now a)
    (λ list has. exact_signs t own others c.args.choice.now c.of-states.result list.items c.of-states.ensures.states c.of_team-own.ensures.same
    (subst (λ (team : Team). (q : ℕ) → IsBitSet others q ↔ InTeam c.of-states.result team q) c.other_team.ensures c.of_team-others.ensures.same)
    (subst (λ (os : List ℕ). HasFor t own others os list.items) c.as_slice.ensures.value has)) c.signs_of.ensures.same

pub returns-clause-order : goal.returns-clause-order
returns-clause-order c =
    IfOk-weaker c.signs_of.result (λ list. AllPairs (IsBefore c.as_slice.result.now) list.items) (λ list. AllPairs (IsBefore c.args.choice.now.further.items) list.items)
    (λ list order. subst (λ (os : List ℕ). AllPairs (IsBefore os) list.items) c.as_slice.ensures.value order) c.signs_of.ensures.order
