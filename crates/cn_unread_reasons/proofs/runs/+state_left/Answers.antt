use Rattle.std.proofs.Common.{All, ◌∷◌, subst}
use Rattle.std.proofs.lemmas.List.Elements.{All-head, All-tail}
use Rattle.cn_reasons.specs.Known.{IsKnownStep}
use Rattle.cn_unread_reasons.proofs.runs.+state_left.Goals as goal

pub returns-in-Some-clause-known : goal.returns-in-Some-clause-known
returns-in-Some-clause-known t c t2 state known =
    let all : All (IsKnownStep t2) (c.in-Some.step.now ∷ c.in-Some.rest.now) = subst (All (IsKnownStep t2)) c.in-Some.ensures.cases.0 known in
    let first : IsKnownStep t2 c.in-Some.step.now = All-head (IsKnownStep t2) _ _ all in
    c.state_left.ensures.known t2 first.state (All-tail (IsKnownStep t2) _ _ all)
