use Rattle.std.proofs.Common.{List, ◌≡◌, ◌∙◌, ◌++◌, ◌∷◌, [], ap, subst, sym}
use Rattle.cn_meetings.specs.declared.sight.Sight.{Sight}
use Rattle.cn_meetings.specs.declared.sight.Sight.TheVariants.{Nothing, State}
use Rattle.cn_shortest.specs.Looks.{AreSights}
use Rattle.cn_shortest.specs.declared.looks.Looks.{Looks}
use Rattle.cn_shortest.proofs.Listing.{nothing_listed, responses_listed, states_listed}
use Rattle.cn_shortest.proofs.looks.sights.Goals as goal

pub returns-in_ok-push-in-AtStates : goal.returns-in_ok-push-in-AtStates
returns-in_ok-push-in-AtStates c =
    let first : c.push.new.self.items ≡ Nothing ∷ [] = c.in_ok-push.ensures.items ∙ ap (λ (xs : List Sight). xs ++ Nothing ∷ []) c.new-sights.ensures.items in
    subst (λ (looks : Looks). AreSights c.args.table.now looks c.push-in-AtStates.new.self.items) (sym c.in-AtStates.is)
    (states_listed c.args.table.now c.push-in-AtStates.new.self.items (c.in_ok-push-in-AtStates.ensures.items ∙ ap (λ (xs : List Sight). xs ++ State ∷ []) first))

pub returns-in_ok-add_responses-in-AtResponses : goal.returns-in_ok-add_responses-in-AtResponses
returns-in_ok-add_responses-in-AtResponses c =
    let first : c.push.new.self.items ≡ Nothing ∷ [] = c.in_ok-push.ensures.items ∙ ap (λ (xs : List Sight). xs ++ Nothing ∷ []) c.new-sights.ensures.items in
    subst (λ (looks : Looks). AreSights c.args.table.now looks c.add_responses.new.sights.items) (sym c.in-AtResponses.is)
    (responses_listed c.args.table.now c.push.new.self.items c.add_responses.new.sights.items first c.in_ok-add_responses-in-AtResponses.ensures)

pub returns-in-AtNothing : goal.returns-in-AtNothing
returns-in-AtNothing c =
    let first : c.push.new.self.items ≡ Nothing ∷ [] = c.in_ok-push.ensures.items ∙ ap (λ (xs : List Sight). xs ++ Nothing ∷ []) c.new-sights.ensures.items in
    subst (λ (looks : Looks). AreSights c.args.table.now looks c.push.new.self.items) (sym c.in-AtNothing.is) (nothing_listed c.args.table.now c.push.new.self.items first)
