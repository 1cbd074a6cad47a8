use Rattle.std.proofs.Common.{ℕ, ◌≡◌, ◌∙◌, ◌++◌, ◌∷◌, [], List, inl, inr, ap, arith, length, refl, subst}
use Rattle.cn_joins.specs.Joins.{PlacedWord}
use Rattle.cn_stocks.proofs.LastingLemmas.Closing.{not_some}
use Rattle.cn_stocks.proofs.Steps.{shows_to}
use Rattle.cn_telling.proofs.CellLemmas.{within_long}
use Rattle.cn_join_find.specs.Steps.{IsShowing, LeadsTo, LeadsToShow, StandsAt}
use Rattle.cn_join_find.proofs.StepLemmas.{ends_behind, first_by_asked, first_by_step, place_known, shows_behind, stands}
use Rattle.cn_join_find.proofs.WordLemmas.{removal_at}
use Rattle.cn_join_find.proofs.words.first_word.Goals as goal

pub push_way-requires-clause-place : goal.push_way-requires-clause-place
push_way-requires-clause-place c = place_known c.args.views.now.cells c.args.place c.args.views.now.asked c.args.start c.in-Some.step c.in-Some.ensures.some.is_step

pub push_way-requires-clause-ends : goal.push_way-requires-clause-ends
push_way-requires-clause-ends c = ends_behind c.args.views.now.cells c.args.place c.args.views.now.asked c.args.start c.in-Some.step c.args.pair.state c.in-Some.ensures.some

pub returns-in-Some : goal.returns-in-Some
returns-in-Some c =
    let v = c.args.views.now in
    let step = c.in-Some.step in
    let f = c.args.first in
    let word = c.push_way.new.word.items in
    let mid : c.push.new.self.items ≡ f ∷ [] = c.in_ok-push.ensures.items ∙ ap (λ (l : List ℕ). l ++ f ∷ []) c.new-word.ensures.items in
    first_by_asked v.cells c.args.place v.asked c.args.start step f c.args.pair.response c.args.pair.state c.in-Some.ensures.same c.in-Some.ensures.answer c.in-Some.ensures.some word
    (record { word = word; place = 0 })
    (subst (λ (l : List ℕ). (items : List ℕ) → StandsAt v.cells step.place items → LeadsTo v.cells.table.now step.state items c.args.pair.state l word) mid c.in_ok-push_way.ensures) refl refl

pub unreachable-requires : goal.unreachable-requires
unreachable-requires c =
    let v = c.args.views.now in
    let t = v.cells.table.now in
    let k = length t.operations in
    let here = stands v.cells.stocks.now c.args.place c.requires.place in
    let removal = removal_at k v.cells.stocks.now c.args.place here.0 c.requires.views.cells.over.stocks here.1 in
    elim (shows_to t c.args.start here.0 removal c.args.first v.asked c.args.pair.response c.args.pair.state (c.requires.shows here.0 here.1).1) [
      | inl once ↦ c.asked_step_of.ensures.none (not_some c.asked_step_of.result c.in_default.not-Some) here.0 here.1 once.0 once.1
      | inr part ↦ c.shown_step.ensures.none (not_some c.shown_step.result c.in_default-shown_step.not-Some) here.0 here.1 part
    ]

pub push_shown-requires-clause-place : goal.push_shown-requires-clause-place
push_shown-requires-clause-place c = place_known c.args.views.now.cells c.args.place c.args.first c.args.start c.in-Some-shown_step.step c.in-Some-shown_step.ensures.some.is_step

pub push_shown-requires-clause-shows : goal.push_shown-requires-clause-shows
push_shown-requires-clause-shows c =
    shows_behind c.args.views.now c.args.place c.args.first c.args.start c.args.pair.response c.args.pair.state c.in-Some-shown_step.step c.in-Some-shown_step.ensures.some

pub overflow_cast-result : goal.overflow_cast-result
overflow_cast-result c =
    let v = c.args.views.now in
    let step = c.in-Some-shown_step.step in
    let f = c.args.first in
    let word = c.push_shown.new.word.items in
    let at = c.in_ok-at.at in
    let here = stands v.cells.stocks.now c.args.place c.requires.place in
    let mid : c.push.new.self.items ≡ f ∷ [] = c.in_ok-push.ensures.items ∙ ap (λ (l : List ℕ). l ++ f ∷ []) c.new-word.ensures.items in
    let w : PlacedWord = record { word = word; place = at } in
    let is : IsShowing v.cells.table.now c.args.start here.0 f v.asked c.args.pair.response c.args.pair.state w =
    first_by_step v c.args.place f c.args.start c.args.pair.response c.args.pair.state step c.in-Some-shown_step.ensures.some word at w
    (subst (λ (l : List ℕ). (items : List ℕ) → StandsAt v.cells step.place items → LeadsToShow v.cells.table.now step.state items v.asked c.args.pair.response c.args.pair.state l word at) mid c.in_ok-at.ensures)
    refl refl here.0 here.1 in
    omega (arith, is.has_place, within_long here.0 word is.within, (c.requires.shows here.0 here.1).0)

pub returns : goal.returns
returns c =
    let v = c.args.views.now in
    let step = c.in-Some-shown_step.step in
    let f = c.args.first in
    let word = c.push_shown.new.word.items in
    let at = c.in_ok-at.at in
    let mid : c.push.new.self.items ≡ f ∷ [] = c.in_ok-push.ensures.items ∙ ap (λ (l : List ℕ). l ++ f ∷ []) c.new-word.ensures.items in
    first_by_step v c.args.place f c.args.start c.args.pair.response c.args.pair.state step c.in-Some-shown_step.ensures.some word at (record { word = word; place = at })
    (subst (λ (l : List ℕ). (items : List ℕ) → StandsAt v.cells step.place items → LeadsToShow v.cells.table.now step.state items v.asked c.args.pair.response c.args.pair.state l word at) mid c.in_ok-at.ensures)
    refl refl
