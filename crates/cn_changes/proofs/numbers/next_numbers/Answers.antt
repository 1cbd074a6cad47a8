use Rattle.std.proofs.Common.{◌∙◌, All, List, subst, sym}
use Rattle.cn_changes.specs.Changes.{IsChange}
use Rattle.cn_changes.specs.Served.{LeadsTo}
use Rattle.cn_changes.specs.Told.{AreNumbersOf}
use Rattle.cn_changes.specs.declared.change.Change.{Change}
use Rattle.cn_changes.proofs.Known.{changes_known, changes_lead}
use Rattle.cn_changes.proofs.numbers.next_numbers.Goals as goal

pub shared_search-requires-clause-known : goal.shared_search-requires-clause-known
shared_search-requires-clause-known g c = λ _ _.
    subst (λ (xs : List Change). All (IsChange c.args.table.now) xs) (sym (c.as_slice-listed.ensures.value ∙ c.in_ok-changes.ensures))
    (changes_known c.args.table.now c.args.target c.requires)

pub shared_search-requires-clause-target : goal.shared_search-requires-clause-target
shared_search-requires-clause-target g c = λ _ _.
    subst (λ (xs : List Change). All (LeadsTo c.args.target) xs) (sym (c.as_slice-listed.ensures.value ∙ c.in_ok-changes.ensures)) (changes_lead c.args.table.now c.args.target)

pub numbers_of-requires-clause-known : goal.numbers_of-requires-clause-known
numbers_of-requires-clause-known g c = λ _ _.
    subst (λ (xs : List Change). All (IsChange c.args.table.now) xs) (sym (c.as_slice-listed.ensures.value ∙ c.in_ok-changes.ensures))
    (changes_known c.args.table.now c.args.target c.requires)

pub returns-clause-numbers : goal.returns-clause-numbers
returns-clause-numbers g c =
    subst (λ (xs : List Change). AreNumbersOf c.args.kind c.args.table.now xs c.in_ok-numbers.numbers.items) (c.as_slice-listed.ensures.value ∙ c.in_ok-changes.ensures)
    c.in_ok-numbers.ensures
