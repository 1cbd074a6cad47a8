use Rattle.std.proofs.Common.{◌≡◌, ◌∙◌, ap, refl, subst, sym, Some, true≢false}
use Rattle.std.specs.Prelude.{slice_get}
use Rattle.std.proofs.lemmas.Option.{slice_get_read}
use Rattle.cn_check.specs.Versions.{choices_in_version}
use Rattle.cn_choice.specs.Canonical.{FitsTable}
use Rattle.cn_check.proofs.RefutationLemmas.{listed_fits}
use Rattle.cn_check.proofs.EntryLemmas.{no_collision, of_other_choice, refuted_more}
use Rattle.cn_check.proofs.refutation.check_entry.Goals as goal

pub returns-then-not-is_choice-clause-fault : goal.returns-then-not-is_choice-clause-fault
returns-then-not-is_choice-clause-fault c =
    let look = c.in-Some.ensures.lookup in
    let at : slice_get c.args.entries.now c.args.place ≡ Some c.in-Some.entry.now = slice_get_read c.args.entries.now _ c.args.place c.in-Some.entry.now refl look.3.0
    (look.3.1 c.in-Some.entry.now) in (
      c.requires.refuted,
      of_other_choice c.args.table.now (choices_in_version c.args.version c.args.table.now c.args.n) c.args.entries.now c.args.place _ c.in-Some.entry.now c.requires.here at
          (λ same. true≢false (rw c.if-not-is_choice.true at (sym (c.is_choice.ensures.1 (ap (λ e. e.choice) c.entry.view_is ∙ same))))),
    )

pub returns-then-not-holds_collision-clause-fault : goal.returns-then-not-holds_collision-clause-fault
returns-then-not-holds_collision-clause-fault c =
    let look = c.in-Some.ensures.lookup in
    let at : slice_get c.args.entries.now c.args.place ≡ Some c.in-Some.entry.now = slice_get_read c.args.entries.now _ c.args.place c.in-Some.entry.now refl look.3.0
    (look.3.1 c.in-Some.entry.now) in (
      c.requires.refuted,
      no_collision c.args.table.now (choices_in_version c.args.version c.args.table.now c.args.n) c.args.entries.now c.args.place _ c.in-Some.entry.now c.requires.here at
          (ap (λ e. e.choice) (sym c.entry.view_is) ∙ c.is_choice.ensures.0 c.if-not-is_choice.false)
          (λ holds. true≢false (rw c.if-not-holds_collision.true at (sym (c.holds_collision.ensures.1 holds)))),
    )

pub returns-clause-refuted : goal.returns-clause-refuted
returns-clause-refuted c =
    let look = c.in-Some.ensures.lookup in
    let at : slice_get c.args.entries.now c.args.place ≡ Some c.in-Some.entry.now = slice_get_read c.args.entries.now _ c.args.place c.in-Some.entry.now refl look.3.0 (look.3.1 c.in-Some.entry.now) in
    refuted_more c.args.table.now (choices_in_version c.args.version c.args.table.now c.args.n) c.args.entries.now c.args.place _ c.in-Some.entry.now c.requires.here at
    (ap (λ e. e.choice) (sym c.entry.view_is) ∙ c.is_choice.ensures.0 c.if-not-is_choice.false) (c.holds_collision.ensures.0 c.if-not-holds_collision.false) c.requires.refuted

pub holds_collision-requires : goal.holds_collision-requires
holds_collision-requires c =
    let t = c.args.table.now in
    let same = ap (λ e. e.choice) (sym c.entry.view_is) ∙ c.is_choice.ensures.0 c.if-not-is_choice.false in
    subst (FitsTable t) (sym same) (listed_fits c.canonical_list.ensures.listed c.live_list.ensures.listed c.args.version t c.args.n c.args.place _ c.requires.some c.requires.few c.requires.here)
