use Rattle.std.proofs.Common.{◌≡◌, ◌∙◌, ◌<◌, ℕ, List, Bool, All, false, get_or, length, ap, sym}
use Rattle.std.specs.List.{list_all}
use Rattle.cn_table.specs.TypeTable.{TypeTable}
use Rattle.cn_choice.specs.Canonical.{Choice}
use Rattle.cn_choice.specs.Live.{all_move}
use Rattle.cn_choice.specs.LiveLeft.{AreMoving}
use Rattle.cn_choice.proofs.ChoiceLemmas.BlockWalk.{b_keeps, both_move, marked_moves, none_from, passed_over}
use Rattle.cn_choice.proofs.block_choices.find_live.Goals as goal

-- a test by the marks tells whether the operations lead away
by_marks : (t : TypeTable) (q : ℕ) (marks : List Bool) (seen there os : List ℕ) (result told : Bool) → AreMoving t q marks → All (λ o. o < length t.operations) os
    → seen ≡ there → there ≡ os → result ≡ list_all (λ o. get_or marks o false) seen → result ≡ told → all_move t q os ≡ told
by_marks t q marks seen there os result told moving known e f g h =
    sym (marked_moves t q marks os moving known) ∙ (ap (λ (l : List ℕ). list_all (λ o. get_or marks o false) l) (sym (e ∙ f)) ∙ (sym g ∙ h))

pub returns-then-not-are_marked-clause-next : goal.returns-then-not-are_marked-clause-next
returns-then-not-are_marked-clause-next c =
    none_from c.args.table.now c.args.choice.now
    (by_marks c.args.table.now _ _ _ _ _ _ _ c.requires.moving c.requires.a c.as_slice.ensures.value (ap (λ (d : Choice). d.a) c.choice.view_is) c.are_marked.ensures c.if-not-are_marked.true)

pub returns-then-are_marked-clause-live : goal.returns-then-are_marked-clause-live
returns-then-are_marked-clause-live c t =
    both_move c.args.table.now c.args.choice.now
    (by_marks c.args.table.now _ _ _ _ _ _ _ c.requires.moving c.requires.a c.as_slice.ensures.value (ap (λ (d : Choice). d.a) c.choice.view_is) c.are_marked.ensures c.if-not-are_marked.false)
    (by_marks c.args.table.now _ _ _ _ _ _ _ c.requires.moving c.requires.b c.as_slice-2.ensures.value (ap (λ (d : Choice). d.b) c.choice.view_is) c.are_marked-2.ensures c.if-are_marked.true)

pub advance_live-requires-clause-a : goal.advance_live-requires-clause-a
advance_live-requires-clause-a c =
    by_marks c.args.table.now _ _ _ _ _ _ _ c.requires.moving c.requires.a c.as_slice.ensures.value (ap (λ (d : Choice). d.a) c.choice.view_is) c.are_marked.ensures c.if-not-are_marked.false

pub returns-clause-next : goal.returns-clause-next
returns-clause-next c =
    passed_over c.args.table.now c.args.choice.now (b_keeps c.args.table.now c.args.choice.now
    (by_marks c.args.table.now _ _ _ _ _ _ _ c.requires.moving c.requires.a c.as_slice.ensures.value (ap (λ (d : Choice). d.a) c.choice.view_is) c.are_marked.ensures c.if-not-are_marked.false)
    (by_marks c.args.table.now _ _ _ _ _ _ _ c.requires.moving c.requires.b c.as_slice-2.ensures.value (ap (λ (d : Choice). d.b) c.choice.view_is) c.are_marked-2.ensures c.if-are_marked.false))
    ∙ c.advance_live.ensures.next
