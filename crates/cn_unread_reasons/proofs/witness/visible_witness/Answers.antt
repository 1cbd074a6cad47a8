use Rattle.std.proofs.Common.{◌≡◌, ◌∙◌, ℕ, ◌<◌, List, All, inl, length, refl, subst, sym}
use Rattle.std.specs.List.{AllZip}
use Rattle.std.proofs.lemmas.List.Elements.{All-nil}
use Rattle.cn_choice.specs.Canonical.{raw_choice_of}
use Rattle.cn_reasons.specs.Groups.{groups_of}
use Rattle.cn_unread.specs.Collects.{IsVisible}
use Rattle.cn_unread_reasons.specs.Known.{IsKnownFollowUp}
use Rattle.cn_unread_reasons.specs.UnreadWitnesses.{IsUnreadViewOf, numbers_of}
use Rattle.cn_unread_reasons.proofs.Fits.{known_numbers}
use Rattle.cn_views.specs.SilentOperations.{AreSilentOperations}
use Rattle.cn_views.proofs.Telling.{all_known, all_tell}
use Rattle.cn_unread_reasons.proofs.witness.visible_witness.Goals as goal

pub views_of-requires-clause-looks : goal.views_of-requires-clause-looks
views_of-requires-clause-looks c = rw c.as_slice-2.ensures.value (all_known c.args.table.now _ c.of-looks.ensures.silent)

pub returns-clause-witness : goal.returns-clause-witness
returns-clause-witness c =
    let t = c.args.table.now in
    let d = c.args.choice.now in
    let looks : List ℕ = c.of-looks.result.operations.items in
    let silent : AreSilentOperations t looks = c.of-looks.ensures.silent in
    let is : numbers_of c.in_ok-operations.operations.items ≡ looks = c.in_ok-operations.ensures ∙ c.as_slice.ensures.value in record {
      processes = refl;
      c = d;
      for_n = c.requires.fits;
      choice = c.choice_groups-groups.ensures.groups;
      told = inl (record {
        looks = subst (AreSilentOperations t) (sym is) silent;
        no_further = c.new.ensures.items;
        visible = subst (λ (os : List ℕ). IsVisible t os (raw_choice_of d)) (sym is) ((all_tell t looks silent (raw_choice_of d)).1 c.requires.told);
        views = subst (λ (os : List ℕ). AllZip (IsUnreadViewOf t os d) (groups_of d) c.in_ok-views.views.items) (c.as_slice-2.ensures.value ∙ sym is) c.in_ok-views.ensures.views;
      });
    }

pub returns-clause-known : goal.returns-clause-known
returns-clause-known c =
    let t = c.args.table.now in
    let is : numbers_of c.in_ok-operations.operations.items ≡ c.of-looks.result.operations.items = c.in_ok-operations.ensures ∙ c.as_slice.ensures.value in
    let known : All (λ (o : ℕ). o < length t.operations) c.of-looks.result.operations.items = all_known t _ c.of-looks.ensures.silent in record {
      some = c.requires.some;
      few = c.requires.few;
      choice = c.choice_groups-groups.ensures.known;
      looks = known_numbers t c.in_ok-operations.operations.items (subst (All (λ (o : ℕ). o < length t.operations)) (sym is) known);
      follow_ups = rw c.new.ensures.items (All-nil (IsKnownFollowUp t));
      views = c.in_ok-views.ensures.known;
    }
