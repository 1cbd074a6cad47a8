-- What the processes of a witness get without reads, a group at a time: where team A is first, and
-- where team B is.
use Rattle.std.specs.Prelude.{ℕ, List, [], ◌∷◌, flat_map, map, max}
use Rattle.cn_table.specs.TypeTable.{TypeTable}
use Rattle.cn_reasons.specs.declared.group.ChoiceGroups.{ChoiceGroups}
use Rattle.cn_sentences.specs.Unread.{unread_sight_text}
use Rattle.cn_unread_reasons.specs.declared.witness.UnreadView.{UnreadView}
use Rattle.cn_text.specs.Columns.{widest}
use Rattle.cn_text.specs.Sides.{sides, widths_for}
use Rattle.cn_text.specs.declared.sides.SideWidths.{SideWidths}

-- the width of the widest text of a view, and of several
abbrev pub view_width : TypeTable → UnreadView → ℕ
view_width t v = max (widest (map (unread_sight_text t) v.a_first.items))
    (widest (map (unread_sight_text t) v.b_first.items))

abbrev pub widest_sight : TypeTable → List UnreadView → ℕ
widest_sight t [] = 0
widest_sight t (v ∷ vs) = max (view_width t v) (widest_sight t vs)

-- the view of a group
abbrev pub unread_view_rows : TypeTable → SideWidths → UnreadView → List ℕ
unread_view_rows t widths v = sides widths v.group (map (unread_sight_text t) v.a_first.items)
    (map (unread_sight_text t) v.b_first.items)

abbrev pub unread_views_text : TypeTable → ChoiceGroups → List UnreadView → List ℕ
unread_views_text t c views =
    flat_map (unread_view_rows t (widths_for c (widest_sight t views))) views
