-- What the processes of a witness can see, a group at a time: where team A is first, and where team B
-- is.
use Rattle.std.specs.Prelude.{ℕ, ◌+◌, List, [], ◌++◌, codes, flat_map, map}
use Rattle.cn_table.specs.Names.{name_at}
use Rattle.cn_table.specs.TypeTable.{TypeTable}
use Rattle.cn_reasons.specs.declared.group.ChoiceGroups.{ChoiceGroups}
use Rattle.cn_reasons.specs.declared.sight.Sight.{Sight}
use Rattle.cn_reasons.specs.declared.witness.View.{View}
use Rattle.cn_text.specs.Columns.{widest}
use Rattle.cn_text.specs.Sides.{sides, widths_for}
use Rattle.cn_text.specs.declared.sides.SideWidths.{SideWidths}

-- what a process sees
unfoldable pub sight_text : TypeTable → Sight → List ℕ
sight_text t s = codes "got " ++ (name_at t.responses s.response.0
    ++ (codes ", reads " ++ (name_at t.states s.state.0 ++ [])))

-- the same is no wider than this
abbrev pub sight_width : TypeTable → ℕ
sight_width t = widest t.responses + widest t.states + 12

-- the view of a group
abbrev pub view_rows : TypeTable → SideWidths → View → List ℕ
view_rows t widths view = sides widths view.group (map (sight_text t) view.a_first.items)
    (map (sight_text t) view.b_first.items)

abbrev pub views_text : TypeTable → ChoiceGroups → List View → List ℕ
views_text t c views = flat_map (view_rows t (widths_for c (sight_width t))) views
