-- An explanation of a number without reads in Markdown.
use Rattle.std.specs.Prelude.{codes, ℕ, ◌+◌, ◌==◌, List, [], ◌∷◌, ◌++◌, length}
use Rattle.std.specs.Prelude.{flat_map, if◌then◌else◌, Option, Some, None}
use Rattle.std.specs.Fmt.{decimal}
use Rattle.cn_table.specs.Names.{name_at}
use Rattle.cn_table.specs.TypeTable.{TypeTable, operation_names}
use Rattle.cn_interference.specs.declared.rules.Rule.{Rule}
use Rattle.cn_unread_number.specs.BoundsText.{bounds_text}
use Rattle.cn_unread_number.specs.declared.bounds.NumberBounds.{NumberBounds}
use Rattle.cn_unread_number.specs.declared.bounds.NumberBounds.TheVariants.{AtLeast, Between, Exactly}
use Rattle.cn_unread_number.specs.declared.bounds.NumberBounds.TheVariants.{Infinite}
use Rattle.cn_unread_reasons.specs.declared.explanation.MostReason.{MostReason}
use Rattle.cn_unread_reasons.specs.declared.explanation.MostReason.TheVariants.{EachNumber, Open}
use Rattle.cn_unread_reasons.specs.declared.explanation.MostReason.TheVariants.{Trap, WithReads}
use Rattle.cn_unread_reasons.specs.declared.explanation.UnreadExplanation.{UnreadExplanation}
use Rattle.cn_unread_reasons.specs.declared.sight.UnreadSight.{UnreadSight}
use Rattle.cn_unread_reasons.specs.declared.signs.SignWitness.{SignWitness}
use Rattle.cn_unread_reasons.specs.declared.witness.UnreadView.{UnreadView}
use Rattle.cn_unread_reasons.specs.declared.witness.UnreadWitness.{UnreadWitness}
use Rattle.cn_sentences.specs.Lines.{alone_line}
use Rattle.cn_sentences.specs.Unread.{merged_text, next_steps, open_line, sign_search, telling_line}
use Rattle.cn_sentences.specs.Unread.{undecided, unread_sight_text}
use Rattle.cn_markdown.specs.Explanation.{choices_line, rule_line, start}
use Rattle.cn_markdown.specs.Lasting.{single_start}
use Rattle.cn_markdown.specs.Numbers.{unread_head}
use Rattle.cn_markdown.specs.Recoverable.{each_number_line}
use Rattle.cn_markdown.specs.Rows.{name_rule}
use Rattle.cn_markdown.specs.Witness.{group_cells}

-- ---- why it is so much

-- what a process gets, behind a mark
abbrev pub marked_sight : TypeTable → List ℕ → UnreadSight → List ℕ
marked_sight t mark s = mark ++ unread_sight_text t s

-- what the processes of a group can get, as it stands in a cell
abbrev pub sights : TypeTable → List UnreadSight → List ℕ
sights t [] = []
sights t (s ∷ ss) = marked_sight t (codes " ") s ++ flat_map (marked_sight t (codes "; ")) ss

-- the row of a group, with what its processes can get where each team is first
unfoldable pub view_row : TypeTable → UnreadView → List ℕ
view_row t v = group_cells t v.group ++ (sights t v.a_first.items ++ (codes " |"
    ++ (sights t v.b_first.items ++ (codes " |\n" ++ []))))

-- for how many processes the witness is, its start state, and what they do
unfoldable pub witness_start : TypeTable → UnreadWitness → List ℕ
witness_start t w = decimal w.processes ++ (codes " processes: from state "
    ++ (name_at t.states w.choice.start.0
    ++ (codes ", each can tell which team was first, by what it gets.\n"
    ++ (next_steps t [] w ++ []))))

-- the table of what they get
unfoldable pub views_table : TypeTable → List UnreadView → List ℕ
views_table t views = codes "\n| Processes | Team | Operation | Team A first | Team B first |\n"
    ++ (name_rule 5 ++ (flat_map (view_row t) views ++ []))

-- the same, if that is told
abbrev pub views_told : TypeTable → List UnreadView → List ℕ
views_told t views = if length views == 0 then [] else views_table t views

unfoldable pub witness_table : TypeTable → UnreadWitness → List ℕ
witness_table t w = witness_start t w ++ (views_told t w.views.items ++ [])

abbrev pub witness_markdown : TypeTable → Option UnreadWitness → List ℕ
witness_markdown t None = alone_line
witness_markdown t (Some w) = witness_table t w

-- the signs, and what the processes do
unfoldable pub signs_markdown : TypeTable → SignWitness → List ℕ
signs_markdown t s =
    let single = name_at (operation_names t) s.choice.single.0 in
    let many = name_at (operation_names t) s.choice.many.0 in
    single_start (name_at t.states s.choice.state.0) single (codes " (team A)") many (codes " (team B)")
    ++ (codes "\n" ++ (sign_search t [] s ++ []))

-- the signs, or else the witness
abbrev pub least_markdown : UnreadExplanation → Option SignWitness → List ℕ
least_markdown e None = witness_markdown e.table e.witness
least_markdown e (Some s) = signs_markdown e.table s

-- ---- why it is no more

unfoldable pub with_reads_line : ℕ → List ℕ
with_reads_line n = decimal n ++ (codes " processes: not even if these states can be read.\n" ++ [])

-- that reads do not help either, where no rule says so
abbrev pub no_more_with_reads : NumberBounds → List ℕ
no_more_with_reads (Exactly n) = with_reads_line (n + 1)
no_more_with_reads Infinite = each_number_line
no_more_with_reads (Between least most) = with_reads_line (most + 1)
no_more_with_reads (AtLeast least) = open_line

-- the rule, or the same
abbrev pub with_reads_markdown : NumberBounds → Option Rule → List ℕ
with_reads_markdown bounds None = no_more_with_reads bounds
with_reads_markdown bounds (Some rule) = rule_line rule

abbrev pub no_more : UnreadExplanation → MostReason → List ℕ
no_more e Open = open_line
no_more e EachNumber = each_number_line
no_more e (WithReads rule) = with_reads_markdown e.bounds rule
no_more e (Trap p) =
    choices_line (codes "an adversary hides which team was first") p.processes p.count

-- ---- all of it

-- why the number is so much, and why it is no more
unfoldable pub unread_reasons : UnreadExplanation → List ℕ
unread_reasons e =
    merged_text e.given e.table e.merged.items ++ (telling_line e.telling
    ++ (least_markdown e e.signs ++ (codes "\n" ++ (no_more e e.most
    ++ (undecided e.bounds ++ [])))))

-- a table with the number, the table of the type, and the reasons
unfoldable pub unread_markdown : UnreadExplanation → List ℕ
unread_markdown e = start unread_head e.table (bounds_text e.bounds) ++ (unread_reasons e ++ [])
