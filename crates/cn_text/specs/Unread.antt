-- The text of an explanation of a number without reads: the number, the table, why the number is so
-- much, and why it is no more.
use Rattle.std.specs.Prelude.{ℕ, ◌+◌, ◌==◌, List, [], ◌++◌, codes, Bool, false}
use Rattle.std.specs.Prelude.{Option, Some, None, if◌then◌else◌}
use Rattle.std.specs.Fmt.{decimal}
use Rattle.cn_table.specs.Names.{name_at}
use Rattle.cn_table.specs.TypeTable.{TypeTable, operation_names}
use Rattle.cn_interference.specs.declared.rules.Rule.{Rule}
use Rattle.cn_unread_number.specs.BoundsText.{bounds_text}
use Rattle.cn_unread_number.specs.declared.bounds.NumberBounds.{NumberBounds}
use Rattle.cn_unread_number.specs.declared.bounds.NumberBounds.TheVariants.{AtLeast, Between, Exactly}
use Rattle.cn_unread_number.specs.declared.bounds.NumberBounds.TheVariants.{Infinite}
use Rattle.cn_unread_reasons.specs.declared.explanation.MostReason.{MostReason}
use Rattle.cn_unread_reasons.specs.declared.explanation.MostReason.TheVariants.{EachNumber, Open}
use Rattle.cn_unread_reasons.specs.declared.explanation.MostReason.TheVariants.{Trap, WithReads}
use Rattle.cn_unread_reasons.specs.declared.explanation.UnreadExplanation.{UnreadExplanation}
use Rattle.cn_unread_reasons.specs.declared.signs.SignWitness.{SignWitness}
use Rattle.cn_unread_reasons.specs.declared.trap.PlayedTrap.{PlayedTrap}
use Rattle.cn_unread_reasons.specs.declared.witness.UnreadWitness.{UnreadWitness}
use Rattle.cn_sentences.specs.Lines.{alone_line}
use Rattle.cn_sentences.specs.Unread.{merged_text, next_steps, open_line, sign_search, telling_line}
use Rattle.cn_sentences.specs.Unread.{undecided}
use Rattle.cn_text.specs.Explanation.{rule_words}
use Rattle.cn_text.specs.Folded.{folded}
use Rattle.cn_text.specs.Plays.{play_text}
use Rattle.cn_text.specs.Reasons.{each_number_line, said_for, single_line, start_text}
use Rattle.cn_text.specs.Reasons.{theorem_line, ways_notes, ways_words, witness_line}
use Rattle.cn_text.specs.UnreadViews.{unread_views_text}
use Rattle.cn_text.specs.Ways.{numbered}
use Rattle.cn_text.specs.declared.limits.TheConstants.{LIVE_VERSION}
use Rattle.cn_text.specs.declared.reasons.NumberKind.TheVariants.{Unread}

-- ---- why the number is so much

-- the number is at least this, and at most this if there is a greatest one
abbrev pub is_least : NumberBounds → ℕ → Bool
is_least (Exactly n) m = n == m
is_least Infinite m = false
is_least (Between least most) m = least == m
is_least (AtLeast least) m = least == m

-- for how many processes the witness is, where these are not the least
abbrev pub least_line : NumberBounds → ℕ → List ℕ
least_line bounds m = if is_least bounds m then [] else said_for m

-- what the processes of the witness do
unfoldable pub witness_lines : TypeTable → UnreadWitness → List ℕ
witness_lines t w =
    witness_line t w.processes w.choice ++ (next_steps t (codes "  ") w ++ [])

-- what they get
unfoldable pub views_part : TypeTable → UnreadWitness → List ℕ
views_part t w = unread_views_text t w.choice w.views.items
    ++ (codes "  No process gets the same on both sides, so each can tell which team was first.\n" ++ [])

-- both
unfoldable pub witness_text : TypeTable → UnreadWitness → List ℕ
witness_text t w = folded (witness_lines t w) ++ (views_part t w ++ [])

-- the signs, and what the processes do
unfoldable pub signs_text : TypeTable → SignWitness → List ℕ
signs_text t s =
    let single = name_at (operation_names t) s.choice.single.0 in
    let many = name_at (operation_names t) s.choice.many.0 in
    single_line (name_at t.states s.choice.state.0) single (codes " (team A)") many (codes " (team B)")
    ++ (sign_search t (codes "  ") s ++ [])

-- the witness, below the number of its processes
abbrev pub witness_part : TypeTable → NumberBounds → Option UnreadWitness → List ℕ
witness_part t bounds None = alone_line
witness_part t bounds (Some w) = least_line bounds w.processes ++ witness_text t w

-- the signs, or else the witness
abbrev pub least_part : UnreadExplanation → Option SignWitness → List ℕ
least_part e None = witness_part e.table e.bounds e.witness
least_part e (Some s) = folded (signs_text e.table s)

-- ---- why the number is no more

-- the rule of a type that no more processes solve with reads, if there is one
abbrev pub with_reads_reason : Option Rule → List ℕ
with_reads_reason None = codes " (cnum why of a table of these states tells why)"
with_reads_reason (Some rule) = codes ", since " ++ (rule_words rule ++ [])

unfoldable pub with_reads_line : Option Rule → ℕ → List ℕ
with_reads_line rule n = codes "Why not " ++ (decimal n ++ (codes ": not even if these states can be read"
    ++ (with_reads_reason rule ++ (codes ".\n" ++ []))))

abbrev pub no_more_with_reads : Option Rule → NumberBounds → List ℕ
no_more_with_reads rule (Exactly n) = with_reads_line rule (n + 1)
no_more_with_reads rule Infinite = each_number_line
no_more_with_reads rule (Between least most) = with_reads_line rule (most + 1)
no_more_with_reads rule (AtLeast least) = open_line

-- why such runs are enough, and how many positions the adversary needs
unfoldable pub trap_line : ℕ → List ℕ
trap_line positions =
    codes "  Who gets the same in two runs that leave one state decides the same in both.\n"
    ++ (codes "  Whatever a protocol does, the adversary keeps it in a trap. Positions of the trap: "
    ++ (decimal positions ++ (codes ".\n" ++ [])))

-- the choices, and the plays of the adversary
unfoldable pub trap_plays : TypeTable → PlayedTrap → List ℕ
trap_plays t p =
    codes "Why not " ++ (decimal p.processes ++ (codes ": "
    ++ (ways_words (codes "an adversary wins") p.count
    ++ (numbered (play_text t) 0 p.plays.items ++ []))))

unfoldable pub trap_text : TypeTable → PlayedTrap → List ℕ
trap_text t p = trap_plays t p ++ (ways_notes p.more LIVE_VERSION ++ (trap_line p.positions
    ++ (theorem_line (codes "without reads") p.processes ++ [])))

abbrev pub no_more : UnreadExplanation → MostReason → List ℕ
no_more e Open = open_line
no_more e EachNumber = each_number_line
no_more e (WithReads rule) = no_more_with_reads rule e.bounds
no_more e (Trap p) = trap_text e.table p

-- ---- all of it

-- the text behind the number and the table
unfoldable pub unread_reasons : UnreadExplanation → List ℕ
unread_reasons e =
    folded (merged_text e.given e.table e.merged.items) ++ (telling_line e.telling
    ++ (least_part e e.signs ++ (codes "\n"
    ++ (folded (no_more e e.most ++ undecided e.bounds) ++ []))))

-- the text of an explanation
unfoldable pub unread_text : UnreadExplanation → List ℕ
unread_text e = start_text e.table Unread (bounds_text e.bounds) ++ (unread_reasons e ++ [])
