-- The text of an explanation of a recoverable number: the number, the table, why the number is so
-- much, and why it is no more.
use Rattle.std.specs.Prelude.{ℕ, ◌+◌, List, [], ◌++◌, length, codes, Option, Some, None}
use Rattle.std.specs.Fmt.{decimal}
use Rattle.cn_table.specs.Names.{name_at}
use Rattle.cn_table.specs.TypeTable.{TypeTable}
use Rattle.cn_choice.specs.TeamNames.{team_name}
use Rattle.cn_search.specs.NumberText.{number_text}
use Rattle.cn_search.specs.declared.exact.ConsensusNumber.{ConsensusNumber}
use Rattle.cn_search.specs.declared.exact.ConsensusNumber.TheVariants.{Finite, Infinite}
use Rattle.cn_reasons.specs.declared.reasons.RecoverableWay.{RecoverableWay}
use Rattle.cn_reasons.specs.declared.recording.Reader.{Reader}
use Rattle.cn_reasons.specs.declared.recording.RecordingWitness.{RecordingWitness}
use Rattle.cn_reasons.specs.declared.recoverable.RecoverableExplanation.{RecoverableExplanation}
use Rattle.cn_reasons.specs.declared.refutation.Refutation.{Refutation}
use Rattle.cn_sentences.specs.Lines.{alone_line, reader_line}
use Rattle.cn_text.specs.Folded.{folded}
use Rattle.cn_text.specs.Reasons.{each_number_line, example_line, not_listed, start_text, states_line}
use Rattle.cn_text.specs.Reasons.{ways_end, ways_words, witness_line}
use Rattle.cn_text.specs.Ways.{numbered, recoverable_way_text}
use Rattle.cn_text.specs.declared.limits.TheConstants.{LIVE_VERSION}
use Rattle.cn_text.specs.declared.reasons.NumberKind.TheVariants.{Recoverable}

-- ---- why the number is so much

-- where the start state stands, in which no process has moved yet
abbrev pub start_place : Option Reader → List ℕ
start_place None = codes ", which is in neither list.\n"
start_place (Some r) = codes ", which is also in the list of team " ++ (team_name r.other
    ++ (codes "; " ++ (reader_line r ++ [])))

-- the witness, and the states that its orders leave
unfoldable pub witness_text : TypeTable → RecordingWitness → List ℕ
witness_text t w =
    witness_line t w.processes w.choice
    ++ (states_line t (codes "A") (codes " first") w.a_states.items
    ++ (states_line t (codes "B") (codes " first") w.b_states.items
    ++ (codes "  No step yet: the state is " ++ (name_at t.states w.choice.start.0
    ++ (start_place w.reader
    ++ (codes "  No state is in both lists, so the state alone tells for good which team was first.\n"
    ++ []))))))

abbrev pub why : TypeTable → ConsensusNumber → Option RecordingWitness → List ℕ
why t number None = alone_line
why t number (Some w) = example_line number w.processes ++ witness_text t w

-- ---- why it is no more

unfoldable pub refutation_text : TypeTable → Refutation RecoverableWay → List ℕ
refutation_text t r =
    codes "Why not " ++ (decimal r.processes ++ (codes ": "
    ++ (ways_words (codes "the state does not tell") r.count
    ++ (numbered (recoverable_way_text t) 0 r.ways.items
    ++ (ways_end r.more LIVE_VERSION r.processes ++ [])))))

-- with no refutation: that every number has a witness, or that the ways are not listed
abbrev pub not_refuted : TypeTable → ConsensusNumber → List ℕ
not_refuted t Infinite = each_number_line
not_refuted t (Finite n) = not_listed (length t.states) (n + 1)

abbrev pub no_more : TypeTable → ConsensusNumber → Option (Refutation RecoverableWay) → List ℕ
no_more t number None = not_refuted t number
no_more t number (Some r) = refutation_text t r

-- ---- all of it

-- the text of an explanation
unfoldable pub recoverable_text : RecoverableExplanation → List ℕ
recoverable_text e =
    start_text e.table Recoverable (number_text e.number)
    ++ (folded (why e.table e.number e.witness) ++ (codes "\n"
    ++ (folded (no_more e.table e.number e.refutation) ++ [])))
