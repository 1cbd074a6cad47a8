-- The text of an explanation: the number, the table, why the number is so much, and why it is no
-- more.
use Rattle.std.specs.Prelude.{ℕ, ◌+◌, List, [], ◌∷◌, ◌++◌, length, codes, Bool, true, false}
use Rattle.std.specs.Prelude.{◌&&◌, nat_le, Option, Some, None, if◌then◌else◌, flat_map}
use Rattle.std.specs.Fmt.{decimal}
use Rattle.cn_table.specs.Names.{name_at}
use Rattle.cn_table.specs.TypeTable.{TypeTable, operation_names}
use Rattle.cn_interference.specs.declared.pairs.OperationPair.{OperationPair}
use Rattle.cn_interference.specs.declared.rules.Rule.{Rule}
use Rattle.cn_interference.specs.declared.rules.Rule.TheVariants.{InterferenceWithoutAnswers, HiddenOperations, TwoStates, Interference}
use Rattle.cn_search.specs.declared.exact.ConsensusNumber.TheVariants.{Finite, Infinite}
use Rattle.cn_reasons.specs.declared.explanation.Explanation.{Explanation}
use Rattle.cn_reasons.specs.declared.lasting.LastingWitness.{LastingWitness}
use Rattle.cn_reasons.specs.declared.numbers.TypeNumber.{TypeNumber}
use Rattle.cn_reasons.specs.declared.numbers.TypeNumber.TheVariants.{Exact, UpTo}
use Rattle.cn_reasons.specs.declared.refutation.Refutation.{Refutation}
use Rattle.cn_reasons.specs.declared.way.Way.{Way}
use Rattle.cn_reasons.specs.declared.witness.Witness.{Witness}
use Rattle.cn_sentences.specs.Lines.{alone_line, limit_line}
use Rattle.cn_sentences.specs.Numbers.{number_words}
use Rattle.cn_sentences.specs.Shortest.{shortest_line}
use Rattle.cn_sentences.specs.declared.shortest.ShortestCost.{ShortestCost}
use Rattle.cn_text.specs.Folded.{folded}
use Rattle.cn_text.specs.Reasons.{each_number_line, example_line, not_listed, single_line, start_text}
use Rattle.cn_text.specs.Reasons.{states_line, ways_end, ways_words, witness_line}
use Rattle.cn_text.specs.Views.{views_text}
use Rattle.cn_text.specs.Ways.{numbered, way_text}
use Rattle.cn_text.specs.declared.limits.TheConstants.{MOST_APART}
use Rattle.cn_text.specs.declared.reasons.NumberKind.TheVariants.{Readable}

-- ---- why it is so much

unfoldable pub lasting_text : TypeTable → LastingWitness → List ℕ
lasting_text t l =
    let single = name_at (operation_names t) l.lasting.single.0 in
    let many = name_at (operation_names t) l.lasting.many.0 in
    single_line (name_at t.states l.lasting.start.0) single [] many []
    ++ (states_line t single (codes " first") l.single_states.items
    ++ (states_line t many (codes " first, or no step yet") l.many_states.items
    ++ (codes "  No state is in both lists, so each process can tell which came first, however many there are.\n"
    ++ [])))

-- the operations that last, if they are told
abbrev pub lasting_part : TypeTable → Option LastingWitness → List ℕ
lasting_part t None = []
lasting_part t (Some l) = folded (lasting_text t l)

-- where the number has a limit, the witness is for the number
abbrev pub example_part : TypeNumber → ℕ → List ℕ
example_part (Exact number) m = example_line number m
example_part (UpTo limit number) m = []

-- the witness, and what its processes can see
unfoldable pub witness_text : TypeTable → Witness → List ℕ
witness_text t w =
    folded (witness_line t w.processes w.choice) ++ (views_text t w.choice w.views.items
    ++ (codes "  No process has a pair on both sides, so each can tell which team was first.\n" ++ []))

abbrev pub why : TypeTable → TypeNumber → Option Witness → List ℕ
why t number None = alone_line
why t number (Some w) = example_part number w.processes ++ witness_text t w

-- ---- why it is no more

-- a rule in words: what it says of the operations
unfoldable pub rule_words : Rule → List ℕ
rule_words InterferenceWithoutAnswers =
    codes "no operation answers, and two always commute, or one wipes out the other"
rule_words HiddenOperations =
    codes "in every state, of any two operations, one tells nothing of the other"
rule_words TwoStates =
    codes "with two states any two operations commute, or one wipes out the other"
rule_words Interference =
    codes "in every state any two operations commute, or one wipes out the other"

-- the rule by which the number is no more, if one applies
abbrev pub rule_sentence : Option Rule → List ℕ
rule_sentence None = []
rule_sentence (Some rule) = codes "proved, since " ++ (rule_words rule ++ (codes ".\n" ++ []))

-- the words before the ways, behind those for a rule
abbrev pub in_full : Option Rule → List ℕ
in_full None = []
in_full (Some rule) = codes "In full: "

-- the ways with a limit, with no rule or if all are asked for: a rule says the same
abbrev pub with_ways : TypeNumber → Option Rule → Bool → Bool
with_ways (UpTo limit number) rule all = true
with_ways (Exact number) None all = true
with_ways (Exact number) (Some rule) all = all

unfoldable pub ways_part : Explanation → Refutation Way → List ℕ
ways_part e r =
    in_full e.rule ++ (ways_words (codes "a process cannot tell") r.count
    ++ (numbered (way_text e.table) 0 r.ways.items
    ++ (ways_end r.more e.version r.processes ++ [])))

-- why the number is not n: the rule, and the ways
unfoldable pub refutation_text : Explanation → Refutation Way → List ℕ
refutation_text e r =
    codes "Why not " ++ (decimal r.processes ++ (codes ": " ++ (rule_sentence e.rule
    ++ ((if with_ways e.number e.rule e.all then ways_part e r else []) ++ []))))

-- with no refutation: that no more was looked for, or that it is not listed
abbrev pub not_refuted : TypeTable → ℕ → TypeNumber → List ℕ
not_refuted t limit (UpTo most number) = limit_line limit
not_refuted t limit (Exact (Finite n)) = not_listed (length t.states) (n + 1)
not_refuted t limit (Exact Infinite) = each_number_line

-- what is refuted is told of a number up to a limit, and of a finite one
abbrev pub tells_refutation : TypeNumber → Bool
tells_refutation (UpTo limit number) = true
tells_refutation (Exact (Finite n)) = true
tells_refutation (Exact Infinite) = false

abbrev pub no_more : Explanation → Option (Refutation Way) → List ℕ
no_more e None = not_refuted e.table e.limit e.number
no_more e (Some r) =
    if tells_refutation e.number then refutation_text e r
    else not_refuted e.table e.limit e.number

-- ---- the pairs that do not interfere

-- the two operations of a pair behind a word
unfoldable pub exception : TypeTable → List ℕ → OperationPair → List ℕ
exception t before pair = before ++ (name_at (operation_names t) pair.first.0 ++ (codes " and "
    ++ (name_at (operation_names t) pair.second.0 ++ [])))

-- the words for all other pairs
unfoldable pub rest_interferes : List ℕ
rest_interferes =
    codes "In every state any two operations commute, or one wipes out the other, but not "

abbrev pub exceptions : TypeTable → List OperationPair → List ℕ
exceptions t [] = []
exceptions t (pair ∷ pairs) =
    exception t rest_interferes pair ++ flat_map (exception t (codes ", nor ")) pairs

-- they are told of a type with a witness for three processes or more, if they are few
abbrev pub tells_pairs : Option Witness → List OperationPair → Bool
tells_pairs None pairs = false
tells_pairs (Some w) pairs =
    nat_le 3 w.processes && (nat_le 1 (length pairs) && nat_le (length pairs) MOST_APART)

abbrev pub pairs_line : TypeTable → Option Witness → List OperationPair → List ℕ
pairs_line t witness pairs =
    if tells_pairs witness pairs then exceptions t pairs ++ (codes ".\n" ++ []) else []

-- ---- how short protocols get

-- what the shortest plan costs, if it is told, behind an empty line
abbrev pub shortest_part : Option ShortestCost → List ℕ
shortest_part None = []
shortest_part (Some cost) = codes "\n" ++ (folded (shortest_line cost) ++ [])

-- ---- all of it

-- the text behind the number and the table
unfoldable pub reasons_text : Explanation → List ℕ
reasons_text e =
    lasting_part e.table e.lasting ++ (why e.table e.number e.witness ++ (codes "\n"
    ++ (folded (no_more e e.refutation ++ pairs_line e.table e.witness e.apart.items) ++ [])))

-- the text of an explanation, and of how short protocols get
unfoldable pub explanation_text : Explanation → Option ShortestCost → List ℕ
explanation_text e shortest =
    start_text e.table Readable (number_words (codes " (the limit)") e.number)
    ++ (reasons_text e ++ (shortest_part shortest ++ []))
