-- Arguments that are the calls of each process.
use Rattle.std.specs.Prelude.{codes, ℕ, List, length, Option, Some, None, map, ◌==◌, nat_lt, Bool}
use Rattle.std.specs.Prelude.{◌&&◌, ◌≡◌, ◌⊎◌, Result, Ok, Err, Vec}
use Rattle.std.specs.Global.{Global}
use Rattle.std.specs.List.{slice_split, list_all}
use Rattle.cn_table.specs.Draft.{all_some}
use Rattle.cn_proto.specs.Plan.{processes_of}
use Rattle.cn_log.specs.Opening.{Opening}
use Rattle.cn_io.specs.Arguments.Lists.{list_up_to, text_of}
use Rattle.cn_io.specs.Arguments.Operations.{operation_of, operations_in}
use Rattle.cn_io.specs.declared.arguments.operations.OperationWord.{OperationWord}
use Rattle.cn_table.specs.Texts.{code_of}
use Rattle.cn_table.specs.TypeTable.{TypeTable}
use Rattle.cn_io.specs.declared.arguments.list_text.ListText.{ListText}
use Rattle.cn_io.specs.declared.limits.TheConstants.{MOST_CALLS}
use Rattle.cn_io.specs.declared.fault.AppFault.{AppFault}
use Rattle.cn_io.specs.declared.fault.AppFault.TheVariants.{Argument, OutOfMemory}
use Rattle.cn_io.specs.declared.fault.Argument.TheVariants.{Calls}

-- the calls of one process: operations, of which there may be so many
abbrev pub process_calls : List ℕ → Option (List OperationWord)
process_calls text = list_up_to MOST_CALLS operation_of text

-- the texts of the calls of one process after the other, with a slash between two
abbrev pub process_texts : ListText → List (List ℕ)
process_texts list = slice_split (λ byte. byte == code_of (codes "/")) (text_of list)

-- the calls of one process after the other
abbrev pub calls_of : ListText → Option (List (List OperationWord))
calls_of list = all_some (map process_calls (process_texts list))

-- the same by the numbers that operations have in an object
abbrev pub calls_in : TypeTable → List (List OperationWord) → List (List ℕ)
calls_in object lists = map (operations_in object) lists

-- reading a list of calls from each of these texts ends so
abbrev pub GivesEach : List (List ℕ)
    → Result (Vec (Vec OperationWord Global) Global) AppFault → Type 0
GivesEach texts (Ok calls) =
    all_some (map process_calls texts) ≡ Some (map (λ one. one.items) calls.items)
GivesEach texts (Err e) =
    (e ≡ OutOfMemory) ⊎ ((e ≡ Argument Calls) × (all_some (map process_calls texts) ≡ None))

-- reading the calls of all processes ends so
abbrev pub GivesCalls : ListText → Result (Vec (Vec OperationWord Global) Global) AppFault → Type 0
GivesCalls list r = GivesEach (process_texts list) r

-- there is one list of calls for each process of the plan, and each call is of an operation of the
-- object
abbrev pub calls_fit : Opening → List (List ℕ) → Bool
calls_fit o calls =
    (length calls == processes_of o.plan) && list_all
    (λ list. list_all (λ operation. nat_lt operation (length o.object.operations)) list) calls
