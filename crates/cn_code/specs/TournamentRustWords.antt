-- The words of Rust for plans of two teams at each node.
use Rattle.std.specs.Prelude.{ℕ, List, ◌++◌, codes}
use Rattle.cn_code.specs.declared.language.OwnPart.{OwnPart}
use Rattle.cn_code.specs.declared.language.OwnPart.TheVariants.{Meet, Bound, Read, Figure, Place}
use Rattle.cn_code.specs.declared.language.OwnPart.TheVariants.{Judgements, Row, ResponseName}
use Rattle.cn_code.specs.declared.language.OwnPart.TheVariants.{Judge, CheckOperation}
use Rattle.cn_code.specs.declared.language.TournamentPart.{TournamentPart}
use Rattle.cn_code.specs.declared.language.TournamentPart.TheVariants.{RoleField, RoleNumber}
use Rattle.cn_code.specs.declared.language.TournamentPart.TheVariants.{RoleOperation, Team}

unfoldable pub rust_tournament_word : TournamentPart → List ℕ
rust_tournament_word RoleField = codes ", role: "
rust_tournament_word RoleNumber = codes "    // role "
rust_tournament_word RoleOperation = codes ": "
rust_tournament_word Team = codes ""

abbrev pub rust_read : List ℕ
rust_read =
    codes "\n"
    ++ codes "    /// Reads the state.\n"
    ++ codes "    fn read(&self) -> usize;\n"

abbrev pub rust_check_operation : List ℕ
rust_check_operation =
    codes "\n"
    ++ codes "/// Checks one operation behind a way.\n"
    ++ codes "fn check_operation<O: Object, F: FnMut(usize) -> O>(way: Way, operation: usize, make: &mut F) {\n"
    ++ codes "    let (response, next) = TRANSITIONS[operation][way.state];\n"
    ++ codes "    let (name, state) = (OPERATIONS[operation], STATES[way.state]);\n"
    ++ codes "    let object = way.object(make);\n"
    ++ codes "    let found = object.read();\n"
    ++ codes "    assert!(\n"
    ++ codes "        found == way.state,\n"
    ++ codes "        \"an object is in the state {}, and not in {state}\",\n"
    ++ codes "        name_of(STATES, found),\n"
    ++ codes "    );\n"
    ++ codes "    let found = object.apply(operation);\n"
    ++ codes "    assert!(\n"
    ++ codes "        found == response,\n"
    ++ codes "        \"{name} in the state {state} responds {}, and not {}\",\n"
    ++ codes "        name_of(RESPONSES, found),\n"
    ++ codes "        RESPONSES[response],\n"
    ++ codes "    );\n"
    ++ codes "    let found = object.read();\n"
    ++ codes "    assert!(\n"
    ++ codes "        found == next,\n"
    ++ codes "        \"{name} leads from the state {state} to {}, and not to {}\",\n"
    ++ codes "        name_of(STATES, found),\n"
    ++ codes "        STATES[next],\n"
    ++ codes "    );\n"
    ++ codes "}\n"

unfoldable pub rust_own_tournament_word : OwnPart → List ℕ
rust_own_tournament_word Meet =
    codes "in a tournament: each node has an object, and a\n"
    ++ codes "// register for each of two teams."
rust_own_tournament_word Bound =
    codes "four steps at each of its\n"
    ++ codes "// places: at most `STEPS` until it decides, whatever the others do."
rust_own_tournament_word Read = rust_read
rust_own_tournament_word Figure = codes "tournament"
rust_own_tournament_word Place =
    codes "];\n"
    ++ codes "\n"
    ++ codes "/// The teams of a node.\n"
    ++ codes "const A: usize = 0;\n"
    ++ codes "const B: usize = 1;\n"
    ++ codes "\n"
    ++ codes "/// A place of a process: its node, and its team, role and operation there.\n"
    ++ codes "struct Place {\n"
    ++ codes "    process: usize,\n"
    ++ codes "    node: usize,\n"
    ++ codes "    team: usize,\n"
    ++ codes "    role: usize,\n"
    ++ codes "    operation: usize,\n"
    ++ codes "}\n"
rust_own_tournament_word Judgements =
    codes "];\n"
    ++ codes "\n"
    ++ codes "/// The judgements: for each role, response and state the team that came first at the node. The\n"
    ++ codes "/// comment names the response, and the states for which this is team A.\n"
    ++ codes "#[rustfmt::skip]\n"
    ++ codes "const JUDGEMENTS: [[[usize; STATES.len()]; RESPONSES.len()]; PROCESSES] = [\n"
rust_own_tournament_word Row = codes "        ["
rust_own_tournament_word ResponseName = codes "], // "
rust_own_tournament_word Judge =
    codes "// Step 3: read the object. Response and state tell which team came first.\n"
    ++ codes "            let state = node.object.read();\n"
    ++ codes "            let first = JUDGEMENTS[place.role][response][state];\n"
    ++ codes "            // Step 4"
rust_own_tournament_word CheckOperation = rust_check_operation
