-- The words of Rust for plan trees.
use Rattle.std.specs.Prelude.{ℕ, List, ◌++◌, codes}
use Rattle.cn_code.specs.TournamentRustWords.{rust_read, rust_check_operation}
use Rattle.cn_code.specs.declared.language.OwnPart.{OwnPart}
use Rattle.cn_code.specs.declared.language.OwnPart.TheVariants.{Meet, Bound, Read, Figure, Place}
use Rattle.cn_code.specs.declared.language.OwnPart.TheVariants.{Judgements, Row, ResponseName}
use Rattle.cn_code.specs.declared.language.OwnPart.TheVariants.{Judge, CheckOperation}
use Rattle.cn_code.specs.declared.language.TreePart.{TreePart}
use Rattle.cn_code.specs.declared.language.TreePart.TheVariants.{LooksField, LookField, LookEnd}
use Rattle.cn_code.specs.declared.language.TreePart.TheVariants.{NoLook, LookName, JudgementField}
use Rattle.cn_code.specs.declared.language.TreePart.TheVariants.{JudgementNumber}

unfoldable pub rust_tree_word : TreePart → List ℕ
rust_tree_word LooksField = codes ", looks: "
rust_tree_word LookField = codes ", look: Some("
rust_tree_word LookEnd = codes ")"
rust_tree_word NoLook = codes ", look: None"
rust_tree_word LookName = codes ", look: "
rust_tree_word JudgementField = codes ", judgement: "
rust_tree_word JudgementNumber = codes "    // judgement "

-- where some process reads, and none looks by an operation
unfoldable pub rust_look_word : OwnPart → List ℕ
rust_look_word Meet =
    codes "at the nodes of a tree: each node has an object, and a\n"
    ++ codes "// register for each of its teams."
rust_look_word Bound =
    codes "three steps at each of its\n"
    ++ codes "// places, or four where it looks: at most `STEPS` until it decides, whatever the others do."
rust_look_word Read = rust_read
rust_look_word Figure = codes "tree"
rust_look_word Place =
    codes "];\n"
    ++ codes "\n"
    ++ codes "/// A place of a process: its node, its team and operation there, whether it looks at the object, and\n"
    ++ codes "/// its judgement.\n"
    ++ codes "struct Place {\n"
    ++ codes "    process: usize,\n"
    ++ codes "    node: usize,\n"
    ++ codes "    team: usize,\n"
    ++ codes "    operation: usize,\n"
    ++ codes "    looks: bool,\n"
    ++ codes "    judgement: usize,\n"
    ++ codes "}\n"
rust_look_word Judgements =
    codes "];\n"
    ++ codes "\n"
    ++ codes "/// The judgements: for each response, and each state where the process looks, the team that came\n"
    ++ codes "/// first at the node. The comment names the response. Places at which processes judge alike have\n"
    ++ codes "/// one judgement.\n"
    ++ codes "#[rustfmt::skip]\n"
    ++ codes "const JUDGEMENTS: &[[&[usize]; RESPONSES.len()]] = &[\n"
rust_look_word Row = codes "        &["
rust_look_word ResponseName = codes "], // "
rust_look_word Judge =
    codes "// Step 3, where the process looks: read the object. The response, and the state that was\n"
    ++ codes "            // read, tell which team came first.\n"
    ++ codes "            let state = if place.looks { node.object.read() } else { 0 };\n"
    ++ codes "            let first = JUDGEMENTS[place.judgement][response][state];\n"
    ++ codes "            // Last step"
rust_look_word CheckOperation = rust_check_operation

abbrev pub rust_blind_check_operation : List ℕ
rust_blind_check_operation =
    codes "\n"
    ++ codes "/// Checks one operation behind a way. The next state shows in what all operations then respond.\n"
    ++ codes "fn check_operation<O: Object, F: FnMut(usize) -> O>(way: Way, operation: usize, make: &mut F) {\n"
    ++ codes "    let (response, next) = TRANSITIONS[operation][way.state];\n"
    ++ codes "    let (name, state) = (OPERATIONS[operation], STATES[way.state]);\n"
    ++ codes "    let found = way.object(make).apply(operation);\n"
    ++ codes "    assert!(\n"
    ++ codes "        found == response,\n"
    ++ codes "        \"{name} in the state {state} responds {}, and not {}\",\n"
    ++ codes "        name_of(RESPONSES, found),\n"
    ++ codes "        RESPONSES[response],\n"
    ++ codes "    );\n"
    ++ codes "    for probe in 0..OPERATIONS.len() {\n"
    ++ codes "        let found = way.then(operation).object(make).apply(probe);\n"
    ++ codes "        let (response, _) = TRANSITIONS[probe][next];\n"
    ++ codes "        assert!(\n"
    ++ codes "            found == response,\n"
    ++ codes "            \"{} behind {name} in the state {state} responds {}, and not {}\",\n"
    ++ codes "            OPERATIONS[probe],\n"
    ++ codes "            name_of(RESPONSES, found),\n"
    ++ codes "            RESPONSES[response],\n"
    ++ codes "        );\n"
    ++ codes "    }\n"
    ++ codes "}\n"

-- where no process looks
unfoldable pub rust_blind_word : OwnPart → List ℕ
rust_blind_word Meet =
    codes "at the nodes of a tree: each node has an object, and a\n"
    ++ codes "// register for each of its teams."
rust_blind_word Bound =
    codes "three steps at each of its\n"
    ++ codes "// places: at most `STEPS` until it decides, whatever the others do. No process reads an object."
rust_blind_word Read = codes ""
rust_blind_word Figure = codes "tree"
rust_blind_word Place =
    codes "];\n"
    ++ codes "\n"
    ++ codes "/// A place of a process: its node, and its team, operation and judgement there.\n"
    ++ codes "struct Place {\n"
    ++ codes "    process: usize,\n"
    ++ codes "    node: usize,\n"
    ++ codes "    team: usize,\n"
    ++ codes "    operation: usize,\n"
    ++ codes "    judgement: usize,\n"
    ++ codes "}\n"
rust_blind_word Judgements =
    codes "];\n"
    ++ codes "\n"
    ++ codes "/// The judgements: for each response the team that came first at the node. The comment names the\n"
    ++ codes "/// response. Places at which processes judge alike have one judgement.\n"
    ++ codes "#[rustfmt::skip]\n"
    ++ codes "const JUDGEMENTS: &[[usize; RESPONSES.len()]] = &[\n"
rust_blind_word Row = codes "        "
rust_blind_word ResponseName = codes ", // "
rust_blind_word Judge =
    codes "// The response tells which team came first.\n"
    ++ codes "            let first = JUDGEMENTS[place.judgement][response];\n"
    ++ codes "            // Step 3"
rust_blind_word CheckOperation = rust_blind_check_operation
