-- The words of Rust for plan trees in which some process looks by an operation.
use Rattle.std.specs.Prelude.{ℕ, List, ◌++◌, codes}
use Rattle.cn_code.specs.TreeRustWords.{rust_blind_check_operation}
use Rattle.cn_code.specs.TournamentRustWords.{rust_read, rust_check_operation}
use Rattle.cn_code.specs.declared.language.OwnPart.{OwnPart}
use Rattle.cn_code.specs.declared.language.OwnPart.TheVariants.{Meet, Bound, Read, Figure, Place}
use Rattle.cn_code.specs.declared.language.OwnPart.TheVariants.{Judgements, Row, ResponseName}
use Rattle.cn_code.specs.declared.language.OwnPart.TheVariants.{Judge, CheckOperation}

-- where some process looks by an operation, and none reads
unfoldable pub rust_response_word : OwnPart → List ℕ
rust_response_word Meet =
    codes "at the nodes of a tree: each node has an object, and a\n"
    ++ codes "// register for each of its teams."
rust_response_word Bound =
    codes "three steps at each of its\n"
    ++ codes "// places, or four where it looks: at most `STEPS` until it decides, whatever the others do. To\n"
    ++ codes "// look is to apply one more operation, which changes no state, and to get its response. No process\n"
    ++ codes "// reads an object."
rust_response_word Read = codes ""
rust_response_word Figure = codes "tree"
rust_response_word Place =
    codes "];\n"
    ++ codes "\n"
    ++ codes "/// A place of a process: its node, its team and operation there, the operation by which it looks at\n"
    ++ codes "/// the object, if it does, and its judgement.\n"
    ++ codes "struct Place {\n"
    ++ codes "    process: usize,\n"
    ++ codes "    node: usize,\n"
    ++ codes "    team: usize,\n"
    ++ codes "    operation: usize,\n"
    ++ codes "    look: Option<usize>,\n"
    ++ codes "    judgement: usize,\n"
    ++ codes "}\n"
rust_response_word Judgements =
    codes "];\n"
    ++ codes "\n"
    ++ codes "/// The judgements: for each response, and each response to the look where the process looks, the\n"
    ++ codes "/// team that came first at the node. The comment names the response. Places at which processes\n"
    ++ codes "/// judge alike have one judgement.\n"
    ++ codes "#[rustfmt::skip]\n"
    ++ codes "const JUDGEMENTS: &[[&[usize]; RESPONSES.len()]] = &[\n"
rust_response_word Row = codes "        &["
rust_response_word ResponseName = codes "], // "
rust_response_word Judge =
    codes "// Step 3, where the process looks: apply the operation of the look, which changes no\n"
    ++ codes "            // state. Both responses tell which team came first.\n"
    ++ codes "            let seen = match place.look {\n"
    ++ codes "                Some(look) => node.object.apply(look),\n"
    ++ codes "                None => 0,\n"
    ++ codes "            };\n"
    ++ codes "            let first = JUDGEMENTS[place.judgement][response][seen];\n"
    ++ codes "            // Last step"
rust_response_word CheckOperation = rust_blind_check_operation

-- where some process looks by an operation, and some reads
unfoldable pub rust_mixed_word : OwnPart → List ℕ
rust_mixed_word Meet =
    codes "at the nodes of a tree: each node has an object, and a\n"
    ++ codes "// register for each of its teams."
rust_mixed_word Bound =
    codes "three steps at each of its\n"
    ++ codes "// places, or four where it looks: at most `STEPS` until it decides, whatever the others do. To\n"
    ++ codes "// look is to read the object, or to apply one more operation, which changes no state, and to get\n"
    ++ codes "// its response."
rust_mixed_word Read = rust_read
rust_mixed_word Figure = codes "tree"
rust_mixed_word Place =
    codes "];\n"
    ++ codes "\n"
    ++ codes "/// A place of a process: its node, its team and operation there, whether it looks at the object,\n"
    ++ codes "/// the operation by which it looks, if it does not read the state, and its judgement.\n"
    ++ codes "struct Place {\n"
    ++ codes "    process: usize,\n"
    ++ codes "    node: usize,\n"
    ++ codes "    team: usize,\n"
    ++ codes "    operation: usize,\n"
    ++ codes "    looks: bool,\n"
    ++ codes "    look: Option<usize>,\n"
    ++ codes "    judgement: usize,\n"
    ++ codes "}\n"
rust_mixed_word Judgements =
    codes "];\n"
    ++ codes "\n"
    ++ codes "/// The judgements: for each response, and each state or response that the process sees where it\n"
    ++ codes "/// looks, the team that came first at the node. The comment names the response. Places at which\n"
    ++ codes "/// processes judge alike have one judgement.\n"
    ++ codes "#[rustfmt::skip]\n"
    ++ codes "const JUDGEMENTS: &[[&[usize]; RESPONSES.len()]] = &[\n"
rust_mixed_word Row = codes "        &["
rust_mixed_word ResponseName = codes "], // "
rust_mixed_word Judge =
    codes "// Step 3, where the process looks: apply the operation of the look, which changes no\n"
    ++ codes "            // state, or else read the object. The response, and what was seen, tell which team\n"
    ++ codes "            // came first.\n"
    ++ codes "            let seen = match place.look {\n"
    ++ codes "                Some(look) => node.object.apply(look),\n"
    ++ codes "                None if place.looks => node.object.read(),\n"
    ++ codes "                None => 0,\n"
    ++ codes "            };\n"
    ++ codes "            let first = JUDGEMENTS[place.judgement][response][seen];\n"
    ++ codes "            // Last step"
rust_mixed_word CheckOperation = rust_check_operation
