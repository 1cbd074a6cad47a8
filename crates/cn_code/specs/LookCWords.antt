-- The words of C for plan trees in which some process looks by an operation.
use Rattle.std.specs.Prelude.{ℕ, List, ◌++◌, codes}
use Rattle.cn_code.specs.TreeCWords.{c_blind_check_operation}
use Rattle.cn_code.specs.TournamentCWords.{c_read, c_check_operation}
use Rattle.cn_code.specs.declared.language.OwnPart.{OwnPart}
use Rattle.cn_code.specs.declared.language.OwnPart.TheVariants.{Meet, Bound, Read, Figure, Place}
use Rattle.cn_code.specs.declared.language.OwnPart.TheVariants.{Judgements, Row, ResponseName}
use Rattle.cn_code.specs.declared.language.OwnPart.TheVariants.{Judge, CheckOperation}

-- where some process looks by an operation, and none reads
unfoldable pub c_response_word : OwnPart → List ℕ
c_response_word Meet =
    codes "at the nodes of a tree: each node has an object, and a\n"
    ++ codes " * register for each of its teams."
c_response_word Bound =
    codes "three steps at each of its\n"
    ++ codes " * places, or four where it looks: at most ^_STEPS until it decides, whatever the others do.\n"
    ++ codes " * To look is to apply one more operation, which changes no state, and to get its response. No\n"
    ++ codes " * process reads an object."
c_response_word Read = codes ""
c_response_word Figure = codes "tree"
c_response_word Place =
    codes "};\n"
    ++ codes "\n"
    ++ codes "/* A place of a process: its node, its team and operation there, the operation by which it looks at\n"
    ++ codes " * the object, or -1 if it does not, and its judgement. */\n"
    ++ codes "struct @_place {\n"
    ++ codes "    unsigned process;\n"
    ++ codes "    unsigned node;\n"
    ++ codes "    unsigned team;\n"
    ++ codes "    unsigned operation;\n"
    ++ codes "    int look;\n"
    ++ codes "    unsigned judgement;\n"
    ++ codes "};\n"
c_response_word Judgements =
    codes "};\n"
    ++ codes "\n"
    ++ codes "/* The judgements: for each response, and each response to the look where the process looks, the\n"
    ++ codes " * team that came first at the node. The comment names the response. Places at which processes judge\n"
    ++ codes " * alike have one judgement. */\n"
    ++ codes "static const unsigned @_judgements[][^_LENGTH(@_responses)]\n"
    ++ codes "    [^_LENGTH(@_responses)] = {\n"
c_response_word Row = codes "        {"
c_response_word ResponseName = codes "}, /* "
c_response_word Judge =
    codes "/* Step 3, where the process looks: apply the operation of the look, which changes no state.\n"
    ++ codes "         * Both responses tell which team came first. */\n"
    ++ codes "        unsigned seen = 0;\n"
    ++ codes "        if (place->look >= 0)\n"
    ++ codes "            seen = node->object.apply(node->object.self, (unsigned)place->look);\n"
    ++ codes "        if (seen >= ^_LENGTH(@_responses))\n"
    ++ codes "            return false;\n"
    ++ codes "        unsigned first = @_judgements[place->judgement][response][seen];\n"
    ++ codes "        /* Last step"
c_response_word CheckOperation = c_blind_check_operation

-- where some process looks by an operation, and some reads
unfoldable pub c_mixed_word : OwnPart → List ℕ
c_mixed_word Meet =
    codes "at the nodes of a tree: each node has an object, and a\n"
    ++ codes " * register for each of its teams."
c_mixed_word Bound =
    codes "three steps at each of its\n"
    ++ codes " * places, or four where it looks: at most ^_STEPS until it decides, whatever the others do.\n"
    ++ codes " * To look is to read the object, or to apply one more operation, which changes no state, and to get\n"
    ++ codes " * its response."
c_mixed_word Read = c_read
c_mixed_word Figure = codes "tree"
c_mixed_word Place =
    codes "};\n"
    ++ codes "\n"
    ++ codes "/* A place of a process: its node, its team and operation there, whether it looks at the object, the\n"
    ++ codes " * operation by which it looks, or -1 if it reads the state or does not look, and its judgement. */\n"
    ++ codes "struct @_place {\n"
    ++ codes "    unsigned process;\n"
    ++ codes "    unsigned node;\n"
    ++ codes "    unsigned team;\n"
    ++ codes "    unsigned operation;\n"
    ++ codes "    bool looks;\n"
    ++ codes "    int look;\n"
    ++ codes "    unsigned judgement;\n"
    ++ codes "};\n"
c_mixed_word Judgements =
    codes "};\n"
    ++ codes "\n"
    ++ codes "/* The judgements: for each response, and each state or response that the process sees where it\n"
    ++ codes " * looks, the team that came first at the node. The comment names the response. Places at which\n"
    ++ codes " * processes judge alike have one judgement. */\n"
    ++ codes "static const unsigned @_judgements[][^_LENGTH(@_responses)]\n"
    ++ codes "    [^_LENGTH(@_states) > ^_LENGTH(@_responses)\n"
    ++ codes "        ? ^_LENGTH(@_states) : ^_LENGTH(@_responses)] = {\n"
c_mixed_word Row = codes "        {"
c_mixed_word ResponseName = codes "}, /* "
c_mixed_word Judge =
    codes "/* Step 3, where the process looks: apply the operation of the look, which changes no state,\n"
    ++ codes "         * or else read the object. The response, and what was seen, tell which team came first. */\n"
    ++ codes "        unsigned seen = 0;\n"
    ++ codes "        if (place->look >= 0)\n"
    ++ codes "            seen = node->object.apply(node->object.self, (unsigned)place->look);\n"
    ++ codes "        else if (place->looks)\n"
    ++ codes "            seen = node->object.read(node->object.self);\n"
    ++ codes "        if (seen >= ^_LENGTH(@_judgements[0][0]))\n"
    ++ codes "            return false;\n"
    ++ codes "        unsigned first = @_judgements[place->judgement][response][seen];\n"
    ++ codes "        /* Last step"
c_mixed_word CheckOperation = c_check_operation
