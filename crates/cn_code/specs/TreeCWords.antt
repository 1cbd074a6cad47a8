-- The words of C for plan trees.
use Rattle.std.specs.Prelude.{ℕ, List, ◌++◌, codes}
use Rattle.cn_code.specs.TournamentCWords.{c_read, c_check_operation}
use Rattle.cn_code.specs.declared.language.OwnPart.{OwnPart}
use Rattle.cn_code.specs.declared.language.OwnPart.TheVariants.{Meet, Bound, Read, Figure, Place}
use Rattle.cn_code.specs.declared.language.OwnPart.TheVariants.{Judgements, Row, ResponseName}
use Rattle.cn_code.specs.declared.language.OwnPart.TheVariants.{Judge, CheckOperation}
use Rattle.cn_code.specs.declared.language.TreePart.{TreePart}
use Rattle.cn_code.specs.declared.language.TreePart.TheVariants.{LooksField, LookField, LookEnd}
use Rattle.cn_code.specs.declared.language.TreePart.TheVariants.{NoLook, LookName, JudgementField}
use Rattle.cn_code.specs.declared.language.TreePart.TheVariants.{JudgementNumber}

unfoldable pub c_tree_word : TreePart → List ℕ
c_tree_word LooksField = codes ", .looks = "
c_tree_word LookField = codes ", .look = "
c_tree_word LookEnd = codes ""
c_tree_word NoLook = codes ", .look = -1"
c_tree_word LookName = codes ", look: "
c_tree_word JudgementField = codes ", .judgement = "
c_tree_word JudgementNumber = codes "    /* judgement "

-- where some process reads, and none looks by an operation
unfoldable pub c_look_word : OwnPart → List ℕ
c_look_word Meet =
    codes "at the nodes of a tree: each node has an object, and a\n"
    ++ codes " * register for each of its teams."
c_look_word Bound =
    codes "three steps at each of its\n"
    ++ codes " * places, or four where it looks: at most ^_STEPS until it decides, whatever the others\n"
    ++ codes " * do."
c_look_word Read = c_read
c_look_word Figure = codes "tree"
c_look_word Place =
    codes "};\n"
    ++ codes "\n"
    ++ codes "/* A place of a process: its node, its team and operation there, whether it looks at the object, and\n"
    ++ codes " * its judgement. */\n"
    ++ codes "struct @_place {\n"
    ++ codes "    unsigned process;\n"
    ++ codes "    unsigned node;\n"
    ++ codes "    unsigned team;\n"
    ++ codes "    unsigned operation;\n"
    ++ codes "    bool looks;\n"
    ++ codes "    unsigned judgement;\n"
    ++ codes "};\n"
c_look_word Judgements =
    codes "};\n"
    ++ codes "\n"
    ++ codes "/* The judgements: for each response, and each state where the process looks, the team that came\n"
    ++ codes " * first at the node. The comment names the response. Places at which processes judge alike have\n"
    ++ codes " * one judgement. */\n"
    ++ codes "static const unsigned @_judgements[][^_LENGTH(@_responses)]\n"
    ++ codes "    [^_LENGTH(@_states)] = {\n"
c_look_word Row = codes "        {"
c_look_word ResponseName = codes "}, /* "
c_look_word Judge =
    codes "/* Step 3, where the process looks: read the object. The response, and the state that was\n"
    ++ codes "         * read, tell which team came first. */\n"
    ++ codes "        unsigned state = place->looks ? node->object.read(node->object.self) : 0;\n"
    ++ codes "        if (state >= ^_LENGTH(@_states))\n"
    ++ codes "            return false;\n"
    ++ codes "        unsigned first = @_judgements[place->judgement][response][state];\n"
    ++ codes "        /* Last step"
c_look_word CheckOperation = c_check_operation

abbrev pub c_blind_check_operation : List ℕ
c_blind_check_operation =
    codes "/* Checks one operation behind a way. */\n"
    ++ codes "static inline struct @_difference @_check_operation(struct @_way way,\n"
    ++ codes "    unsigned operation, @_make *make, void *of)\n"
    ++ codes "{\n"
    ++ codes "    const struct @_transition *told = &@_transitions[operation][way.state];\n"
    ++ codes "    struct @_difference it = {0, @_operations[operation], @_states[way.state], 0, 0, 0};\n"
    ++ codes "    struct @_object object = @_come(way, make, of);\n"
    ++ codes "    unsigned response = object.apply(object.self, operation);\n"
    ++ codes "    if (response != told->response) {\n"
    ++ codes "        it.what = \"the response\";\n"
    ++ codes "        it.found = @_response_name(response);\n"
    ++ codes "        it.expected = @_responses[told->response];\n"
    ++ codes "        return it;\n"
    ++ codes "    }\n"
    ++ codes "    for (unsigned probe = 0; probe < ^_LENGTH(@_operations) && !it.what; probe++) {\n"
    ++ codes "        object = @_come(@_then(way, operation), make, of);\n"
    ++ codes "        unsigned found = object.apply(object.self, probe);\n"
    ++ codes "        unsigned expected = @_transitions[probe][told->next].response;\n"
    ++ codes "        if (found != expected) {\n"
    ++ codes "            it.what = \"the response of the next operation\";\n"
    ++ codes "            it.next = @_operations[probe];\n"
    ++ codes "            it.found = @_response_name(found);\n"
    ++ codes "            it.expected = @_responses[expected];\n"
    ++ codes "        }\n"
    ++ codes "    }\n"
    ++ codes "    return it;\n"
    ++ codes "}\n"

-- where no process looks
unfoldable pub c_blind_word : OwnPart → List ℕ
c_blind_word Meet =
    codes "at the nodes of a tree: each node has an object, and a\n"
    ++ codes " * register for each of its teams."
c_blind_word Bound =
    codes "three steps at each of its\n"
    ++ codes " * places: at most ^_STEPS until it decides, whatever the others do. No process reads an\n"
    ++ codes " * object."
c_blind_word Read = codes ""
c_blind_word Figure = codes "tree"
c_blind_word Place =
    codes "};\n"
    ++ codes "\n"
    ++ codes "/* A place of a process: its node, and its team, operation and judgement there. */\n"
    ++ codes "struct @_place {\n"
    ++ codes "    unsigned process;\n"
    ++ codes "    unsigned node;\n"
    ++ codes "    unsigned team;\n"
    ++ codes "    unsigned operation;\n"
    ++ codes "    unsigned judgement;\n"
    ++ codes "};\n"
c_blind_word Judgements =
    codes "};\n"
    ++ codes "\n"
    ++ codes "/* The judgements: for each response the team that came first at the node. The comment names the\n"
    ++ codes " * response. Places at which processes judge alike have one judgement. */\n"
    ++ codes "static const unsigned @_judgements[][^_LENGTH(@_responses)] = {\n"
c_blind_word Row = codes "        "
c_blind_word ResponseName = codes ", /* "
c_blind_word Judge =
    codes "/* The response tells which team came first. */\n"
    ++ codes "        unsigned first = @_judgements[place->judgement][response];\n"
    ++ codes "        /* Step 3"
c_blind_word CheckOperation = c_blind_check_operation
