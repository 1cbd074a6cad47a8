-- The words of C for plans of two teams at each node.
use Rattle.std.specs.Prelude.{ℕ, List, ◌++◌, codes}
use Rattle.cn_code.specs.declared.language.OwnPart.{OwnPart}
use Rattle.cn_code.specs.declared.language.OwnPart.TheVariants.{Meet, Bound, Read, Figure, Place}
use Rattle.cn_code.specs.declared.language.OwnPart.TheVariants.{Judgements, Row, ResponseName}
use Rattle.cn_code.specs.declared.language.OwnPart.TheVariants.{Judge, CheckOperation}
use Rattle.cn_code.specs.declared.language.TournamentPart.{TournamentPart}
use Rattle.cn_code.specs.declared.language.TournamentPart.TheVariants.{RoleField, RoleNumber}
use Rattle.cn_code.specs.declared.language.TournamentPart.TheVariants.{RoleOperation, Team}

unfoldable pub c_tournament_word : TournamentPart → List ℕ
c_tournament_word RoleField = codes ", .role = "
c_tournament_word RoleNumber = codes "    /* role "
c_tournament_word RoleOperation = codes ": "
c_tournament_word Team = codes "^_TEAM_"

abbrev pub c_read : List ℕ
c_read =
    codes "    /* Reads the state. */\n"
    ++ codes "    unsigned (*read)(void *self);\n"

abbrev pub c_check_operation : List ℕ
c_check_operation =
    codes "/* Checks one operation behind a way. */\n"
    ++ codes "static inline struct @_difference @_check_operation(struct @_way way,\n"
    ++ codes "    unsigned operation, @_make *make, void *of)\n"
    ++ codes "{\n"
    ++ codes "    const struct @_transition *told = &@_transitions[operation][way.state];\n"
    ++ codes "    struct @_difference it = {0, @_operations[operation], @_states[way.state], 0, 0, 0};\n"
    ++ codes "    struct @_object object = @_come(way, make, of);\n"
    ++ codes "    unsigned state = object.read(object.self);\n"
    ++ codes "    if (state != way.state) {\n"
    ++ codes "        it.what = \"the state before\";\n"
    ++ codes "        it.found = @_state_name(state);\n"
    ++ codes "        it.expected = @_states[way.state];\n"
    ++ codes "        return it;\n"
    ++ codes "    }\n"
    ++ codes "    unsigned response = object.apply(object.self, operation);\n"
    ++ codes "    if (response != told->response) {\n"
    ++ codes "        it.what = \"the response\";\n"
    ++ codes "        it.found = @_response_name(response);\n"
    ++ codes "        it.expected = @_responses[told->response];\n"
    ++ codes "        return it;\n"
    ++ codes "    }\n"
    ++ codes "    unsigned next = object.read(object.self);\n"
    ++ codes "    if (next != told->next) {\n"
    ++ codes "        it.what = \"the next state\";\n"
    ++ codes "        it.found = @_state_name(next);\n"
    ++ codes "        it.expected = @_states[told->next];\n"
    ++ codes "    }\n"
    ++ codes "    return it;\n"
    ++ codes "}\n"

unfoldable pub c_own_tournament_word : OwnPart → List ℕ
c_own_tournament_word Meet =
    codes "in a tournament: each node has an object, and a\n"
    ++ codes " * register for each of two teams."
c_own_tournament_word Bound =
    codes "four steps at each of its\n"
    ++ codes " * places: at most ^_STEPS until it decides, whatever the others do."
c_own_tournament_word Read = c_read
c_own_tournament_word Figure = codes "tournament"
c_own_tournament_word Place =
    codes "};\n"
    ++ codes "\n"
    ++ codes "/* A team of a node. */\n"
    ++ codes "enum @_team { ^_TEAM_A, ^_TEAM_B };\n"
    ++ codes "\n"
    ++ codes "/* A place of a process: its node, and its team, role and operation there. */\n"
    ++ codes "struct @_place {\n"
    ++ codes "    unsigned process;\n"
    ++ codes "    unsigned node;\n"
    ++ codes "    enum @_team team;\n"
    ++ codes "    unsigned role;\n"
    ++ codes "    unsigned operation;\n"
    ++ codes "};\n"
c_own_tournament_word Judgements =
    codes "};\n"
    ++ codes "\n"
    ++ codes "/* The judgements: for each role, response and state the team that came first at the node. The\n"
    ++ codes " * comment names the response, and the states for which this is team A. */\n"
    ++ codes "static const enum @_team @_judgements[^_PROCESSES]\n"
    ++ codes "    [^_LENGTH(@_responses)][^_LENGTH(@_states)] = {\n"
c_own_tournament_word Row = codes "        {"
c_own_tournament_word ResponseName = codes "}, /* "
c_own_tournament_word Judge =
    codes "/* Step 3: read the object. Response and state tell which team came first. */\n"
    ++ codes "        unsigned state = node->object.read(node->object.self);\n"
    ++ codes "        if (state >= ^_LENGTH(@_states))\n"
    ++ codes "            return false;\n"
    ++ codes "        enum @_team first = @_judgements[place->role][response][state];\n"
    ++ codes "        /* Step 4"
c_own_tournament_word CheckOperation = c_check_operation
