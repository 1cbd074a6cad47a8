use Rattle.std.proofs.Common.{ap, sym}
use Rattle.cn_code.specs.TournamentCWords.{c_tournament_word}
use Rattle.cn_code.proofs.language.c_tournament.c_tournament_word.Goals as goal

pub returns-in-RoleField : goal.returns-in-RoleField
unfolding c_tournament_word
returns-in-RoleField c = sym (ap c_tournament_word c.in-RoleField.is)

pub returns-in-RoleNumber : goal.returns-in-RoleNumber
unfolding c_tournament_word
returns-in-RoleNumber c = sym (ap c_tournament_word c.in-RoleNumber.is)

pub returns-in-RoleOperation : goal.returns-in-RoleOperation
unfolding c_tournament_word
returns-in-RoleOperation c = sym (ap c_tournament_word c.in-RoleOperation.is)

pub returns-in-Team : goal.returns-in-Team
unfolding c_tournament_word
returns-in-Team c = sym (ap c_tournament_word c.in-Team.is)
