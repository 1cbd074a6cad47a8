use Rattle.std.proofs.Common.{ap, sym}
use Rattle.cn_code.specs.TournamentRustWords.{rust_tournament_word}
use Rattle.cn_code.proofs.language.rust_tournament.rust_tournament_word.Goals as goal

pub returns-in-RoleField : goal.returns-in-RoleField
unfolding rust_tournament_word
returns-in-RoleField c = sym (ap rust_tournament_word c.in-RoleField.is)

pub returns-in-RoleNumber : goal.returns-in-RoleNumber
unfolding rust_tournament_word
returns-in-RoleNumber c = sym (ap rust_tournament_word c.in-RoleNumber.is)

pub returns-in-RoleOperation : goal.returns-in-RoleOperation
unfolding rust_tournament_word
returns-in-RoleOperation c = sym (ap rust_tournament_word c.in-RoleOperation.is)

pub returns-in-Team : goal.returns-in-Team
unfolding rust_tournament_word
returns-in-Team c = sym (ap rust_tournament_word c.in-Team.is)
