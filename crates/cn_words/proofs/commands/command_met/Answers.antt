use Rattle.std.proofs.Common.{◌∙◌}
use Rattle.clap.specs.Matches.{found_of}
use Rattle.clap.specs.Simple.{subcommand_rows_of}
use Rattle.clap.specs.Walk.{rows_of}
use Rattle.cn_words.proofs.GivenLemmas.{first_of_pair, pair_of}
use Rattle.cn_words.proofs.commands.command_met.Goals as goal

pub returns : goal.returns
returns c =
    pair_of (λ p. p.0.now) (λ p. rows_of (found_of p.1.now)) c.subcommand.result (subcommand_rows_of c.args.matches.now)
    (c.subcommand.ensures.name ∙ first_of_pair _ _ _) c.subcommand.ensures.rows
