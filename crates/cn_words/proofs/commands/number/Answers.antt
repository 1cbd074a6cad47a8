use Rattle.std.proofs.Common.{◌∙◌}
use Rattle.std.specs.Str.Parse.{ExplainsUnsignedError, HasUnsignedDigitsIfOk, ParsesUnsigned}
use Rattle.clap.specs.Matches.{found_of}
use Rattle.clap.specs.Walk.{one_of, rows_of}
use Rattle.clap.proofs.WalkLemmas.{one_text-rows}
use Rattle.cn_words.proofs.GivenLemmas.{number_read}
use Rattle.cn_words.proofs.commands.number.Goals as goal

pub returns : goal.returns
returns c =
    let found = found_of c.args.words.now in
    let same = one_text-rows found c.args.id.now in
    number_read (λ bs r. ParsesUnsigned 8 10 bs r × ExplainsUnsignedError 10 bs r × HasUnsignedDigitsIfOk bs r)
    (one_of c.args.id.now (rows_of found)) c.get_one.result (λ u x read. read.0)
    (λ e. c.get_one.ensures.none (same ∙ e)) (λ t e. c.get_one.ensures.value t (same ∙ e))
