use Rattle.std.proofs.Common.{◌≡◌, ◌∷◌, Some, IfOk, subst}
use Rattle.json.specs.Reads.{token_of}
use Rattle.cn_cert.specs.Draft.{choice_of}
use Rattle.cn_cert.specs.Tokens.{data_at, in_array, sole_thing, next_choice}
use Rattle.cn_cert.proofs.Walks.{told_same}
use Rattle.cn_cert.proofs.ArrayWalks.{choice_in_array}
use Rattle.cn_cert.proofs.array.DraftChoiceKind.of.Goals as goal

pub returns-clause-ok : goal.returns-clause-ok
returns-clause-ok c =
    let same = told_same (in_array (sole_thing next_choice)) choice_of choice_in_array (data_at c.args.depth (token_of c.args.token ∷ c.args.reader.now)) in
    subst (λ there. IfOk c.array_as.result (λ o. there ≡ Some (o, c.array_as.new.reader))) same c.array_as.ensures.ok
