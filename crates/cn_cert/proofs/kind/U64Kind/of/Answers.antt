use Rattle.std.proofs.Common.{◌≡◌, ◌∷◌, Some, None, sym, ap, ◌∙◌, subst, IfOk, IfErr}
use Rattle.json.specs.Reads.{token_of}
use Rattle.serde_json.specs.Read.{number_of}
use Rattle.cn_cert.specs.Reads.{Refuses}
use Rattle.cn_cert.specs.Values.{natural_of}
use Rattle.cn_cert.specs.Tokens.{data_at, with_value}
use Rattle.cn_cert.proofs.Walks.{number_told}
use Rattle.cn_cert.proofs.ArrayWalks.{else_told, not_natural, number_token, number_read}
use Rattle.cn_cert.proofs.kind.U64Kind.of.Goals as goal

pub returns-in-Number-clause-ok : goal.returns-in-Number-clause-ok
returns-in-Number-clause-ok c =
    let ts = c.args.reader.now in
    let at = ap (λ k. with_value natural_of (data_at c.args.depth (token_of k ∷ ts))) c.in-Number.is ∙ number_told natural_of c.args.depth c.in-Number.text.now ts in
    subst (λ there. IfOk c.natural.result (λ o. there ≡ Some (o, ts))) (sym at) (number_read c.natural.result (number_of c.in-Number.text.now) ts c.natural.ensures).0

pub returns-in-Number-clause-err : goal.returns-in-Number-clause-err
returns-in-Number-clause-err c =
    let ts = c.args.reader.now in
    let at = ap (λ k. with_value natural_of (data_at c.args.depth (token_of k ∷ ts))) c.in-Number.is ∙ number_told natural_of c.args.depth c.in-Number.text.now ts in
    subst (λ there. IfErr c.natural.result (λ e. Refuses e there)) (sym at) (number_read c.natural.result (number_of c.in-Number.text.now) ts c.natural.ensures).1

pub returns : goal.returns
returns c = record {
  ok = else_told natural_of None c.args.depth (token_of c.args.token) c.args.reader.now c.rest_of.new.reader (λ d e. not_natural d
      (λ f. let is = number_token c.args.token (sym e ∙ f) in c.in_default.not-Number is.0 is.1)) c.in_ok-rest_of.ensures.ok;
  err = tt;
}
