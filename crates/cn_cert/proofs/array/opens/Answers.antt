use Rattle.std.proofs.Common.{true, ◌∷◌, None, sym, ap₂, ◌∙◌, subst, arith, refl, inr}
use Rattle.json.specs.Reads.{token_of}
use Rattle.serde_json.specs.Find.{as_array}
use Rattle.cn_cert.specs.Tokens.{OpensArray, data_at}
use Rattle.cn_cert.proofs.Walks.{array_at, too_deep_array}
use Rattle.cn_cert.proofs.ArrayWalks.{else_told, not_array, array_token}
use Rattle.cn_cert.proofs.array.opens.Goals as goal

pub returns-then-depth-eq0-clause-err : goal.returns-then-depth-eq0-clause-err
returns-then-depth-eq0-clause-err c =
    inr (refl, ap₂ (λ depth k. data_at depth (token_of k ∷ c.args.reader.now)) c.if-depth-eq0.true c.in-BeginArray.is ∙ too_deep_array c.args.reader.now)

pub returns-in-BeginArray-clause-ok : goal.returns-in-BeginArray-clause-ok
returns-in-BeginArray-clause-ok c =
    subst (λ k. OpensArray true c.args.depth (token_of k ∷ c.args.reader.now) c.args.reader.now) (sym c.in-BeginArray.is) (omega arith, array_at c.args.depth c.args.reader.now (omega arith))

pub returns : goal.returns
returns c = record {
  ok = else_told as_array None c.args.depth (token_of c.args.token) c.args.reader.now c.rest_of.new.reader
      (λ d e. not_array d (λ f. c.in_default.not-BeginArray (array_token c.args.token (sym e ∙ f)))) c.in_ok-rest_of.ensures.ok;
  err = tt;
}
