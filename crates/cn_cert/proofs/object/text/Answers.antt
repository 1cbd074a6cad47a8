use Rattle.std.proofs.Common.{◌≡◌, ◌∷◌, [], Some, None, sym, ap, ◌∙◌, arith}
use Rattle.json.specs.Reads.{token_of}
use Rattle.serde_json.specs.Find.{as_str}
use Rattle.cn_cert.specs.Tokens.{data_at, with_value}
use Rattle.cn_cert.proofs.Walks.{empty_told, string_told}
use Rattle.cn_cert.proofs.ArrayWalks.{else_told, string_token}
use Rattle.cn_cert.proofs.ObjectWalks.{not_string}
use Rattle.cn_cert.proofs.object.text.Goals as goal

pub returns-in_err-token-clause-err : goal.returns-in_err-token-clause-err
returns-in_err-token-clause-err c =
    let empty : c.args.reader.now ≡ [] = grind arith in
    let none = ap (λ ts. with_value as_str (data_at c.args.depth ts)) empty ∙ empty_told as_str c.args.depth in
    grind (arith, none)

pub returns-in-String-clause-ok : goal.returns-in-String-clause-ok
returns-in-String-clause-ok c =
    let front : c.args.reader.now ≡ token_of c.in_ok-token.token ∷ c.first.new.reader = grind arith in
    ap (λ xs. with_value as_str (data_at c.args.depth xs)) (front ∙ ap (λ k. token_of k ∷ c.first.new.reader) c.in-String.is) ∙ string_told as_str c.args.depth c.in-String.text.now c.first.new.reader
    ∙ ap (λ s. Some (Some s, c.first.new.reader)) (sym c.in_ok-from_str.ensures.ok)

pub returns : goal.returns
returns c =
    let front : c.args.reader.now ≡ token_of c.in_ok-token.token ∷ c.first.new.reader = grind arith in
    let other = else_told as_str None c.args.depth (token_of c.in_ok-token.token) c.first.new.reader c.rest_of.new.reader
    (λ d e. not_string d (λ f. let is = string_token c.in_ok-token.token (sym e ∙ f) in c.in_default.not-String is.0 is.1)) c.in_ok-rest_of.ensures.ok in
    record { ok = ap (λ xs. with_value as_str (data_at c.args.depth xs)) front ∙ other; err = tt }
