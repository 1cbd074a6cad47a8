use Rattle.std.proofs.Common.{◌≡◌, ◌∷◌, [], Some, None, ap, ◌∙◌, arith}
use Rattle.json.specs.Reads.{token_of}
use Rattle.cn_cert.specs.Values.{nullable}
use Rattle.cn_cert.specs.Tokens.{data_at, with_value}
use Rattle.cn_cert.proofs.Walks.{empty_told, null_told}
use Rattle.cn_cert.proofs.ArrayWalks.{null_token}
use Rattle.cn_cert.proofs.ObjectWalks.{some_or_null}
use Rattle.cn_cert.proofs.kind.next_or_null.Goals as goal

pub returns-in_err-token-clause-err : goal.returns-in_err-token-clause-err
returns-in_err-token-clause-err g c =
    let kind = nullable g.T.Kind.kind in
    let empty : c.args.reader.now ≡ [] = grind arith in
    let none = ap (λ ts. with_value kind (data_at c.args.depth ts)) empty ∙ empty_told kind c.args.depth in
    grind (arith, none)

pub returns-in-Null-clause-ok : goal.returns-in-Null-clause-ok
returns-in-Null-clause-ok g c =
    let kind = nullable g.T.Kind.kind in
    let front : c.args.reader.now ≡ token_of c.in_ok-token.token ∷ c.first.new.reader = grind arith in
    ap (λ xs. with_value kind (data_at c.args.depth xs)) (front ∙ ap (λ k. token_of k ∷ c.first.new.reader) c.in-Null.is) ∙ null_told kind c.args.depth c.first.new.reader

pub returns-in-Some : goal.returns-in-Some
returns-in-Some g c =
    let kind = g.T.Kind.kind in
    let t = token_of c.in_ok-token.token in
    let front : c.args.reader.now ≡ t ∷ c.first.new.reader = grind arith in
    let found : with_value kind (data_at c.args.depth (t ∷ c.first.new.reader)) ≡ Some (Some c.in-Some.value, c.of.new.reader) = grind arith in
    let other = some_or_null kind c.args.depth t c.first.new.reader c.of.new.reader (Some c.in-Some.value) (λ f. c.in_default.not-Null (null_token c.in_ok-token.token f)) found in
    record { ok = ap (λ xs. with_value (nullable kind) (data_at c.args.depth xs)) front ∙ other; err = tt }

pub returns-in-None : goal.returns-in-None
returns-in-None g c =
    let kind = g.T.Kind.kind in
    let t = token_of c.in_ok-token.token in
    let front : c.args.reader.now ≡ t ∷ c.first.new.reader = grind arith in
    let found : with_value kind (data_at c.args.depth (t ∷ c.first.new.reader)) ≡ Some (None, c.of.new.reader) = grind arith in
    let other = some_or_null kind c.args.depth t c.first.new.reader c.of.new.reader None (λ f. c.in_default.not-Null (null_token c.in_ok-token.token f)) found in
    record { ok = ap (λ xs. with_value (nullable kind) (data_at c.args.depth xs)) front ∙ other; err = tt }
