use Rattle.std.proofs.Common.{◌≡◌, ◌∷◌, [], Some, None, IfOk, IfErr, sym, ap, ap₂, ◌∙◌, subst, arith, refl, inr}
use Rattle.json.specs.Reads.{token_of}
use Rattle.cn_cert.specs.Draft.{draft_of}
use Rattle.cn_cert.specs.Reads.{Refuses}
use Rattle.cn_cert.specs.Tokens.{data_at, with_value}
use Rattle.cn_cert.proofs.Walks.{empty_told, object_told, object_too_deep}
use Rattle.cn_cert.proofs.ArrayWalks.{else_told, object_token}
use Rattle.cn_cert.proofs.ObjectWalks.{not_object}
use Rattle.cn_cert.proofs.object.draft.Goals as goal

pub returns-in_err-token-clause-err : goal.returns-in_err-token-clause-err
returns-in_err-token-clause-err c =
    let empty : c.args.reader.now ≡ [] = grind arith in
    let none = ap (λ ts. with_value draft_of (data_at c.args.depth ts)) empty ∙ empty_told draft_of c.args.depth in
    grind (arith, none)

pub returns-then-depth-eq0-clause-err : goal.returns-then-depth-eq0-clause-err
returns-then-depth-eq0-clause-err c =
    let front : c.args.reader.now ≡ token_of c.in_ok-token.token ∷ c.first.new.reader = grind arith in
    inr (
      refl,
      ap₂ (λ depth xs. with_value draft_of (data_at depth xs)) c.if-depth-eq0.true (front ∙ ap (λ k. token_of k ∷ c.first.new.reader) c.in-BeginObject.is)
          ∙ object_too_deep draft_of c.first.new.reader,
    )

pub returns-in-BeginObject-clause-ok : goal.returns-in-BeginObject-clause-ok
returns-in-BeginObject-clause-ok c =
    let front : c.args.reader.now ≡ token_of c.in_ok-token.token ∷ c.first.new.reader = grind arith in
    let at = ap (λ xs. with_value draft_of (data_at c.args.depth xs)) (front ∙ ap (λ k. token_of k ∷ c.first.new.reader) c.in-BeginObject.is)
    ∙ object_told draft_of c.args.depth c.first.new.reader (omega arith) in
    subst (λ there. IfOk c.draft_members.result (λ o. there ≡ Some (o, c.draft_members.new.reader))) (sym at) c.draft_members.ensures.ok

pub returns-in-BeginObject-clause-err : goal.returns-in-BeginObject-clause-err
returns-in-BeginObject-clause-err c =
    let front : c.args.reader.now ≡ token_of c.in_ok-token.token ∷ c.first.new.reader = grind arith in
    let at = ap (λ xs. with_value draft_of (data_at c.args.depth xs)) (front ∙ ap (λ k. token_of k ∷ c.first.new.reader) c.in-BeginObject.is)
    ∙ object_told draft_of c.args.depth c.first.new.reader (omega arith) in
    subst (λ there. IfErr c.draft_members.result (λ e. Refuses e there)) (sym at) c.draft_members.ensures.err

pub returns : goal.returns
returns c =
    let front : c.args.reader.now ≡ token_of c.in_ok-token.token ∷ c.first.new.reader = grind arith in
    let other = else_told draft_of None c.args.depth (token_of c.in_ok-token.token) c.first.new.reader c.rest_of.new.reader
    (λ d e. not_object d (λ f. c.in_default.not-BeginObject (object_token c.in_ok-token.token (sym e ∙ f)))) c.in_ok-rest_of.ensures.ok in
    record { ok = ap (λ xs. with_value draft_of (data_at c.args.depth xs)) front ∙ other; err = tt }
