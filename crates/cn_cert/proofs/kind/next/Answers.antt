use Rattle.std.proofs.Common.{◌≡◌, [], ap, ◌∙◌, arith}
use Rattle.cn_cert.specs.Tokens.{data_at, with_value}
use Rattle.cn_cert.proofs.Walks.{empty_told}
use Rattle.cn_cert.proofs.kind.next.Goals as goal

pub returns-in_err-token-clause-err : goal.returns-in_err-token-clause-err
returns-in_err-token-clause-err g c =
    let kind = g.T.Kind.kind in
    let empty : c.args.reader.now ≡ [] = grind arith in
    let none = ap (λ ts. with_value kind (data_at c.args.depth ts)) empty ∙ empty_told kind c.args.depth in
    grind (arith, none)
