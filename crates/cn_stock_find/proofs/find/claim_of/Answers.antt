use Rattle.std.proofs.Common.{Some, arith, subst, sym}
use Rattle.std.proofs.lemmas.Result.{IfOk-weaker}
use Rattle.cn_stock_find.specs.Found.{IsClaimOf}
use Rattle.cn_stock_find.proofs.FindLemmas.{first_shows, some_shows}
use Rattle.cn_stock_find.proofs.find.claim_of.Goals as goal

pub some_claim-requires-clause-some : goal.some_claim-requires-clause-some
some_claim-requires-clause-some g c κs lives = omega (arith, c.if-n-gt-GREATEST_LIMIT.true)

pub some_claim-requires-clause-few : goal.some_claim-requires-clause-few
some_claim-requires-clause-few g c κs lives = let is = rw c.in-Some.is at c.requires.number in omega (arith, is.1, c.requires.few)

pub some_claim-requires-clause-discerning : goal.some_claim-requires-clause-discerning
some_claim-requires-clause-discerning g c κs lives = let is = rw c.in-Some.is at c.requires.number in is.2

pub first_claim-requires-clause-some : goal.first_claim-requires-clause-some
first_claim-requires-clause-some g c κs lives = let is = rw c.in-Some.is at c.requires.number in is.0

pub first_claim-requires-clause-discerning : goal.first_claim-requires-clause-discerning
first_claim-requires-clause-discerning g c κs lives = let is = rw c.in-Some.is at c.requires.number in is.2

pub returns-then-n-gt-GREATEST_LIMIT : goal.returns-then-n-gt-GREATEST_LIMIT
returns-then-n-gt-GREATEST_LIMIT g c =
    let t = c.args.table.now in
    let n = c.in-Some.n in
    IfOk-weaker c.some_claim.result _ _
    (λ claim shows. subst (λ number. IsClaimOf t number claim) (sym c.in-Some.is) (some_shows t n claim c.if-n-gt-GREATEST_LIMIT.true shows)) c.some_claim.ensures

pub returns : goal.returns
returns g c =
    let t = c.args.table.now in
    let n = c.in-Some.n in
    let is = rw c.in-Some.is at c.requires.number in
    IfOk-weaker c.first_claim.result _ _
    (λ claim first. subst (λ number. IsClaimOf t number claim) (sym c.in-Some.is)
    (first_shows t c.args.limit (Some n) claim is (λ m w has. ((c.live_list.ensures.listed t m w).0 has).1) first)) c.first_claim.ensures
