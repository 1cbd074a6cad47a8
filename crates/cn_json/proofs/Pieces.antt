-- Lists of tokens that are put together piece by piece.
use Rattle.std.proofs.Common.{◌≡◌, List, ◌++◌, append_assoc, ap, subst, ◌∙◌, Result, Ok, Err}
use Rattle.json.specs.Token.{Token}
use Rattle.std.specs.Prelude.{OnOk}
use Rattle.cn_json.specs.Tokens.{Appends}

behind : {T E : Type 0} (r : Result T E) (before now new p q : List Token) → now ≡ before ++ p → OnOk r (new ≡ now ++ q) → OnOk r (new ≡ before ++ (p ++ q))
behind (Ok x) before now new p q here last = last ∙ (ap (λ xs. xs ++ q) here ∙ append_assoc before p q)
behind (Err x) before now new p q here last = tt

-- a piece, and behind it what a last call adds
pub piece : {T E U F : Type 0} {x : T} {r : Result U F} {before now new p q : List Token} → Appends {T = T} {E = E} (Ok x) before now p → Appends r now new q → Appends r before new (p ++ q)
piece {r = r} {before = before} {now = now} {new = new} {p = p} {q = q} here last = record { ok = behind r before now new p q here.ok last.ok }

-- a last call that ends what was begun
pub closing : {T E : Type 0} (r : Result T E) (before now new last all : List Token) → Appends r now new last → now ++ last ≡ before ++ all → Appends r before new all
closing (Ok x) before now new last all here same = record { ok = here.ok ∙ same }
closing (Err x) before now new last all here same = record { ok = tt }

-- a call that answers more appends the same
pub also : {T E U F : Type 0} {x : T} {y : U} {before new p : List Token} → Appends {T = T} {E = E} (Ok x) before new p → Appends {T = U} {E = F} (Ok y) before new p
also here = record { ok = here.ok }

-- the same tokens
pub same : {T E : Type 0} {r : Result T E} {before new p q : List Token} → Appends r before new p → p ≡ q → Appends r before new q
same {r = r} {before = before} {new = new} here e = subst (λ (ts : List Token). Appends r before new ts) e here
