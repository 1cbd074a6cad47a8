use Rattle.std.proofs.Common.{ℕ, ◌≡◌, ◌≤◌, ◌∷◌, ◌^◌, ◌*◌, ◌%◌, ◌∙◌, ap, arith, refl, subst, sym}
use Rattle.std.specs.Int.Bits.{bit_or}
use Rattle.std.proofs.lemmas.Nat.{one_shl}
use Rattle.cn_stocks.specs.Words.{HaveSame, times}
use Rattle.cn_collisions.proofs.PrefixLemmas.{prefix_other, prefix_own, room_other}
use Rattle.cn_collisions.proofs.WayWords.{rest_has}
use Rattle.cn_collisions.proofs.view.View.after.Goals as goal

pub returns-then-process-self-clause-prefix : goal.returns-then-process-self-clause-prefix
returns-then-process-self-clause-prefix c =
    let v = c.args.self.now in
    let at = c.args.prefix in
    let p = c.args.process in
    let is = c.requires.view in
    let own : p ≡ v.process = c.if-process-self.true in
    let used : bit_or at.used (1 * 2 ^ p % 2 ^ 16) ≡ bit_or at.used (2 ^ v.process) =
    ap (bit_or at.used) (one_shl p 16 (omega (arith, c.requires.process, is.number, is.sets_are.few))) ∙ ap (λ (q : ℕ). bit_or at.used (2 ^ q)) own in
    prefix_own v at c.requires.prefix _ c.apply.ensures.next c.apply.result.0.0
    (omega (arith, c.apply.ensures.response, c.responses-responses.ensures.number, c.responses-responses.ensures.range.1)) used refl refl refl

pub less-place-requires-clause-stock : goal.less-place-requires-clause-stock
less-place-requires-clause-stock c =
    let v = c.args.self.now in
    let is = c.requires.prefix in
    let has = rest_has v.raw.now v.process c.args.prefix.used c.args.process is.stock is.rest c.requires.process c.requires.free c.if-process-self.false in
    (is.stock, is.stands, subst (λ (o : ℕ). 1 ≤ times o is.stock) (sym c.operation-operation.ensures.operation) has)

pub overflow_sub-size : goal.overflow_sub-size
overflow_sub-size c = (c.less-place.ensures c.requires.prefix.stock c.requires.prefix.stands).0

pub returns-clause-prefix : goal.returns-clause-prefix
returns-clause-prefix c =
    let v = c.args.self.now in
    let at = c.args.prefix in
    let p = c.args.process in
    let view = c.requires.view in
    let is = c.requires.prefix in
    let less = c.less-place.ensures is.stock is.stands in
    let used : bit_or at.used (1 * 2 ^ p % 2 ^ 16) ≡ bit_or at.used (2 ^ p) = ap (bit_or at.used) (one_shl p 16 (omega (arith, c.requires.process, view.number, view.sets_are.few))) in
    let same = subst (λ (o : ℕ). HaveSame is.stock (o ∷ less.1.0)) c.operation-operation.ensures.operation less.1.1 in
    prefix_other v at is _ c.apply.ensures.next p less.1.0 c.requires.process c.requires.free c.if-process-self.false same less.1.2 less.0 used refl refl

pub returns-clause-room : goal.returns-clause-room
returns-clause-room c =
    let is = c.requires.prefix in
    room_other c.args.prefix.size c.args.prefix.seen (c.less-place.ensures is.stock is.stands).0
