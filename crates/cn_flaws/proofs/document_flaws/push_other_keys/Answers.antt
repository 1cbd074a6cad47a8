use Rattle.std.proofs.Common.{◌∙◌, refl, sym}
use Rattle.std.specs.Map.Iter.{deref}
use Rattle.std.proofs.lemmas.Map.Iter.{rest_more}
use Rattle.cn_flaws.specs.Flaws.{flaws_view}
use Rattle.cn_flaws.proofs.FlawLemmas.{keys_of_view, other_key_passed, other_key_more}
use Rattle.cn_flaws.proofs.document_flaws.push_other_keys.Goals as goal

pub loop-key-init : goal.loop-key-init
loop-key-init c = rw (c.into_iter-key-iterator.ensures.into_iter_gives, c.keys-key-items.ensures.rest, keys_of_view c.args.table.now.entries) refl

pub loop-key-preserved : goal.loop-key-preserved
loop-key-preserved c =
    let rest = rest_more deref c.loop-key.key-iterator c.next.new.self c.next.result c.in-Some.key c.in-Some.is c.next.ensures.steps in
    other_key_passed c.args.holder c.args.before.now c.args.after.now c.args.known.now _ _ (flaws_view c.loop-key.flaws) _
    (sym (rw c.as_str.ensures.value at c.is_one_of.ensures) ∙ c.if-not-is_one_of.false) (rw rest at c.loop-key.invariant)

pub loop-key-preserved-in-Continue-1 : goal.loop-key-preserved-in-Continue-1
loop-key-preserved-in-Continue-1 c =
    let rest = rest_more deref c.loop-key.key-iterator c.next.new.self c.next.result c.in-Some.key c.in-Some.is c.next.ensures.steps in
    other_key_more c.args.holder c.args.before.now c.args.after.now c.args.known.now _ _ (flaws_view c.loop-key.flaws) _ _
    (sym (rw c.as_str.ensures.value at c.is_one_of.ensures) ∙ c.if-not-is_one_of.true)
    (rw c.as_str-then-not-is_one_of.ensures.value at c.in_ok-push_other_key.ensures) (rw rest at c.loop-key.invariant)
