use Rattle.std.proofs.Common.{◌≡◌, ◌∷◌, Some, None, [], option_map, length, ap, ap₂, ◌∙◌, arith, refl, inr}
use Rattle.json.specs.Json.{read_key, after_end_array}
use Rattle.json.specs.Reads.{token_of}
use Rattle.json.proofs.Grammar.{read_key-shorter}
use Rattle.serde_json.specs.Data.{no_members, put}
use Rattle.serde_json.specs.Find.{as_u64}
use Rattle.serde_json.specs.Read.{number_of}
use Rattle.cn_cert.specs.Reads.{Refuses}
use Rattle.cn_cert.specs.Tokens.{data_at, items_at, members_at, with_value, nothing}
use Rattle.cn_cert.proofs.Walks.{told-shorter, item_step, item_none, items_done, member_step, member_none, members_done, no_key, array_told, object_told, array_too_deep, object_too_deep, number_told, empty_told, none_told, passed, refuse_more, none_too, some_too}
use Rattle.cn_cert.proofs.skip.+skip.Goals as goal

pub rest_of-returns-in_err-_number-in-Number-clause-err : goal.rest_of-returns-in_err-_number-in-Number-clause-err
rest_of-returns-in_err-_number-in-Number-clause-err t c =
    let ts = c.args.reader.now in
    let text = c.in-Number.text.now in
    let there = with_value nothing (data_at c.args.depth (token_of c.args.token ∷ ts)) in
    let at : there ≡ option_map (λ x. (tt, ts)) (number_of text) = ap (λ k. with_value nothing (data_at c.args.depth (token_of k ∷ ts))) c.in-Number.is ∙ number_told nothing c.args.depth text ts in
    let refused : Refuses c.in_err-_number-in-Number.field-0.0 there = refuse_more _ (option_map as_u64 (number_of text)) there
    (λ none. at ∙ none_too as_u64 _ (number_of text) none) (c.in_err-_number-in-Number.ensures) in
    grind (arith, refused)

pub rest_of-returns-then-depth-eq0-clause-err : goal.rest_of-returns-then-depth-eq0-clause-err
rest_of-returns-then-depth-eq0-clause-err t c =
    inr (refl, ap₂ (λ depth k. with_value nothing (data_at depth (token_of k ∷ c.args.reader.now))) c.if-depth-eq0.true c.in-BeginArray.is ∙ array_too_deep nothing c.args.reader.now)

pub rest_of-returns-then-depth-eq0-2-clause-err : goal.rest_of-returns-then-depth-eq0-2-clause-err
rest_of-returns-then-depth-eq0-2-clause-err t c =
    inr (refl, ap₂ (λ depth k. with_value nothing (data_at depth (token_of k ∷ c.args.reader.now))) c.if-depth-eq0-2.true c.in-BeginObject.is ∙ object_too_deep nothing c.args.reader.now)

pub rest_of-returns-in-String-clause-ok : goal.rest_of-returns-in-String-clause-ok
rest_of-returns-in-String-clause-ok t c = passed c.args.depth c.args.reader.now c.args.token c.in-String.is

pub rest_of-returns-in_ok-_number-in-Number-clause-ok : goal.rest_of-returns-in_ok-_number-in-Number-clause-ok
rest_of-returns-in_ok-_number-in-Number-clause-ok t c =
    let ts = c.args.reader.now in
    let text = c.in-Number.text.now in
    let at : with_value nothing (data_at c.args.depth (token_of c.args.token ∷ ts)) ≡ option_map (λ x. (tt, ts)) (number_of text) = ap
    (λ k. with_value nothing (data_at c.args.depth (token_of k ∷ ts))) c.in-Number.is
    ∙ number_told nothing c.args.depth text ts in
    at ∙ some_too as_u64 (tt, ts) (number_of text) c.in_ok-_number-in-Number._number c.in_ok-_number-in-Number.ensures

pub rest_of-returns-in-EndObject-clause-err : goal.rest_of-returns-in-EndObject-clause-err
rest_of-returns-in-EndObject-clause-err t c = inr (refl, none_told nothing c.args.depth (token_of c.args.token) c.args.reader.now (grind (arith, c.in-EndObject.is)))

pub rest_of-returns-else-depth-eq0-clause-ok : goal.rest_of-returns-else-depth-eq0-clause-ok
rest_of-returns-else-depth-eq0-clause-ok t c =
    let ts = c.args.reader.now in
    let at = ap (λ k. with_value nothing (data_at c.args.depth (token_of k ∷ ts))) c.in-BeginArray.is ∙ array_told nothing c.args.depth ts (omega arith) in
    grind (arith, at, c.rest_of_items.ensures.ok)

pub rest_of-returns-else-depth-eq0-clause-err : goal.rest_of-returns-else-depth-eq0-clause-err
rest_of-returns-else-depth-eq0-clause-err t c =
    let ts = c.args.reader.now in
    let at = ap (λ k. with_value nothing (data_at c.args.depth (token_of k ∷ ts))) c.in-BeginArray.is ∙ array_told nothing c.args.depth ts (omega arith) in
    grind (arith, at, c.rest_of_items.ensures.err)

pub rest_of_items-returns-in_err-token-clause-err : goal.rest_of_items-returns-in_err-token-clause-err
rest_of_items-returns-in_err-token-clause-err t c =
    let l = c.items in
    let going : (after_end_array l.reader ≡ None) × (c.take_end_array.new.self ≡ l.reader) = grind arith in
    let empty : l.reader ≡ [] = grind arith in
    let none = l.invariant ∙ item_none nothing c.args.depth l.reader going.0 nothing (ap (λ ts. with_value nothing (data_at c.args.depth ts)) empty ∙ empty_told nothing c.args.depth) in
    grind (arith, none)

pub rest_of_items-items-smaller : goal.rest_of_items-items-smaller
rest_of_items-items-smaller t c =
    let l = c.items in
    let going : (after_end_array l.reader ≡ None) × (c.take_end_array.new.self ≡ l.reader) = grind arith in
    let front : l.reader ≡ token_of c.in_ok-token.token ∷ c.first.new.reader = grind arith in
    let read : with_value nothing (data_at c.args.depth (token_of c.in_ok-token.token ∷ c.first.new.reader)) ≡ Some (tt, c.rest_of.new.reader) = grind arith in
    let less = told-shorter nothing c.args.depth _ c.rest_of.new.reader tt read in
    omega (arith, less, ap length front)

pub rest_of_items-items-preserved : goal.rest_of_items-items-preserved
rest_of_items-items-preserved t c =
    let l = c.items in
    let going : (after_end_array l.reader ≡ None) × (c.take_end_array.new.self ≡ l.reader) = grind arith in
    let front : l.reader ≡ token_of c.in_ok-token.token ∷ c.first.new.reader = grind arith in
    let read : with_value nothing (data_at c.args.depth (token_of c.in_ok-token.token ∷ c.first.new.reader)) ≡ Some (tt, c.rest_of.new.reader) = grind arith in
    l.invariant ∙ item_step nothing c.args.depth l.reader going.0 nothing nothing c.rest_of.new.reader tt (ap (λ ts. with_value nothing (data_at c.args.depth ts)) front ∙ read) (λ d ds e. refl)

pub rest_of_items-returns-in_err-rest_of-clause-err : goal.rest_of_items-returns-in_err-rest_of-clause-err
rest_of_items-returns-in_err-rest_of-clause-err t c =
    let l = c.items in
    let going : (after_end_array l.reader ≡ None) × (c.take_end_array.new.self ≡ l.reader) = grind arith in
    let front : l.reader ≡ token_of c.in_ok-token.token ∷ c.first.new.reader = grind arith in
    let refused = refuse_more _ _ (with_value nothing (items_at c.args.depth c.args.reader.now)) (λ none. l.invariant ∙ item_none nothing c.args.depth l.reader going.0 nothing
    (ap (λ ts. with_value nothing (data_at c.args.depth ts)) front ∙ none)) c.in_err-rest_of.ensures.err in
    grind (arith, refused)

pub rest_of_items-returns-clause-ok : goal.rest_of_items-returns-clause-ok
rest_of_items-returns-clause-ok t c =
    let l = c.items in
    l.invariant ∙ items_done nothing c.args.depth l.reader c.take_end_array.new.self (grind arith)

pub rest_of_members-members-init : goal.rest_of_members-members-init
rest_of_members-members-init t c = (no_members, refl)

pub rest_of_members-returns-clause-ok : goal.rest_of_members-returns-clause-ok
rest_of_members-returns-clause-ok t c =
    let l = c.members in
    l.invariant.1 ∙ members_done nothing c.args.depth l.invariant.0 l.reader c.key.new.reader (grind arith)

pub rest_of-returns-else-depth-eq0-2-clause-ok : goal.rest_of-returns-else-depth-eq0-2-clause-ok
rest_of-returns-else-depth-eq0-2-clause-ok t c =
    let ts = c.args.reader.now in
    let at = ap (λ k. with_value nothing (data_at c.args.depth (token_of k ∷ ts))) c.in-BeginObject.is ∙ object_told nothing c.args.depth ts (omega arith) in
    grind (arith, at, c.rest_of_members.ensures.ok)

pub rest_of-returns-else-depth-eq0-2-clause-err : goal.rest_of-returns-else-depth-eq0-2-clause-err
rest_of-returns-else-depth-eq0-2-clause-err t c =
    let ts = c.args.reader.now in
    let at = ap (λ k. with_value nothing (data_at c.args.depth (token_of k ∷ ts))) c.in-BeginObject.is ∙ object_told nothing c.args.depth ts (omega arith) in
    grind (arith, at, c.rest_of_members.ensures.err)

pub rest_of_members-returns-in_err-key-clause-err : goal.rest_of_members-returns-in_err-key-clause-err
rest_of_members-returns-in_err-key-clause-err t c =
    let l = c.members in
    let none = l.invariant.1 ∙ no_key nothing c.args.depth l.invariant.0 l.reader (grind arith) in
    grind (arith, none)

pub rest_of_members-returns-in_err-token-clause-err : goal.rest_of_members-returns-in_err-token-clause-err
rest_of_members-returns-in_err-token-clause-err t c =
    let l = c.members in
    let k = c.in-Some.field-0.now in
    let named : read_key l.reader ≡ Some (Some k, c.key.new.reader) = grind arith in
    let empty : c.key.new.reader ≡ [] = grind arith in
    let none = l.invariant.1 ∙ member_none nothing nothing c.args.depth l.invariant.0 k l.reader c.key.new.reader named
    (ap (λ ts. with_value nothing (data_at c.args.depth ts)) empty ∙ empty_told nothing c.args.depth) in
    grind (arith, none)

pub rest_of_members-returns-in_err-rest_of-clause-err : goal.rest_of_members-returns-in_err-rest_of-clause-err
rest_of_members-returns-in_err-rest_of-clause-err t c =
    let l = c.members in
    let k = c.in-Some.field-0.now in
    let named : read_key l.reader ≡ Some (Some k, c.key.new.reader) = grind arith in
    let front : c.key.new.reader ≡ token_of c.in_ok-token.token ∷ c.first.new.reader = grind arith in
    let refused = refuse_more _ _ (with_value nothing (members_at c.args.depth no_members c.args.reader.now)) (λ none. l.invariant.1
    ∙ member_none nothing nothing c.args.depth l.invariant.0 k l.reader c.key.new.reader named (ap (λ ts. with_value nothing (data_at c.args.depth ts)) front ∙ none)) c.in_err-rest_of.ensures.err in
    grind (arith, refused)

pub rest_of_members-members-smaller : goal.rest_of_members-members-smaller
rest_of_members-members-smaller t c =
    let l = c.members in
    let shorter = read_key-shorter l.reader (Some c.in-Some.field-0.now) c.key.new.reader (grind arith) in
    let front : c.key.new.reader ≡ token_of c.in_ok-token.token ∷ c.first.new.reader = grind arith in
    let read : with_value nothing (data_at c.args.depth (token_of c.in_ok-token.token ∷ c.first.new.reader)) ≡ Some (tt, c.rest_of.new.reader) = grind arith in
    let less = told-shorter nothing c.args.depth _ c.rest_of.new.reader tt read in
    omega (arith, less, shorter, ap length front)

pub rest_of_members-members-preserved : goal.rest_of_members-members-preserved
rest_of_members-members-preserved t c =
    let l = c.members in
    let k = c.in-Some.field-0.now in
    let named : read_key l.reader ≡ Some (Some k, c.key.new.reader) = grind arith in
    let front : c.key.new.reader ≡ token_of c.in_ok-token.token ∷ c.first.new.reader = grind arith in
    let read : with_value nothing (data_at c.args.depth (token_of c.in_ok-token.token ∷ c.first.new.reader)) ≡ Some (tt, c.rest_of.new.reader) = grind arith in
    let turn = member_step nothing nothing c.args.depth l.invariant.0 k l.reader c.key.new.reader named c.rest_of.new.reader tt
    (ap (λ ts. with_value nothing (data_at c.args.depth ts)) front ∙ read) in
    (put k turn.0 l.invariant.0, l.invariant.1 ∙ turn.2)
