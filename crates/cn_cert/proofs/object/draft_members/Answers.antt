use Rattle.std.proofs.Common.{◌≡◌, ◌==◌, Some, true, false, string_bytes, sym, ap, ◌∙◌, arith, refl, rules}
use Rattle.json.specs.Json.{read_key}
use Rattle.json.proofs.Grammar.{read_key-shorter}
use Rattle.serde_json.specs.Data.{null, no_members, object, put}
use Rattle.serde_json.specs.View.{view, members_view}
use Rattle.serde_json.specs.declared.value.Value.{Null, the_lemmas}
use Rattle.serde_json.proofs.Views.{members_view-insert_entry}
use Rattle.cn_cert.specs.Document.{members_len}
use Rattle.cn_cert.specs.Draft.{draft_of}
use Rattle.cn_cert.specs.Tokens.{members_at, with_value, nothing, with_member, keys_of}
use Rattle.cn_cert.proofs.Walks.{told-shorter, member_step, member_none, members_done, no_key, refuse_more}
use Rattle.cn_cert.proofs.ObjectWalks.{slots_put, keys_put, draft_is}
use Rattle.cn_cert.proofs.object.draft_members.Goals as goal

pub members-init : goal.members-init
members-init c = (no_members, refl, sym c.no_slots-slots.ensures, ap members_view c.new-keys.ensures.empty)

pub returns-in_err-name-clause-err : goal.returns-in_err-name-clause-err
returns-in_err-name-clause-err c =
    let l = c.members in
    let none = l.invariant.1 ∙ no_key (λ ms. draft_of (object ms)) c.args.depth l.invariant.0 l.reader (grind arith) in
    grind (arith, none)

pub returns-in_err-read_member-clause-err : goal.returns-in_err-read_member-clause-err
returns-in_err-read_member-clause-err c =
    let l = c.members in
    let k = c.in-Some.name.now in
    let named : read_key l.reader ≡ Some (Some k, c.key.new.reader) = grind arith in
    let refused = refuse_more _ _ (with_value (λ ms. draft_of (object ms)) (members_at c.args.depth no_members c.args.reader.now))
    (λ none. l.invariant.1 ∙ member_none nothing (λ ms. draft_of (object ms)) c.args.depth l.invariant.0 k l.reader c.key.new.reader named none) c.in_err-read_member.ensures.err in
    grind (arith, refused)

pub members-smaller : goal.members-smaller
members-smaller c =
    let l = c.members in
    let shorter = read_key-shorter l.reader (Some c.in-Some.name.now) c.key.new.reader (grind arith) in
    let less = told-shorter _ c.args.depth c.key.new.reader c.read_member.new.reader _ c.in_ok-read_member.ensures.ok in
    omega (arith, less, shorter)

pub members-preserved : goal.members-preserved
members-preserved c =
    let l = c.members in
    let k = c.in-Some.name.now in
    let found = l.invariant.0 in
    let named : read_key l.reader ≡ Some (Some k, c.key.new.reader) = grind arith in
    let turn = member_step _ (λ ms. draft_of (object ms)) c.args.depth found k l.reader c.key.new.reader named c.read_member.new.reader _ c.in_ok-read_member.ensures.ok in
    let copied : string_bytes c.in_ok-copied.copied ≡ k = grind arith in
    let nothing_there : view Null ≡ null = search (rules, the_lemmas) in
    let inserted : members_view c.insert.new.self.entries ≡ put k null (keys_of found) =
    ap members_view c.in_ok-insert.ensures.entries ∙ members_view-insert_entry l.keys.entries c.in_ok-copied.copied Null ∙ rw (copied, nothing_there, l.invariant.3) refl in (
      put k turn.0 found,
      l.invariant.1 ∙ turn.2,
      slots_put k turn.0 found ∙ ap (λ s. with_member k s turn.0) l.invariant.2 ∙ turn.1,
      inserted ∙ sym (keys_put k turn.0 found),
    )

pub returns-then-has_len-clause-ok : goal.returns-then-has_len-clause-ok
returns-then-has_len-clause-ok c =
    let l = c.members in
    let found = l.invariant.0 in
    let six : (members_len (members_view l.keys.entries) == 6) ≡ true = grind arith in
    l.invariant.1 ∙ members_done (λ ms. draft_of (object ms)) c.args.depth found l.reader c.key.new.reader (grind arith)
    ∙ ap (λ o. Some (o, c.key.new.reader)) (draft_is found true _ (ap (λ ms. members_len ms == 6) (sym l.invariant.3) ∙ six) l.invariant.2 ∙ sym c.draft_of_slots.ensures)

pub returns-else-has_len-clause-ok : goal.returns-else-has_len-clause-ok
returns-else-has_len-clause-ok c =
    let l = c.members in
    let found = l.invariant.0 in
    let six : (members_len (members_view l.keys.entries) == 6) ≡ false = grind arith in
    l.invariant.1 ∙ members_done (λ ms. draft_of (object ms)) c.args.depth found l.reader c.key.new.reader (grind arith)
    ∙ ap (λ o. Some (o, c.key.new.reader)) (draft_is found false _ (ap (λ ms. members_len ms == 6) (sym l.invariant.3) ∙ six) l.invariant.2)
