use Rattle.std.proofs.Common.{◌≡◌, ◌∷◌, [], codes, Some, option_map, refl, sym, ap, string_bytes, ◌∙◌, arith}
use Rattle.json.specs.Reads.{token_of}
use Rattle.serde_json.specs.Find.{as_str}
use Rattle.cn_cert.specs.Draft.{choice_of, collisions_of}
use Rattle.cn_cert.specs.Values.{natural_of, nullable}
use Rattle.cn_cert.specs.Tokens.{data_at, with_value, nothing, MemberSlots, with_member}
use Rattle.cn_cert.proofs.MemberReads.{put_collisions, put_limit, put_number, put_type_name, put_version, put_witness, key_told, other_key_told}
use Rattle.cn_cert.proofs.Walks.{empty_told}
use Rattle.cn_cert.proofs.object.read_member.Goals as goal
use Rattle.cn_cert.proofs.object.read_member.Goals.{in-Some-1, in-None-1, in-Some-2, in-None-2, in-Some+in-Some-slots-branch-4, in-Some+in-None-1, in-None-3}

pub returns-in_err-token-clause-err : goal.returns-in_err-token-clause-err
returns-in_err-token-clause-err c =
    let empty : c.args.reader.now ≡ [] = grind arith in
    let none = ap (λ ts. with_value nothing (data_at c.args.depth ts)) empty ∙ empty_told nothing c.args.depth in
    grind (arith, none)

pub returns-in_ok-slots-inside-clause-ok : goal.returns-in_ok-slots-inside-clause-ok
returns-in_ok-slots-inside-clause-ok c =
    let s = c.args.slots.now in
    let read = key_told c.args.key.now (codes "collisions") s collisions_of (put_collisions s) (λ d. refl) (data_at c.args.depth c.args.reader.now) _ _
    (sym c.eq.ensures ∙ c.if-eq.true) c.in_ok-slots-inside.ensures.ok in
    let kept = read ∙ ap (λ (s : MemberSlots). Some (put_collisions s (option_map (λ v. v.items) c.in_ok-slots-inside.field-0), c.list.new.reader)) (sym c.slots.view_is) in
    elim c.match-slots-branch.branch [
      | in-Some-1 w ↦ kept ∙ ap (λ x. Some (x, c.list.new.reader)) (sym w.slots-is)
      | in-None-1 w ↦ kept ∙ ap (λ x. Some (x, c.list.new.reader)) (sym w.slots-is)
    ]

pub returns-in_ok-slots-inside-2-clause-ok : goal.returns-in_ok-slots-inside-2-clause-ok
returns-in_ok-slots-inside-2-clause-ok c =
    let s = c.args.slots.now in
    let read = key_told c.args.key.now (codes "limit") s natural_of (put_limit s) (λ d. refl) (data_at c.args.depth c.args.reader.now) _ _
    (sym c.eq-else-eq.ensures ∙ c.if-eq-2.true) c.in_ok-slots-inside-2.ensures.ok in
    read ∙ ap (λ (s : MemberSlots). Some (put_limit s c.in_ok-slots-inside-2.field-0, c.next.new.reader)) (sym c.slots.view_is)

pub returns-in_ok-slots-inside-3-clause-ok : goal.returns-in_ok-slots-inside-3-clause-ok
returns-in_ok-slots-inside-3-clause-ok c =
    let s = c.args.slots.now in
    let read = key_told c.args.key.now (codes "number") s (nullable natural_of) (put_number s) (λ d. refl) (data_at c.args.depth c.args.reader.now) _ _
    (sym c.eq-else-eq-2.ensures ∙ c.if-eq-3.true) c.in_ok-slots-inside-3.ensures.ok in
    read ∙ ap (λ (s : MemberSlots). Some (put_number s c.in_ok-slots-inside-3.field-0, c.next_or_null.new.reader)) (sym c.slots.view_is)

pub returns-in_ok-slots-inside-4-clause-ok : goal.returns-in_ok-slots-inside-4-clause-ok
returns-in_ok-slots-inside-4-clause-ok c =
    let s = c.args.slots.now in
    let read = key_told c.args.key.now (codes "type") s as_str (put_type_name s) (λ d. refl) (data_at c.args.depth c.args.reader.now) _ _
    (sym c.eq-else-eq-3.ensures ∙ c.if-eq-4.true) c.in_ok-slots-inside-4.ensures.ok in
    let kept = read ∙ ap (λ (s : MemberSlots). Some (put_type_name s (option_map string_bytes c.in_ok-slots-inside-4.field-0), c.text.new.reader)) (sym c.slots.view_is) in
    elim c.match-slots-branch-2.branch [
      | in-Some-2 w ↦ kept ∙ ap (λ x. Some (x, c.text.new.reader)) (sym w.slots-is)
      | in-None-2 w ↦ kept ∙ ap (λ x. Some (x, c.text.new.reader)) (sym w.slots-is)
    ]

pub returns-in_ok-slots-inside-5-clause-ok : goal.returns-in_ok-slots-inside-5-clause-ok
returns-in_ok-slots-inside-5-clause-ok c =
    let s = c.args.slots.now in
    let read = key_told c.args.key.now (codes "version") s natural_of (put_version s) (λ d. refl) (data_at c.args.depth c.args.reader.now) _ _
    (sym c.eq-else-eq-4.ensures ∙ c.if-eq-5.true) c.in_ok-slots-inside-5.ensures.ok in
    read ∙ ap (λ (s : MemberSlots). Some (put_version s c.in_ok-slots-inside-5.field-0, c.next-then-eq-5.new.reader)) (sym c.slots.view_is)

pub returns-in_ok-slots-inside-6-clause-ok : goal.returns-in_ok-slots-inside-6-clause-ok
returns-in_ok-slots-inside-6-clause-ok c =
    let s = c.args.slots.now in
    let read = key_told c.args.key.now (codes "witness") s (nullable choice_of) (put_witness s) (λ d. refl) (data_at c.args.depth c.args.reader.now) _ _
    (sym c.eq-else-eq-5.ensures ∙ c.if-eq-6.true) c.in_ok-slots-inside-6.ensures.ok in
    let kept = read ∙ ap (λ (s : MemberSlots). Some (put_witness s c.in_ok-slots-inside-6.field-0, c.next_or_null-then-eq-6.new.reader)) (sym c.slots.view_is) in
    elim c.match-slots-branch-3.branch [
      | in-Some+in-Some-slots-branch-4 w ↦ kept ∙ ap (λ x. Some (x, c.next_or_null-then-eq-6.new.reader)) (sym w.slots-is)
      | in-Some+in-None-1 w ↦ kept ∙ ap (λ x. Some (x, c.next_or_null-then-eq-6.new.reader)) (sym w.slots-is)
      | in-None-3 w ↦ kept ∙ ap (λ x. Some (x, c.next_or_null-then-eq-6.new.reader)) (sym w.slots-is)
    ]

pub returns-in_ok-rest_of-clause-ok : goal.returns-in_ok-rest_of-clause-ok
returns-in_ok-rest_of-clause-ok c =
    let front : c.args.reader.now ≡ token_of c.in_ok-token.token ∷ c.first.new.reader = grind arith in
    ap (λ ts. with_value (with_member c.args.key.now c.args.slots.now) (data_at c.args.depth ts)) front
    ∙ other_key_told c.args.key.now c.args.slots.now _ _ c.rest_of.new.reader (sym c.eq.ensures ∙ c.if-eq.false) (sym c.eq-else-eq.ensures ∙ c.if-eq-2.false)
    (sym c.eq-else-eq-2.ensures ∙ c.if-eq-3.false) (sym c.eq-else-eq-3.ensures ∙ c.if-eq-4.false) (sym c.eq-else-eq-4.ensures ∙ c.if-eq-5.false) (sym c.eq-else-eq-5.ensures ∙ c.if-eq-6.false)
    c.in_ok-rest_of.ensures.ok
