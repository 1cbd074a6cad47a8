use Rattle.std.proofs.Common.{inl, inr, sym, ◌∙◌, true≢false}
use Rattle.std.proofs.lemmas.List.Elements.{Contains-get_or}
use Rattle.std.specs.Prelude.{slice_index}
use Rattle.cn_unread_number.proofs.telling.telling_of.Goals as goal

pub returns-then-looks_tell_states-clause-needs : goal.returns-then-looks_tell_states-clause-needs
returns-then-looks_tell_states-clause-needs c = λ n d.
    c.telling_types_need_no_reads.ensures.looks c.args.table.now n c.of.result.operations.items
    (c.tables_are_closed.ensures c.args.table.now c.tables_are_valid.ensures.table)
    (λ i l. (c.of.ensures.silent.listed (slice_index c.of.result.operations.items i)).0 (Contains-get_or c.of.result.operations.items i 0 l))
    (c.looks_tell_states.ensures.all.0 c.if-looks_tell_states.true) d

pub returns-clause-none : goal.returns-clause-none
returns-clause-none c = λ tells. elim tells [
  | inl responses ↦ true≢false (sym (c.responses_tell_states.ensures.1 responses) ∙ c.if-responses_tell_states.false)
  | inr looks ↦ true≢false (sym (c.looks_tell_states.ensures.some.1 looks) ∙ c.if-looks_tell_states.false)
]
