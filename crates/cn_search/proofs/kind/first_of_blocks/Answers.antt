use Rattle.std.proofs.Common.{◌≡◌, ◌==◌, ◌++◌, ◌∙◌, Option, Some, None, is_some, arith, sym, subst, true, false, true≢false, length, List}
use Rattle.std.proofs.lemmas.Bool.Decides.{nat_tests}
use Rattle.std.proofs.lemmas.List.Elements.{All-drop}
use Rattle.cn_table.specs.TypeTable.{TypeTable}
use Rattle.cn_choice.specs.Blocks.{Block}
use Rattle.cn_choice.specs.Canonical.{Choice}
use Rattle.cn_choice.specs.RawChoices.{RawChoice}
use Rattle.cn_finding.specs.Evidence.{IsFirstAmong, NoneIs}
use Rattle.cn_search.specs.Search.{IsListedBlock, choices_of_all}
use Rattle.cn_search.proofs.Batches.{IsSearched, nil_from_length, search_done, search_found, search_on}
use Rattle.cn_search.proofs.ListLemmas.{parts}
use Rattle.cn_search.proofs.kind.first_of_blocks.Goals as goal

witness_there : (t : TypeTable) (P : RawChoice → Type 0) (blocks remaining batch rest : List Block) (witness : Option Choice) → IsSearched t P blocks remaining
    → remaining ≡ batch ++ rest → is_some witness ≡ true
    → IsFirstAmong P (choices_of_all t batch) witness → IsFirstAmong P (choices_of_all t blocks) witness
witness_there t P blocks remaining batch rest None s e some h = absurd (true≢false (sym some))
witness_there t P blocks remaining batch rest (Some w) s e some h = search_found t P blocks remaining batch rest w s e h

none_there : (P : RawChoice → Type 0) (choices : List Choice) (witness : Option Choice) → is_some witness ≡ false → IsFirstAmong P choices witness → NoneIs P choices
none_there P choices None none h = h
none_there P choices (Some w) none h = absurd (true≢false none)

pub returns-then-is_some : goal.returns-then-is_some
returns-then-is_some g c =
    witness_there c.args.table.now (g.K.Kind.holds c.args.table.now) c.args.blocks.now c.loop-remaining.remaining.now c.split_at.result.0.now c.split_at.result.1.now
    c.in_ok-witness.witness c.loop-remaining.invariant.searched
    (parts _ c.loop-remaining.remaining.now _ _ c.split_at.ensures.front c.split_at.ensures.back) (sym c.is_some.ensures ∙ c.if-is_some.true) c.in_ok-witness.ensures

pub loop-remaining-preserved : goal.loop-remaining-preserved
loop-remaining-preserved g c = record {
  searched = search_on c.args.table.now (g.K.Kind.holds c.args.table.now) c.args.blocks.now c.loop-remaining.remaining.now c.split_at.result.0.now c.split_at.result.1.now
      c.loop-remaining.invariant.searched
      (parts _ c.loop-remaining.remaining.now _ _ c.split_at.ensures.front c.split_at.ensures.back)
      (none_there (g.K.Kind.holds c.args.table.now) _ c.in_ok-witness.witness (sym c.is_some.ensures ∙ c.if-is_some.false) c.in_ok-witness.ensures);
  listed = rw c.split_at.ensures.back (All-drop (IsListedBlock c.args.table.now) _ c.loop-remaining.remaining.now c.loop-remaining.invariant.listed);
  shorter = omega (arith, c.split_at.ensures.back_len, c.loop-remaining.invariant.shorter);
}

pub returns : goal.returns
returns g c = search_done c.args.table.now (g.K.Kind.holds c.args.table.now) c.args.blocks.now
    (subst (IsSearched c.args.table.now (g.K.Kind.holds c.args.table.now) c.args.blocks.now) (nil_from_length c.loop-remaining.remaining.now
    (let e : (length c.loop-remaining.remaining.now == 0) ≡ true = sym c.is_empty.ensures ∙ c.loop-remaining-test.false in grind (arith, nat_tests))) c.loop-remaining.invariant.searched)
