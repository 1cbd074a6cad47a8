use Rattle.std.proofs.Common.{◌∙◌, arith, refl, sym, true≢false}
use Rattle.cn_stocks.specs.declared.question.Question.TheVariants.{Recording}
use Rattle.cn_stocks.proofs.RecordLemmas.{by_parts, by_single, parts_of, single_of, some_left}
use Rattle.cn_stocks.proofs.StockLemmas.{greatest_in}
use Rattle.cn_stocks.proofs.records.records_from.Goals as goal

pub left_states-sets-requires-clause-setting : goal.left_states-sets-requires-clause-setting
left_states-sets-requires-clause-setting c = record { question = Recording; next = c.requires.setting }

pub some_single-requires-clause-setting : goal.some_single-requires-clause-setting
some_single-requires-clause-setting c = record { question = Recording; next = c.requires.setting }

pub fall_apart-requires-clause-known : goal.fall_apart-requires-clause-known
fall_apart-requires-clause-known c =
    let s = c.args.setting.now in
    let stock = c.requires.setting.stock_is in
    let known = stock.known s.stock.now.greatest (greatest_in s.stock.now.operations.items s.stock.now.greatest stock.greatest c.requires.some) in
    omega (arith, known, c.operations-operations.ensures.number, c.operations-operations.ensures.range.1)

pub fall_apart-requires-clause-some : goal.fall_apart-requires-clause-some
fall_apart-requires-clause-some c =
    let s = c.args.setting.now in
    let items = s.stock.now.operations.items in
    some_left s.table.now c.args.start items c.left_states-sets.result c.left_states-sets.ensures s.stock.now.greatest
    (greatest_in items s.stock.now.greatest c.requires.setting.stock_is.greatest c.requires.some)

pub returns-then-some_single : goal.returns-then-some_single
returns-then-some_single c =
    let s = c.args.setting.now in
    let f = c.some_single.ensures.0 c.if-some_single.true in
    (λ h. by_single s.table.now c.args.start s.stock.now.operations.items c.left_states-sets.result c.left_states-sets.ensures f.0 f.1, λ r. refl)

pub returns-then-some_has : goal.returns-then-some_has
returns-then-some_has c =
    let s = c.args.setting.now in (
      λ h. absurd (true≢false (sym h)),
      λ r. absurd (
          let f = single_of s.table.now c.args.start s.stock.now.operations.items c.left_states-sets.result c.left_states-sets.ensures r (c.some_has.ensures.0 c.if-some_has.true) in
          true≢false (sym (c.some_single.ensures.1 f) ∙ c.if-some_single.false)),
    )

pub returns : goal.returns
returns c =
    let s = c.args.setting.now in
    let items = s.stock.now.operations.items in
    let sets = c.left_states-sets.result in
    let left = c.left_states-sets.ensures in (
      λ h. by_parts s.table.now c.args.start items sets left (λ f x. true≢false (sym (c.some_has.ensures.1 (f, x)) ∙ c.if-some_has.false)) (c.fall_apart.ensures.0 h),
      λ r. c.fall_apart.ensures.1 (parts_of s.table.now c.args.start items sets left r),
    )
