use Rattle.std.proofs.Common.{◌≡◌, ap, arith, get_or, sym, ◌∙◌}
use Rattle.cn_stocks.proofs.Times.{times_of_place}
use Rattle.cn_joins.specs.Joins.{Join, beginning}
use Rattle.cn_join_find.proofs.reach.with_join.Goals as goal

pub contains-has_f-requires : goal.contains-has_f-requires
contains-has_f-requires c =
    let j = c.args.join.now in
    let is = c.requires.0.first in
    let e : c.first_operation-f.result ≡ beginning j.first = c.first_operation-f.ensures ∙ ap (λ (x : Join). beginning x.first) c.join.view_is in
    let known = is.known (get_or j.first.word 0 0) (times_of_place j.first.word 0 (omega (arith, is.has_place))) in
    omega (arith, e, known, c.operations-operations.ensures.number, c.operations-operations.ensures.range.1)

pub contains-has_g-requires : goal.contains-has_g-requires
contains-has_g-requires c =
    let j = c.args.join.now in
    let is = c.requires.0.second in
    let e : c.first_operation-g.result ≡ beginning j.second = c.first_operation-g.ensures ∙ ap (λ (x : Join). beginning x.second) c.join.view_is in
    let known = is.known (get_or j.second.word 0 0) (times_of_place j.second.word 0 (omega (arith, is.has_place))) in
    omega (arith, e, known, c.operations-operations.ensures.number, c.operations-operations.ensures.range.1)

pub with_next-with_g-requires-clause-first : goal.with_next-with_g-requires-clause-first
with_next-with_g-requires-clause-first c =
    let j = c.args.join.now in
    let is = c.requires.0.first in
    let e : c.first_operation-f.result ≡ beginning j.first = c.first_operation-f.ensures ∙ ap (λ (x : Join). beginning x.first) c.join.view_is in
    let known = is.known (get_or j.first.word 0 0) (times_of_place j.first.word 0 (omega (arith, is.has_place))) in
    omega (arith, e, known, c.operations-operations.ensures.number, c.operations-operations.ensures.range.1)

pub with_next-with_g-requires-clause-second : goal.with_next-with_g-requires-clause-second
with_next-with_g-requires-clause-second c =
    let j = c.args.join.now in
    let is = c.requires.0.second in
    let e : c.first_operation-g.result ≡ beginning j.second = c.first_operation-g.ensures ∙ ap (λ (x : Join). beginning x.second) c.join.view_is in
    let known = is.known (get_or j.second.word 0 0) (times_of_place j.second.word 0 (omega (arith, is.has_place))) in
    omega (arith, e, known, c.operations-operations.ensures.number, c.operations-operations.ensures.range.1)

pub with_next-requires-clause-first : goal.with_next-requires-clause-first
with_next-requires-clause-first c =
    let j = c.args.join.now in
    let is = c.requires.0.second in
    let e : c.first_operation-g.result ≡ beginning j.second = c.first_operation-g.ensures ∙ ap (λ (x : Join). beginning x.second) c.join.view_is in
    let known = is.known (get_or j.second.word 0 0) (times_of_place j.second.word 0 (omega (arith, is.has_place))) in
    omega (arith, e, known, c.operations-operations.ensures.number, c.operations-operations.ensures.range.1)

pub with_next-requires-clause-second : goal.with_next-requires-clause-second
with_next-requires-clause-second c =
    let j = c.args.join.now in
    let is = c.requires.0.first in
    let e : c.first_operation-f.result ≡ beginning j.first = c.first_operation-f.ensures ∙ ap (λ (x : Join). beginning x.first) c.join.view_is in
    let known = is.known (get_or j.first.word 0 0) (times_of_place j.first.word 0 (omega (arith, is.has_place))) in
    omega (arith, e, known, c.operations-operations.ensures.number, c.operations-operations.ensures.range.1)

pub returns-then-is_there : goal.returns-then-is_there
returns-then-is_there c =
    let j = c.args.join.now in
    let f = c.first_operation-f.result in
    let g = c.first_operation-g.result in
    let e : f ≡ beginning j.first = c.first_operation-f.ensures ∙ ap (λ (x : Join). beginning x.first) c.join.view_is in
    let h : g ≡ beginning j.second = c.first_operation-g.ensures ∙ ap (λ (x : Join). beginning x.second) c.join.view_is in
    let words = c.has_words_of-is_there.ensures.0 c.if-is_there.true in
    record {
      larger = λ x b. c.with_next.ensures.larger x (c.with_next-with_g.ensures.larger x b);
      joined = λ chosen first together all.
          let same : chosen f ≡ chosen g = ap chosen e ∙ (together (record { same_start = c.requires.1; first = words.0; second = words.1 }) ∙ ap chosen (sym h)) in
          c.with_next.ensures.joined chosen first (sym same) (c.with_next-with_g.ensures.joined chosen first same all);
    }
