use Rattle.std.proofs.Common.{length, ◌<◌}
use Rattle.std.proofs.lemmas.List.Elements.{All-get_or, All-take}
use Rattle.cn_stock_check.proofs.WordLemmas.{known_through, long_through, pair_by}
use Rattle.cn_stock_check.proofs.words.pair_of.Goals as goal

pub state_left-before-requires-clause-word : goal.state_left-before-requires-clause-word
state_left-before-requires-clause-word c =
    All-take (λ o. o < length c.args.table.now.operations) c.placed.inside.place c.as_slice-word.result.now
    (known_through (length c.args.table.now.operations) c.placed.inside.place c.as_slice-word.result.now c.placed.inside.word.items c.args.placed.now c.as_slice-word.ensures.value c.placed.view_is
    c.requires.word.known)

pub apply-requires-clause-operation : goal.apply-requires-clause-operation
apply-requires-clause-operation c =
    All-get_or (λ o. o < length c.args.table.now.operations) c.as_slice-word.result.now c.placed.inside.place 0
    (long_through c.placed.inside.place c.as_slice-word.result.now c.placed.inside.word.items c.args.placed.now c.as_slice-word.ensures.value c.placed.view_is c.requires.word.has_place)
    (known_through (length c.args.table.now.operations) c.placed.inside.place c.as_slice-word.result.now c.placed.inside.word.items c.args.placed.now c.as_slice-word.ensures.value c.placed.view_is
    c.requires.word.known)

pub state_left-requires-clause-word : goal.state_left-requires-clause-word
state_left-requires-clause-word c =
    known_through (length c.args.table.now.operations) c.placed.inside.place c.as_slice-word.result.now c.placed.inside.word.items c.args.placed.now c.as_slice-word.ensures.value c.placed.view_is
    c.requires.word.known

pub returns : goal.returns
returns c =
    pair_by c.args.table.now c.args.start.0 c.placed.inside.place c.apply.result.0.0 c.apply.result.1.0 c.state_left-before.result.0 c.state_left.result.0 c.as_slice-word.result.now
    c.placed.inside.word.items c.args.placed.now c.as_slice-word.ensures.value c.placed.view_is c.requires.word.has_place c.apply.ensures.value c.state_left-before.ensures.left
    c.state_left.ensures.left
