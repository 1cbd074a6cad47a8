use Rattle.cn_choice.specs.Canonical.{raw_choice_of}
use Rattle.cn_views.proofs.OutcomePairs.{told}
use Rattle.cn_views.proofs.visible.is_told.Goals as goal

pub returns : goal.returns
returns c =
    told c.args.table.now c.tables_are_valid.ensures.table _ (raw_choice_of c.args.choice.now) c.requires.fits.fits c.args.looks.now.operations.items c.args.process
    c.outcomes-from_a.result c.outcomes-from_b.result c.meet_alike.result c.outcomes-from_a.ensures c.outcomes-from_b.ensures c.meet_alike.ensures
