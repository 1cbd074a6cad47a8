use Rattle.std.proofs.Common.{◌∙◌, sym, true≢false}
use Rattle.cn_choice.specs.Canonical.{raw_choice_of}
use Rattle.cn_views.proofs.Telling.{all_tell, only_witnesses}
use Rattle.cn_views.proofs.looks.Looks.tell.Goals as goal

pub returns-then-is_witness-clause-some : goal.returns-then-is_witness-clause-some
returns-then-is_witness-clause-some c =
    let same = all_tell c.args.table.now c.args.self.now.operations.items c.requires.looks.silent (raw_choice_of c.args.choice.now) in
    (λ h. same.0 (c.are_told.ensures.0 h), λ s. c.are_told.ensures.1 (same.1 s))

pub returns-else-is_witness-clause-all : goal.returns-else-is_witness-clause-all
returns-else-is_witness-clause-all c = (
  λ h. absurd (true≢false (sym h ∙ c.if-is_witness.false)),
  λ visible. c.is_witness.ensures.1 (only_witnesses c.args.table.now c.args.self.now.operations.items (raw_choice_of c.args.choice.now) visible),
)

pub returns-else-is_witness-clause-some : goal.returns-else-is_witness-clause-some
returns-else-is_witness-clause-some c =
    let same = all_tell c.args.table.now c.args.self.now.operations.items c.requires.looks.silent (raw_choice_of c.args.choice.now) in (
      λ h. absurd (true≢false (sym h ∙ c.if-is_witness.false)),
      λ s. c.is_witness.ensures.1 (only_witnesses c.args.table.now c.args.self.now.operations.items (raw_choice_of c.args.choice.now) (same.1 s)),
    )
