use Rattle.std.proofs.Common.{◌∙◌, ◌≤◌, refl}
use Rattle.std.proofs.lemmas.List.Elements.{All-rest}
use Rattle.cn_choice.specs.Blocks.{Block, IsBlockOf}
use Rattle.cn_choice.proofs.choices.ChoicesIterator.next.Goals as goal

pub loop-choice-preserved : goal.loop-choice-preserved
loop-choice-preserved c =
    let table = c.loop-choice.self-inside.table.now in
    record {
      same_table = c.loop-choice.invariant.same_table;
      blocks = All-rest (λ (k : Block). (2 ≤ k.n) × IsBlockOf table k) _ _ _ c.in_ok-block.ensures.steps c.loop-choice.invariant.blocks;
      left = c.loop-choice.invariant.left ∙ rw (c.in_default.ensures.0, c.in_ok-block.ensures.steps, c.new.ensures) refl;
    }
