use Rattle.std.proofs.Common.{◌≡◌, drop, max}
use Rattle.cn_sentences.specs.Triangle.{texts_of}
use Rattle.cn_text.specs.Columns.{widest}
use Rattle.cn_text.proofs.sides.widest_text.Given as goal

-- the widest so far, and the others
abbrev pub invariant-loop-text : goal.invariant-loop-text
invariant-loop-text l = max l.width (widest (texts_of (drop l.text-index l.texts))) ≡ widest (texts_of l.texts)
