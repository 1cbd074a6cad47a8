use Rattle.std.proofs.Common.{◌≡◌, ◌≤◌, ◌++◌, length, string_bytes, take}
use Rattle.std.specs.Str.{IsCharBoundary}
use denote.Text.{Utf8}
use denote.Shadow.{shadow}
use Rattle.cn_text.specs.Folded.{laid_rest}
use Rattle.cn_pieces.specs.Pieces.{spaces}
use Rattle.cn_text.specs.declared.limits.TheConstants.{WIDEST_LINE}
use Rattle.cn_text.proofs.folded.push_words.Given as goal

-- the words so far, those of the run, and the rest
abbrev pub invariant-loop-word : goal.invariant-loop-word
invariant-loop-word l = record {
  utf8_run : shadow (Utf8 l.run);
  utf8_rest : shadow (Utf8 l.rest);
  boundary : IsCharBoundary l.run l.len;
  run : l.run ≡ take l.len l.run ++ (spaces l.gap ++ l.rest);
  short : length l.run ≤ length l.line;
  text : string_bytes l.text ++ (take l.len l.run ++ laid_rest l.left l.gap l.rest) ≡ string_bytes l.initial.text ++ laid_rest WIDEST_LINE 0 l.line;
}

abbrev pub decreases-loop-word : goal.decreases-loop-word
decreases-loop-word l = length l.rest
