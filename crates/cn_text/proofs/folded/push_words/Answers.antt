use Rattle.std.proofs.Common.{◌≡◌, ◌+◌, ◌-◌, ◌<◌, ◌++◌, ◌∙◌, ℕ, List, rules, arith, ap, length, refl, string_bytes, sym, take}
use Rattle.std.proofs.lemmas.Str.{IsCharBoundary-start}
use Rattle.cn_text.specs.Folded.{laid_rest}
use Rattle.cn_text.proofs.FoldLemmas.{longer_run, run_text}
use Rattle.cn_text.proofs.folded.push_words.Goals as goal

pub loop-word-init : goal.loop-word-init
loop-word-init c = record {
  utf8_run = search rules;
  utf8_rest = search rules;
  boundary = search (rules, IsCharBoundary-start);
  run = refl;
  short = omega arith;
  text = refl;
}

pub loop-word-preserved-then-fits : goal.loop-word-preserved-then-fits
loop-word-preserved-then-fits c =
    let held = c.loop-word.invariant in
    let run : List ℕ = c.loop-word.run.now in
    let rest : List ℕ = c.loop-word.rest.now in
    let word : List ℕ = c.in-Some.word.now in
    let behind : List ℕ = c.in-Some.behind.now in
    let left : ℕ = c.loop-word.left in
    let gap : ℕ = c.loop-word.gap in
    let front : List ℕ = take c.loop-word.len run in
    let some : 0 < length word = search rules in
    let cut = c.in-Some.ensures in
    let more = longer_run run rest word behind c.loop-word.len gap held.boundary.0 held.run cut.2 in
    let columns : c.saturating_sub-left.result ≡ left - gap - length word = search rules in
    let fit = sym c.fits.ensures ∙ c.if-fits.true in
    record {
      utf8_run = held.utf8_run;
      utf8_rest = search rules;
      boundary = more.2;
      run = more.1;
      short = held.short;
      text = ap (λ xs. string_bytes c.loop-word.text ++ xs)
          (ap (λ n. take (c.loop-word.len + (gap + length word)) run ++ laid_rest n 1 behind) columns
          ∙ ap (λ xs. xs ++ laid_rest (left - gap - length word) 1 behind) more.0 ∙ sym (run_text left gap front rest word behind cut some fit))
          ∙ held.text;
    }
