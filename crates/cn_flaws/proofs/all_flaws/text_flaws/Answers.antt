use Rattle.std.proofs.Common.{arith, refl, sym, take}
use Rattle.std.proofs.lemmas.Bool.{false≢true}
use Rattle.toml.specs.View.{table_view}
use Rattle.cn_flaws.specs.Flaws.{document_flaws, not_toml, text_flaws}
use Rattle.cn_flaws.specs.FlawText.{place_after}
use Rattle.cn_flaws.proofs.FlawLemmas.{placed}
use Rattle.cn_flaws.proofs.all_flaws.text_flaws.Goals as goal

pub returns-in-Ok : goal.returns-in-Ok
unfolding text_flaws
returns-in-Ok c = placed c.document_flaws.result (document_flaws (table_view c.in-Ok.document)) 0 c.args.text.now (omega arith) (rw c.in-Ok.ensures.ok refl) c.document_flaws.ensures

pub returns-in-Some : goal.returns-in-Some
unfolding text_flaws
returns-in-Some c =
    placed c.refusal.result (not_toml (place_after 1 1 (take c.in-Some.span.start c.args.text.now))) c.in-Some.span.start c.args.text.now
    (omega (arith, c.in-Some.ensures.range, c.in-Err.ensures.span)) (rw (c.in-Err.ensures.refused (λ m. false≢true (sym (c.in-Some.ensures.none.1 m)))) refl) c.refusal.ensures
