use Rattle.std.proofs.Common.{◌<◌, ℕ, List, arith}
use Rattle.std.proofs.lemmas.List.Elements.{recursion_from_All}
use Rattle.cn_choice.specs.Canonical.{Choice}
use Rattle.cn_choice.specs.declared.limits.TheConstants.{MOST_PROCESSES}
use Rattle.cn_check.proofs.EntryTextLemmas.{short_of}
use Rattle.cn_check.proofs.LineLemmas.{line_spelled, small_tested}
use Rattle.cn_check.proofs.entry.entry_behind.Goals as goal

pub returns-clause-spelled : goal.returns-clause-spelled
returns-clause-spelled c =
    let a : List ℕ = c.args.a.now in
    let b : List ℕ = c.args.b.now in
    let choice : Choice = record { state = c.args.state.0; a = a; b = b } in
    line_spelled c.args.table.now choice c.args.bytes.now _ _ c.requires.state (short_of a (omega (arith, c.requires.fits.few)) c.requires.small)
    (short_of b (omega (arith, c.requires.fits.few)) (small_tested b (recursion_from_All (λ n. n < MOST_PROCESSES) b c.requires.small_b))) c.in_ok-rest.ensures.begins c.in_ok-next.ensures
