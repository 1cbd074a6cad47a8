use Rattle.std.proofs.Common.{◌≡◌, ◌+◌, ℕ, length, ap, arith, sym, subst}
use Rattle.cn_choice.specs.Canonical.{Choice, raw_choice_of}
use Rattle.cn_choice.specs.declared.team.Team.TheVariants.{A, B}
use Rattle.cn_reasons.specs.Recoverable.{IsReaderFor}
use Rattle.cn_reasons.proofs.RecordingLemmas.{reader_in_a, reader_in_b}
use Rattle.cn_reasons.proofs.recording.reader_for.Goals as goal

pub returns-in-A : goal.returns-in-A
returns-in-A c =
    let t = c.args.table.now in
    let choice = c.args.choice.now in
    let n = length choice.a + length choice.b in
    let count : c.len.result ≡ length choice.a = omega (arith, c.len.ensures.value, ap (λ (x : Choice). length x.a) c.choice.view_is) in
    subst (λ (p : ℕ). IsReaderFor t (raw_choice_of choice) (record { process = p; team = B; other = A })) (sym count)
    (reader_in_b t choice n ((c.choice_by_teams.ensures t n choice).0 c.requires.fits.fits) c.requires.is (rw c.in-A.is at c.requires.way_back))

pub returns-in-B : goal.returns-in-B
returns-in-B c =
    let t = c.args.table.now in
    let choice = c.args.choice.now in
    let n = length choice.a + length choice.b in
    reader_in_a t choice n ((c.choice_by_teams.ensures t n choice).0 c.requires.fits.fits) c.requires.is (rw c.in-B.is at c.requires.way_back)
