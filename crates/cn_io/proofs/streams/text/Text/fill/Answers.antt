use Rattle.std.proofs.Common.{◌≡◌, ◌∙◌, inl, inr, ap, arith, length, sym}
use Rattle.cn_io.specs.declared.streams.progress.Progress.TheVariants.{Done, Open}
use Rattle.cn_io.proofs.StreamLemmas.Reads.{not_done, read_more}
use Rattle.cn_io.proofs.streams.text.Text.fill.Goals as goal

pub returns-in_err-read_some-clause-read : goal.returns-in_err-read_some-clause-read
returns-in_err-read_some-clause-read g c =
    let given = c.read_some.ensures.given in
    read_more c.args.source g.R.Read.remaining c.args.self.now c.loop.self c.read_some.new.self c.loop.invariant.consumed given.0 given.1 given.3
    (omega (arith, given.2, c.len.ensures, c.most_bytes-limit.ensures, c.loop.invariant.within)) (λ done. absurd (not_done c.read_some.new.self.progress c.in_err-read_some.ensures.failed done))

pub returns-then-len-limit-clause-read : goal.returns-then-len-limit-clause-read
returns-then-len-limit-clause-read g c =
    let given = c.read_some.ensures.given in
    read_more c.args.source g.R.Read.remaining c.args.self.now c.loop.self c.read_some.new.self c.loop.invariant.consumed given.0 given.1 given.3
    (omega (arith, given.2, c.len.ensures, c.most_bytes-limit.ensures, c.loop.invariant.within)) (λ done. elim c.in_ok-read_some.ensures.some [
      | inl (is, _) ↦ (let e : Open ≡ Done = sym is ∙ done in cc)
      | inr (_, same, _) ↦ absurd (omega (arith, ap length same, c.loop.invariant.within, c.if-len-limit.true, c.len-in-loop.ensures, c.most_bytes-limit.ensures))
    ])
