use Rattle.cn_flaws.proofs.draft_flaws.length_text.Goals as goal

pub returns : goal.returns
returns c = rw (c.in_ok-entries.ensures, c.in_ok-there.ensures) at c.format.ensures.ok
