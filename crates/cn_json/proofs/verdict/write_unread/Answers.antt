use Rattle.cn_json.proofs.verdict.write_unread.Goals as goal

pub returns : goal.returns
returns c = rw (← c.name.ensures, ← c.number.ensures) c.write_named_refusal.ensures
