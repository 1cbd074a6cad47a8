use Rattle.cn_game.proofs.trap.Trap.refutes.Goals as goal

pub returns-then-are_sound-clause-exact : goal.returns-then-are_sound-clause-exact
returns-then-are_sound-clause-exact c =
    let sound = rw (c.new-turns.ensures, c.as_slice.ensures.value) at c.are_sound.ensures in
    let all = rw (c.new-turns.ensures, c.as_slice.ensures.value) at c.catches_all.ensures in
    (λ h. record { leads_back = sound.0 c.if-are_sound.true; catches_all = all.0 h }, λ is. all.1 is.catches_all)

pub returns-then-are_sound-clause-undefended : goal.returns-then-are_sound-clause-undefended
returns-then-are_sound-clause-undefended c =
    let sound = rw (c.new-turns.ensures, c.as_slice.ensures.value) at c.are_sound.ensures in
    let all = rw (c.new-turns.ensures, c.as_slice.ensures.value) at c.catches_all.ensures in
    λ h. c.listed_traps_refute.ensures c.args.table.now c.args.n c.args.self.now.turns.items
    (record { leads_back = sound.0 c.if-are_sound.true; catches_all = all.0 h })
