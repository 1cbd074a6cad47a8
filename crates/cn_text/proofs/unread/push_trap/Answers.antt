use Rattle.std.proofs.Common.{List, ℕ, codes, refl, string_bytes}
use Rattle.cn_text.specs.Reasons.{theorem_line, ways_notes}
use Rattle.cn_text.specs.Unread.{trap_line, trap_plays, trap_text}
use Rattle.cn_text.proofs.Behind.{as_last, behind}
use Rattle.cn_text.proofs.unread.push_trap.Goals as goal

pub returns : goal.returns
unfolding trap_text
returns c =
    let trap = c.args.trap.now in
    let first : List ℕ = string_bytes c.push_trap_plays.new.text in
    let second : List ℕ = string_bytes c.push_ways_notes.new.text in
    let third : List ℕ = string_bytes c.push_trap_line.new.text in
    as_last _ third (theorem_line (codes "without reads") trap.processes) _ _ c.push_theorem.ensures
    (behind second (trap_line trap.positions) third _ _ c.in_ok-push_trap_line.ensures
    (behind first (ways_notes trap.more 2) second _ _ c.in_ok-push_ways_notes.ensures
    (behind (string_bytes c.args.text.now) (trap_plays c.args.table.now trap) first _ _ c.in_ok-push_trap_plays.ensures refl)))
