use Rattle.std.proofs.Common.{List, ℕ, codes, refl, string_bytes}
use Rattle.cn_pieces.proofs.Ends.{as_wanted}
use Rattle.cn_choice.specs.declared.team.Team.TheVariants.{A, B}
use Rattle.cn_text.specs.Ways.{both_runs, run_text}
use Rattle.cn_text.proofs.Behind.{behind}
use Rattle.cn_text.proofs.ways.push_both_runs.Goals as goal

pub returns : goal.returns
unfolding both_runs
returns c =
    let first : List ℕ = string_bytes c.push_run.new.text in
    let second : List ℕ = string_bytes c.push_str.new.self in
    let third : List ℕ = string_bytes c.push_run-2.new.text in
    as_wanted _ _ _ _ c.push_pieces.ensures
    (behind second (run_text c.args.table.now c.args.answered c.args.start B c.args.b_first.now) third _ _ c.in_ok-push_run-2.ensures
    (behind first (codes "\n") second _ _ c.in_ok-push_str.ensures.bytes
    (behind (string_bytes c.args.text.now) (run_text c.args.table.now c.args.answered c.args.start A c.args.a_first.now) first _ _ c.in_ok-push_run.ensures refl)))
