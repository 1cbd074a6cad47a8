-- The plays of an adversary: a choice for each, and two runs.
use Rattle.std.specs.Prelude.{ℕ, ◌==◌, List, [], ◌++◌, codes}
use Rattle.std.specs.Prelude.{Bool, true, false, Option, Some, None}
use Rattle.std.specs.List.{list_any}
use Rattle.cn_table.specs.Names.{name_at}
use Rattle.cn_table.specs.TypeTable.{TypeTable}
use Rattle.cn_reasons.specs.declared.runs.Step.{Step}
use Rattle.cn_sentences.specs.Groups.{process_name}
use Rattle.cn_unread_reasons.specs.declared.play.Play.{Play}
use Rattle.cn_unread_reasons.specs.declared.play.PlayEnd.{PlayEnd}
use Rattle.cn_text.specs.Ways.{both_runs, way_start}

-- what a process of which both runs have the same steps gets in them
abbrev pub same_words : Bool → List ℕ
same_words true = codes " gets the same"
same_words false = codes " has not moved"

-- whether the process takes a step of the run
abbrev pub has_step : ℕ → List Step → Bool
has_step process run = list_any (λ s. s.process == process) run

-- the process that gets the same in both runs, and the state that each of them leaves
unfoldable pub play_end : TypeTable → PlayEnd → Bool → List ℕ
play_end t e moved = codes "        " ++ (process_name e.process
    ++ (same_words moved ++ (codes ", and each leaves " ++ (name_at t.states e.state.0
    ++ (codes ":\n" ++ [])))))

-- the end and both runs, or that there is no end
abbrev pub play_runs : TypeTable → Play → Option PlayEnd → List ℕ
play_runs t p None = codes "        the adversary goes on for ever\n"
play_runs t p (Some e) = play_end t e (has_step e.process p.a_first.items)
    ++ (both_runs t true p.choice.start p.a_first.items p.b_first.items ++ [])

-- a numbered choice with its play
unfoldable pub play_text : TypeTable → ℕ → Play → List ℕ
play_text t number p = way_start t number p.choice ++ (play_runs t p p.end ++ [])
