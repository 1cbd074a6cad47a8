-- The teams of a node as a list of numbers, which gives them back: proofs tell them apart by it.
use Rattle.std.specs.Prelude.{ℕ, zero, suc, ◌≡◌, List, [], ◌∷◌, refl}
use Rattle.std.specs.Coded.{Coded, code_by, coded_ℕ, coded_list}
use Rattle.std.proofs.Common.{◌∙◌, ap}
use Rattle.cn_trees.specs.Tree.{Teams}
use Rattle.cn_trees.specs.Tree.Teams.{Alone, Last, Meet}

-- the marks of the teams, each behind those of its parts, and then these
abbrev pub marks_before : List ℕ → Teams → List ℕ
marks_before marks Last = 0 ∷ marks
marks_before marks (Alone r) = marks_before (1 ∷ marks) r
marks_before marks (Meet s r) = marks_before (marks_before (2 ∷ marks) r) s

-- a mark takes its parts from the stack
abbrev pub push_mark : ℕ → List Teams → List Teams
push_mark zero stack = Last ∷ stack
push_mark (suc zero) [] = []
push_mark (suc zero) (r ∷ stack) = Alone r ∷ stack
push_mark (suc (suc m)) [] = []
push_mark (suc (suc m)) (r ∷ []) = []
push_mark (suc (suc m)) (r ∷ s ∷ stack) = Meet s r ∷ stack

abbrev pub push_marks : List ℕ → List Teams → List Teams
push_marks [] stack = stack
push_marks (m ∷ marks) stack = push_marks marks (push_mark m stack)

abbrev pub top_of : List Teams → Teams
top_of [] = Last
top_of (s ∷ stack) = s

abbrev pub push_marks-before : (s : Teams) (marks : List ℕ) (stack : List Teams)
    → push_marks (marks_before marks s) stack ≡ push_marks marks (s ∷ stack)
push_marks-before Last marks stack = refl
push_marks-before (Alone r) marks stack = push_marks-before r (1 ∷ marks) stack
push_marks-before (Meet s r) marks stack =
    push_marks-before s (marks_before (2 ∷ marks) r) stack ∙ push_marks-before r (2 ∷ marks) (s ∷ stack)

abbrev pub teams_back : (s : Teams) → top_of (push_marks (marks_before [] s) []) ≡ s
teams_back s = let top : List Teams → Teams = top_of in ap top (push_marks-before s [] [])

abbrev pub teams_code : Coded Teams
teams_code =
    code_by (List ℕ) (coded_list coded_ℕ) (marks_before []) (λ marks. top_of (push_marks marks []))
    teams_back
