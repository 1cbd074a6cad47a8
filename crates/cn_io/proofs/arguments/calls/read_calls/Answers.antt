use Rattle.std.proofs.Common.{◌∙◌, ◌==◌, ℕ, List, ap, map, subst}
use Rattle.std.specs.List.{slice_split}
use Rattle.cn_io.specs.Arguments.Calls.{GivesEach}
use Rattle.cn_io.proofs.arguments.calls.read_calls.Goals as goal

pub returns : goal.returns
returns c =
    subst (λ (l : List (List ℕ)). GivesEach l c.read_each.result)
    (ap (map (λ piece. piece.now)) c.deref.ensures.value ∙ c.in_ok-pieces.ensures ∙ ap (slice_split (λ byte. byte == 47)) c.text.ensures) c.read_each.ensures
