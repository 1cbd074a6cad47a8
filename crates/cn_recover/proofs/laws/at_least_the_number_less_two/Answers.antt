use Rattle.cn_recover.proofs.Gap.{recording_of_witness}
use Rattle.cn_recover.proofs.Numbers.{at_least}
use Rattle.cn_recover.proofs.laws.at_least_the_number_less_two.Goals as goal

pub returns : goal.returns
returns c =
    let recording = recording_of_witness (λ t n d i. c.coverage.ensures t n d i) (λ t n d. c.choice_by_teams.ensures t n d) in
    record { recording = recording; number = λ t limit n recoverable l h. at_least t limit n recoverable l h.1 (recording t n l h.2) }
