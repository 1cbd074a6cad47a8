-- The sights of processes as values of the code.
use Rattle.std.specs.Prelude.{All, Bool, true, false, List}
use Rattle.cn_table.specs.TypeTable.{TypeTable}
use Rattle.cn_meetings.specs.Meeting as meeting
use Rattle.cn_meetings.specs.Meeting.{IsSightOf}
use Rattle.cn_meetings.specs.declared.sight.Sight.{Sight}
use Rattle.cn_meetings.specs.declared.sight.Sight.TheVariants.{Nothing, Response, State}

-- the sight of a process
abbrev pub sight_of : Sight → meeting.Sight
sight_of State = meeting.Sight.State
sight_of Nothing = meeting.Sight.Nothing
sight_of (Response o) = meeting.Sight.Response o.0

-- the state is read
abbrev pub reads : Sight → Bool
reads State = true
reads Nothing = false
reads (Response o) = false

-- each is a sight of the type
abbrev pub AreSightsOf : TypeTable → List Sight → Type 0
AreSightsOf t sights = All (λ sight. IsSightOf t (sight_of sight)) sights
