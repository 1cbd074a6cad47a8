-- The sights of each way to look.
use Rattle.std.specs.Prelude.{ℕ, ◌≡◌, ◌↔◌, ◌∷◌, ◌++◌, All, Bool, true, false, Contains, List, Some, map, slice_get}
use Rattle.cn_meetings.specs.Sights.{AreSightsOf, sight_of}
use Rattle.cn_meetings.specs.declared.sight.Sight as sights
use Rattle.cn_meetings.specs.declared.sight.Sight.TheVariants.{Response as ByResponse}
use Rattle.cn_meetings.specs.Meeting.{IsSightOf, Sight}
use Rattle.cn_meetings.specs.Meeting.Sight.{Nothing, Response, State}
use Rattle.cn_table.specs.TypeTable.{TypeTable}
use Rattle.cn_unread.specs.Views.{IsSilent}
use Rattle.cn_shortest.specs.Costs.{two_sights}
use Rattle.cn_shortest.specs.declared.looks.Looks.{Looks}
use Rattle.cn_shortest.specs.declared.looks.Looks.TheVariants.{AtNothing, AtResponses, AtStates}

-- the processes get the response of a silent operation, or do not look
abbrev pub unread_sights : Sight → Bool
unread_sights State = false
unread_sights Nothing = true
unread_sights (Response o) = true

-- they do not look
abbrev pub no_look : Sight → Bool
no_look State = false
no_look Nothing = true
no_look (Response o) = false

-- the sights of each way to look
abbrev pub allowed : Looks → Sight → Bool
allowed AtStates = two_sights
allowed AtResponses = unread_sights
allowed AtNothing = no_look

-- all of them that are sights of the type
pub record AreSights (t : TypeTable) (looks : Looks) (list : List sights.Sight) : Type 0 where
  pub of_type : AreSightsOf t list
  pub are_allowed : All (λ s. allowed looks (sight_of s) ≡ true) list
  pub all : (sight : Sight) → allowed looks sight ≡ true → IsSightOf t sight
      → (i : ℕ) × (s : sights.Sight) × (slice_get list i ≡ Some s) × (sight_of s ≡ sight)

-- the processes get the response of this operation
abbrev pub by_response : ℕ → sights.Sight
by_response o = ByResponse (record { 0 = o })

-- behind the old ones stand those by the responses of the silent operations
abbrev pub AreResponses : TypeTable → List sights.Sight → List sights.Sight → Type 0
AreResponses t old new = (silent : List ℕ) × ((o : ℕ) → Contains silent o ↔ IsSilent t o)
    × (new ≡ old ++ map by_response silent)
