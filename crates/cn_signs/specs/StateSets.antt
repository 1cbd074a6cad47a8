-- The sets of states in which the object can be once somebody has moved. The bits of a number are the
-- members of a set.
use Rattle.std.specs.Prelude.{◌≡◌, ℕ, ◌<◌, ◌⊎◌, ◌↔◌, List, length, slice_index, IsBitSet, false}
use Rattle.cn_table.specs.TypeTable.{TypeTable, transition}
use Rattle.cn_choice.specs.declared.team.Team.{Team}
use Rattle.cn_choice.specs.declared.team.Team.TheVariants.{A, B}
use Rattle.cn_outcomes.specs.Subsets.{Below}
use Rattle.cn_unread.specs.Signs.{Leads, Signs, StatesOf}
use Rattle.cn_signs.specs.declared.sign_choice.SignChoice.{SignChoice}
use Rattle.cn_signs.specs.declared.states.SignStates.{SignStates}

-- the sets have states of the type alone
abbrev pub AreKnownStates : TypeTable → SignStates → Type 0
AreKnownStates t s = Below (length t.states) s.single_first × Below (length t.states) s.many_first
    × Below (length t.states) s.single_later

-- the state is in a set of the team
abbrev pub InTeam : SignStates → Team → ℕ → Type 0
InTeam s A q = IsBitSet s.single_first q
InTeam s B q = IsBitSet s.many_first q ⊎ IsBitSet s.single_later q

-- the operations of the choice, for where they lead: no response is a sign
abbrev pub unsigned : SignChoice → Signs
unsigned c = record {
  state = c.state.0;
  single = c.single.0;
  many = c.many.0;
  further = c.further.items;
  side = A;
  sign = λ o r. false;
  rank = λ q. 0;
  height = 0;
}

-- the sets have the states in which the object can be once a process of a team has been first
abbrev pub AreStatesFor : TypeTable → SignChoice → SignStates → Type 0
AreStatesFor t c s = (team : Team) (q : ℕ) → InTeam s team q ↔ StatesOf t (unsigned c) team q

-- these operations alone, for where they lead
abbrev pub walks : ℕ → List ℕ → Signs
walks many further = record {
  state = 0;
  single = 0;
  many = many;
  further = further;
  side = A;
  sign = λ o r. false;
  rank = λ q. 0;
  height = 0;
}

-- operations of the many and further ones lead to the state from one of the set
abbrev pub LedFrom : TypeTable → ℕ → List ℕ → ℕ → ℕ → Type 0
LedFrom t many further from q = (p : ℕ) × IsBitSet from p × Leads t (walks many further) p q

-- one operation leads to the state from one of the set: that of the many, or one of the first k
-- further ones
abbrev pub StepsTo : TypeTable → ℕ → List ℕ → ℕ → ℕ → ℕ → Type 0
StepsTo t many further k set q = (p : ℕ) × IsBitSet set p × (((transition t many p).1 ≡ q)
    ⊎ ((i : ℕ) × (i < k) × ((transition t (slice_index further i) p).1 ≡ q)))
