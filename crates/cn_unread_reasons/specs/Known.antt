-- Parts of an explanation that are of a table: it has their states, responses and operations.
use Rattle.std.specs.Prelude.{◌≡◌, ◌+◌, ◌<◌, ◌≤◌, All, IfSome, length}
use Rattle.cn_table.specs.TypeTable.{TypeTable}
use Rattle.cn_table.specs.declared.elements.Operation.{Operation}
use Rattle.cn_choice.specs.declared.limits.TheConstants.{MOST_PROCESSES}
use Rattle.cn_further.specs.declared.follow_up.FollowUp.{FollowUp}
use Rattle.cn_reasons.specs.Known.{IsKnownChoice, IsKnownGroup, IsKnownState, IsKnownStep}
use Rattle.cn_signs.specs.SignChoices.{IsKnownChoice as IsKnownSignChoice}
use Rattle.cn_unread_reasons.specs.declared.explanation.MostReason.{MostReason}
use Rattle.cn_unread_reasons.specs.declared.explanation.MostReason.TheVariants.{EachNumber, Open, Trap, WithReads}
use Rattle.cn_unread_reasons.specs.declared.explanation.UnreadExplanation.{UnreadExplanation}
use Rattle.cn_unread_reasons.specs.declared.merged.MergedState.{MergedState}
use Rattle.cn_unread_reasons.specs.declared.play.Play.{Play}
use Rattle.cn_unread_reasons.specs.declared.play.PlayEnd.{PlayEnd}
use Rattle.cn_unread_reasons.specs.declared.sight.Answer.{Answer}
use Rattle.cn_unread_reasons.specs.declared.sight.UnreadSight.{UnreadSight}
use Rattle.cn_unread_reasons.specs.declared.signs.SignWitness.{SignWitness}
use Rattle.cn_unread_reasons.specs.declared.trap.PlayedTrap.{PlayedTrap}
use Rattle.cn_unread_reasons.specs.declared.witness.UnreadView.{UnreadView}
use Rattle.cn_unread_reasons.specs.declared.witness.UnreadWitness.{UnreadWitness}

pub record IsKnownEnd (t : TypeTable) (e : PlayEnd) : Type 0 where
  pub process : e.process < MOST_PROCESSES
  pub state : IsKnownState t e.state

pub record IsKnownPlay (t : TypeTable) (p : Play) : Type 0 where
  pub choice : IsKnownChoice t p.choice
  pub a_first : All (IsKnownStep t) p.a_first.items
  pub b_first : All (IsKnownStep t) p.b_first.items
  pub end : IfSome p.end (IsKnownEnd t)

-- for 2 to MOST_PROCESSES processes; with the choices whose plays are not told they are all
pub record IsKnownTrap (t : TypeTable) (p : PlayedTrap) : Type 0 where
  pub some : 2 ≤ p.processes
  pub few : p.processes ≤ MOST_PROCESSES
  pub plays : All (IsKnownPlay t) p.plays.items
  pub count : p.count ≡ length p.plays.items + p.more

pub record IsKnownAnswer (t : TypeTable) (a : Answer) : Type 0 where
  pub operation : a.operation.0 < length t.operations
  pub response : a.response.0 < length t.responses

pub record IsKnownUnreadSight (t : TypeTable) (s : UnreadSight) : Type 0 where
  pub response : s.response.0 < length t.responses
  pub answers : All (IsKnownAnswer t) s.answers.items

pub record IsKnownUnreadView (t : TypeTable) (v : UnreadView) : Type 0 where
  pub group : IsKnownGroup t v.group
  pub a_first : All (IsKnownUnreadSight t) v.a_first.items
  pub b_first : All (IsKnownUnreadSight t) v.b_first.items

abbrev pub IsKnownOperation : TypeTable → Operation → Type 0
IsKnownOperation t o = o.0 < length t.operations

pub record IsKnownFollowUp (t : TypeTable) (f : FollowUp) : Type 0 where
  pub operation : f.operation.0 < length t.operations
  pub response : f.response.0 < length t.responses
  pub further : f.further.0 < length t.operations

pub record IsKnownUnreadWitness (t : TypeTable) (w : UnreadWitness) : Type 0 where
  pub some : 2 ≤ w.processes
  pub few : w.processes ≤ MOST_PROCESSES
  pub choice : IsKnownChoice t w.choice
  pub looks : All (IsKnownOperation t) w.looks.items
  pub follow_ups : All (IsKnownFollowUp t) w.follow_ups.items
  pub views : All (IsKnownUnreadView t) w.views.items

pub record IsKnownSigns (t : TypeTable) (s : SignWitness) : Type 0 where
  pub choice : IsKnownSignChoice t s.choice
  pub signs : All (IsKnownAnswer t) s.signs.items

-- a state of t, and one of the merged table u
pub record IsKnownMerged (t u : TypeTable) (m : MergedState) : Type 0 where
  pub state : IsKnownState t m.state
  pub class : IsKnownState u m.class

abbrev pub IsKnownMost : TypeTable → MostReason → Type 0
IsKnownMost t Open = Unit {0}
IsKnownMost t EachNumber = Unit {0}
IsKnownMost t (WithReads rule) = Unit {0}
IsKnownMost t (Trap trap) = IsKnownTrap t trap

-- each part is of the merged table
pub record IsUnreadExplanation (e : UnreadExplanation) : Type 0 where
  pub merged : All (IsKnownMerged e.given e.table) e.merged.items
  pub witness : IfSome e.witness (IsKnownUnreadWitness e.table)
  pub signs : IfSome e.signs (IsKnownSigns e.table)
  pub most : IsKnownMost e.table e.most
