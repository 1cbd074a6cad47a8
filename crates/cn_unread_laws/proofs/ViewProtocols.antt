-- A choice whose teams are told apart by views gives a consensus protocol without reads.
use Rattle.std.proofs.Common.{ℕ, ◌-◌, ◌<◌, ◌≤◌, ◌⊎◌, inl, inr, length, refl, sym, subst, Option}
use Rattle.std.specs.Prelude.{slice_index}
use Rattle.std.proofs.lemmas.List.Elements.{All-get_or}
use Rattle.cn_table.specs.TypeTable.{IsClosed, TypeTable}
use Rattle.cn_choice.specs.Canonical.{Choice, raw_choice_of}
use Rattle.cn_choice.specs.RawChoices.{IsRawChoice, RawChoice}
use Rattle.cn_choice.specs.Renumbering.{IsRenumbering, with_other_teams}
use Rattle.cn_consensus.specs.Consensus.{IsConsensusProtocol}
use Rattle.cn_consensus.specs.Protocol.{IsProtocolOf}
use Rattle.cn_consensus.specs.Types.{all_of}
use Rattle.cn_proto.specs.Protocol.{ProtocolOfRounds}
use Rattle.cn_proto.specs.Sound.{IsSound}
use Rattle.cn_proto.specs.Tournament.{team_of}
use Rattle.cn_proto.specs.Witnesses.{tournament_protocol}
use Rattle.cn_solvable.specs.RoundProtocol.{round_protocol}
use Rattle.cn_solvable.proofs.Rounds as rounds
use Rattle.cn_solvable.proofs.WitnessProtocols.{LawsBelow}
use Rattle.cn_unread.specs.Views.{IsLook, IsViewDiscerning, IsViewWitness}
use Rattle.cn_unread_laws.specs.Solving.{SolvesWithoutReads}
use Rattle.cn_unread_laws.proofs.UnreadRounds as unread
use Rattle.cn_unread.proofs.ViewWitnesses.{view_embeds, view_exchanged}
use Rattle.cn_unread_laws.proofs.ViewJudges.{judge, judges}

module _ (laws : LawsBelow) (t : TypeTable) (closed : IsClosed t) (n : ℕ) (two : 2 ≤ n)
    (look : ℕ → ℕ → Option ℕ) (is_look : IsLook t look) (d : Choice)
    (is : IsRawChoice t n (raw_choice_of d)) (w : IsViewWitness t look (raw_choice_of d)) where
  abbrev op : ℕ → ℕ
  op role = slice_index (raw_choice_of d).operations role

  -- the round that judges by views
  abbrev R : ProtocolOfRounds
  R = tournament_protocol t d (judge t closed n (raw_choice_of d) is look w laws.decided)

  abbrev S : ProtocolOfRounds
  S = unread.reading t R op look is_look n

  sound : IsSound S n (n - 1) (team_of (length d.a))
  sound = laws.sound t d n S.judge is (judges t closed n (raw_choice_of d) is look w laws.decided)

  known : IsProtocolOf (all_of t) n (round_protocol S op)
  known = rounds.of_type t S op n (team_of (length d.a)) sound (λ role q. refl) two is.state_known
      (λ role l. All-get_or (λ o. o < length t.operations) (raw_choice_of d).operations role 0
      (subst (λ (k : ℕ). role < k) (sym is.one_operation_each) l) is.operations_known)

  agree : IsConsensusProtocol (all_of t) n (round_protocol S op)
  agree = rounds.consensus t S op n (team_of (length d.a)) sound (λ role q. refl) two laws.agree
      (laws.short t d n is)

  pub solves_by : SolvesWithoutReads t n
  solves_by = (
    unread.unread_round R op look,
    unread.of_type t R op look is_look n known,
    unread.unread t R op look is_look n,
    unread.solves t R op look is_look n known closed agree,
  )

pub views_solve : LawsBelow → (t : TypeTable) (n : ℕ) → IsClosed t → 2 ≤ n → IsViewDiscerning t n
    → SolvesWithoutReads t n
views_solve laws t n closed two w =
    let look = w.0 in
    let c = w.2 in
    let f = laws.canonical t n c w.3 in
    solves_by laws t closed n two look w.1 f.0 f.1.for_n (by_form look c w.4 f.0 f.1.renumbered)
  where
    by_form : (look : ℕ → ℕ → Option ℕ) (c : RawChoice) → IsViewWitness t look c → (d : Choice)
        → IsRenumbering (raw_choice_of d) c ⊎ IsRenumbering (raw_choice_of d) (with_other_teams c)
        → IsViewWitness t look (raw_choice_of d)
    by_form look c v d (inl r) = view_embeds r.0 (raw_choice_of d) c r.1 t look v
    by_form look c v d (inr r) = view_embeds r.0 (raw_choice_of d) (with_other_teams c) r.1 t look
        (view_exchanged t look c v)
