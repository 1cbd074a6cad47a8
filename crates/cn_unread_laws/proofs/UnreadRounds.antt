-- The protocol of a round with a silent operation, or nothing, in place of each read of an object.
use Rattle.std.proofs.Common.{◌≡◌, ℕ, ◌+◌, ◌<◌, inl, inr, length, refl, sym, ap, Bool}
use Rattle.std.proofs.Common.{true, false, cond, nat_lt, Option, None, Some}
use Rattle.cn_table.specs.TypeTable.{IsClosed, TypeTable}
use Rattle.cn_table.specs.declared.elements.Response.{Response}
use Rattle.cn_proto.specs.Protocol.{ProtocolOfRounds, place_of}
use Rattle.cn_proto.specs.declared.place.Place.{Place}
use Rattle.cn_agree.specs.Steps.{onward_if_found}
use Rattle.cn_agree.specs.declared.local.Local.{Local}
use Rattle.cn_agree.specs.declared.local.Local.TheVariants.{NotBegun, Active, Decided}
use Rattle.cn_agree.specs.declared.local.Stage.{Stage}
use Rattle.cn_agree.specs.declared.local.Stage.TheVariants.{Write, Apply, Read, Take}
use Rattle.cn_consensus.specs.Consensus.{IsConsensusProtocol}
use Rattle.cn_consensus.specs.Protocol.{Action, IsActionOf, IsProtocolOf, Protocol}
use Rattle.cn_consensus.specs.Protocol.Action.{ReadRegister, ApplyOperation, Decide}
use Rattle.cn_consensus.specs.Types.{all_of}
use Rattle.cn_solvable.specs.RoundProtocol.{local_action, round_protocol, stage_action}
use Rattle.cn_unread_laws.specs.Reads.{IsWithoutReads, ReadsNoObject}
use Rattle.cn_unread.specs.Views.{IsLook, view}
use Rattle.cn_unread_laws.proofs.Images.{IsImage, Renders, image_solves}

-- the action in place of the read of object v
abbrev look_action : Option ℕ → ℕ → ℕ → Bool → Response → Action (Local Bool) (Option Bool)
look_action None v i x response =
    ReadRegister 0 (λ y. Active i x (Take response (record { 0 = 0 })))
look_action (Some o) v i x response =
    ApplyOperation v o (λ q. Active i x (Take response (record { 0 = q })))

abbrev unread_stage : ProtocolOfRounds → (ℕ → ℕ) → (ℕ → ℕ → Option ℕ) → ℕ → ℕ → Bool → Stage → Place
    → Action (Local Bool) (Option Bool)
unread_stage R op look places i x Write here = stage_action R op places i x Write here
unread_stage R op look places i x Apply here = stage_action R op places i x Apply here
unread_stage R op look places i x (Read response) here =
    look_action (look (op here.role) response.0) here.node i x response
unread_stage R op look places i x (Take response state) here =
    stage_action R op places i x (Take response state) here

abbrev unread_action : ProtocolOfRounds → (ℕ → ℕ) → (ℕ → ℕ → Option ℕ) → ℕ → Local Bool
    → Action (Local Bool) (Option Bool)
unread_action R op look p NotBegun = ReadRegister 0 (λ y. NotBegun)
unread_action R op look p (Active i x stage) =
    unread_stage R op look (length (R.path p)) i x stage (place_of R p i)
unread_action R op look p (Decided y) = Decide y

abbrev pub unread_round : ProtocolOfRounds → (ℕ → ℕ) → (ℕ → ℕ → Option ℕ)
    → Protocol (Local Bool) (Option Bool)
unread_round R op look = record {
  start = λ p x. Active 0 x Write;
  action = λ p l. unread_action R op look p l;
  registers = λ i. None;
  objects = λ v. R.start;
}

module _ (t : TypeTable) (R : ProtocolOfRounds) (op : ℕ → ℕ) (look : ℕ → ℕ → Option ℕ)
    (is_look : IsLook t look) (n : ℕ) where
  -- the protocol of the round that reads, and judges by the view of the state that it reads
  abbrev pub reading : ProtocolOfRounds
  reading = record {
    act = R.act;
    start = R.start;
    judge = λ role r q. R.judge role r (view t (look (op role) r) q);
    path = R.path;
  }

  -- a view in place of the state
  abbrev seen : ℕ → Local Bool → Local Bool
  seen p NotBegun = NotBegun
  seen p (Active i x Write) = Active i x Write
  seen p (Active i x Apply) = Active i x Apply
  seen p (Active i x (Read response)) = Active i x (Read response)
  seen p (Active i x (Take response state)) = Active i x (Take response
      (record { 0 = view t (look (op (place_of R p i).role) response.0) state.0 }))
  seen p (Decided y) = Decided y

  renders : (p : ℕ) (l : Local Bool)
      → Renders (all_of t) (seen p) (local_action reading op p l)
      (unread_action R op look p (seen p l))
  renders p NotBegun = (λ y. NotBegun, refl, λ v. refl)
  renders p (Active i x Write) = refl
  renders p (Active i x Apply) = (λ r. Active i x (Read (record { 0 = r })), refl, λ r. refl)
  renders p (Active i x (Read response)) = by_look (look (op (place_of R p i).role) response.0) refl
    where
      by_look : (o : Option ℕ) → look (op (place_of R p i).role) response.0 ≡ o
          → Renders (all_of t) (seen p) (local_action reading op p (Active i x (Read response)))
          (look_action o (place_of R p i).node i x response)
      by_look None e = inr (
        0,
        λ y. Active i x (Take response (record { 0 = 0 })),
        refl,
        λ y q. ap (λ (w : Option ℕ). Active i x (Take response (record { 0 = view t w q })))
            (sym e),
      )
      by_look (Some v) e = inl (
        v,
        λ q. Active i x (Take response (record { 0 = q })),
        refl,
        is_look (op (place_of R p i).role) response.0 v e,
        λ q l. ap (λ (w : Option ℕ). Active i x (Take response (record { 0 = view t w q })))
            (sym e),
      )
  renders p (Active i x (Take response state)) = (
    onward_if_found (length (R.path p)) i (seen p (Active i x (Take response state))),
    refl,
    by_found,
  )
    where
      by_test : (b : Bool) (y : Bool)
          → cond b (Active (i + 1) y Write) (Decided y)
          ≡ seen p (cond b (Active (i + 1) y Write) (Decided y))
      by_test true y = refl
      by_test false y = refl

      by_found : (v : Option Bool)
          → onward_if_found (length (R.path p)) i (seen p (Active i x (Take response state))) v
          ≡ seen p (onward_if_found (length (R.path p)) i (Active i x (Take response state)) v)
      by_found None = refl
      by_found (Some y) = by_test (nat_lt (i + 1) (length (R.path p))) y
  renders p (Decided y) = refl

  image : IsImage (all_of t) n seen (round_protocol reading op) (unread_round R op look)
  image = record {
    start = λ p x. refl;
    registers = λ i. refl;
    objects = λ i. refl;
    action = λ p l lp. renders p l;
  }

  pub unread : IsWithoutReads n (unread_round R op look)
  unread p l lp = by_local l
    where
      by_look : (o : Option ℕ) (v i : ℕ) (x : Bool) (response : Response)
          → ReadsNoObject (look_action o v i x response)
      by_look None v i x response = tt
      by_look (Some o) v i x response = tt

      by_local : (l : Local Bool) → ReadsNoObject (unread_action R op look p l)
      by_local NotBegun = tt
      by_local (Active i x Write) = tt
      by_local (Active i x Apply) = tt
      by_local (Active i x (Read response)) =
          by_look (look (op (place_of R p i).role) response.0) (place_of R p i).node i x response
      by_local (Active i x (Take response state)) = tt
      by_local (Decided y) = tt

  module _ (known : IsProtocolOf (all_of t) n (round_protocol reading op)) where
    pub of_type : IsProtocolOf (all_of t) n (unread_round R op look)
    of_type = record {
      states_known = known.states_known;
      operations_known = λ p l lp. by_local p l lp;
    }
      where
        by_look : (o m : ℕ) (response : Response) (v : Option ℕ) → look o response.0 ≡ v → (i : ℕ) (x : Bool)
            → IsActionOf (all_of t) (look_action v m i x response)
        by_look o m response None e i x = tt
        by_look o m response (Some v) e i x = (is_look o response.0 v e).known

        by_local : (p : ℕ) (l : Local Bool) → p < n
            → IsActionOf (all_of t) (unread_action R op look p l)
        by_local p NotBegun lp = tt
        by_local p (Active i x Write) lp = tt
        by_local p (Active i x Apply) lp = known.operations_known p (Active i x Apply) lp
        by_local p (Active i x (Read response)) lp =
            by_look (op (place_of R p i).role) (place_of R p i).node response
            (look (op (place_of R p i).role) response.0) refl i x
        by_local p (Active i x (Take response state)) lp = tt
        by_local p (Decided y) lp = tt

    pub solves : IsClosed t → IsConsensusProtocol (all_of t) n (round_protocol reading op)
        → IsConsensusProtocol (all_of t) n (unread_round R op look)
    solves closed con = image_solves (all_of t) (λ i. closed) n seen (round_protocol reading op)
        (unread_round R op look) known image con
