-- The local states of with_node protocols as local states of rounds.
use Rattle.std.proofs.Common.{◌≡◌, ℕ, zero, suc, refl, sym, ap, subst, Bool, true, Option}
use Rattle.std.proofs.Common.{None, Some}
use Rattle.cn_table.specs.TypeTable.{IsClosed, TypeTable}
use Rattle.cn_agree.specs.declared.local.Local.{Local}
use Rattle.cn_agree.specs.declared.local.Local.TheVariants.{NotBegun, Active, Decided}
use Rattle.cn_agree.specs.declared.local.Stage.{Stage}
use Rattle.cn_agree.specs.declared.local.Stage.TheVariants.{Write, Apply, Read, Take}
use Rattle.cn_consensus.specs.Consensus.{IsConsensusProtocol}
use Rattle.cn_consensus.specs.Protocol.{Action, IsActionOf, IsProtocolOf, Protocol}
use Rattle.cn_consensus.specs.Protocol.Action.{Decide, ReadRegister, WriteRegister, ApplyOperation}
use Rattle.cn_consensus.specs.Protocol.Action.{ReadObject}
use Rattle.cn_consensus.specs.Types.{all_of}
use Rattle.cn_unread_laws.specs.Reads.{IsWithoutReads, ReadsNoObject}
use Rattle.cn_unread_laws.proofs.Images.{Renders, image_solves}
use Rattle.cn_unread_laws.specs.Solving.{SolvesWithoutReads}
use Rattle.cn_unread_laws.proofs.Groups.{Loc}
use Rattle.cn_unread_laws.proofs.Groups.Loc.{Input, Lower, Inside, Result}

depth : Loc → ℕ
depth (Input x) = 0
depth (Lower l) = suc (depth l)
depth (Inside x) = 0
depth (Result v) = 0

bit : Loc → Bool
bit (Input x) = x
bit (Lower l) = bit l
bit (Inside x) = true
bit (Result None) = true
bit (Result (Some x)) = x

stage : Loc → Stage
stage (Input x) = Read (record { 0 = 0 })
stage (Lower l) = stage l
stage (Inside x) = Take (record { 0 = x.0 }) (record { 0 = x.1 })
stage (Result None) = Write
stage (Result (Some x)) = Apply

coded : Loc → Local Bool
coded l = Active (depth l) (bit l) (stage l)

read_at : ℕ → Bool → Stage → Loc
read_at zero x Write = Result None
read_at zero x Apply = Result (Some x)
read_at zero x (Read r) = Input x
read_at zero x (Take r q) = Inside (r.0, q.0)
read_at (suc i) x s = Lower (read_at i x s)

read_back : Local Bool → Loc
read_back NotBegun = Result None
read_back (Active i x s) = read_at i x s
read_back (Decided x) = Result None

same : (l : Loc) → read_back (coded l) ≡ l
unfolding depth bit stage coded read_at read_back
same (Input x) = refl
same (Lower l) = ap Lower (same l)
same (Inside x) = refl
same (Result None) = refl
same (Result (Some x)) = refl

with_codes : Action Loc (Option Bool) → Action (Local Bool) (Option Bool)
with_codes (Decide x) = Decide x
with_codes (ReadRegister i k) = ReadRegister i (λ v. coded (k v))
with_codes (WriteRegister i v l) = WriteRegister i v (coded l)
with_codes (ApplyOperation i o k) = ApplyOperation i o (λ r. coded (k r))
with_codes (ReadObject i k) = ReadObject i (λ q. coded (k q))

module _ (t : TypeTable) where
  renders : (c : Action Loc (Option Bool)) → ReadsNoObject c
      → Renders (all_of t) coded c (with_codes c)
  unfolding with_codes
  renders (Decide x) h = refl
  renders (ReadRegister i k) h = (λ v. coded (k v), refl, λ v. refl)
  renders (WriteRegister i v l) h = refl
  renders (ApplyOperation i o k) h = (λ r. coded (k r), refl, λ r. refl)
  renders (ReadObject i k) h = absurd h

  module _ (n : ℕ) (closed : IsClosed t) (P : Protocol Loc (Option Bool))
      (known : IsProtocolOf (all_of t) n P) (unread : IsWithoutReads n P)
      (con : IsConsensusProtocol (all_of t) n P) where
    abbrev C : Protocol (Local Bool) (Option Bool)
    C = record {
      start = λ p x. coded (P.start p x);
      action = λ p l. with_codes (P.action p (read_back l));
      registers = P.registers;
      objects = P.objects;
    }

    of_type : IsProtocolOf (all_of t) n C
    unfolding with_codes
    of_type = record {
      states_known = known.states_known;
      operations_known = λ p l lp. by_action (P.action p (read_back l))
          (known.operations_known p (read_back l) lp);
    }
      where
        by_action : (c : Action Loc (Option Bool)) → IsActionOf (all_of t) c
            → IsActionOf (all_of t) (with_codes c)
        by_action (Decide x) h = tt
        by_action (ReadRegister i k) h = tt
        by_action (WriteRegister i v l) h = tt
        by_action (ApplyOperation i o k) h = h
        by_action (ReadObject i k) h = tt

    still_unread : IsWithoutReads n C
    unfolding with_codes
    still_unread p l lp = by_action (P.action p (read_back l)) (unread p (read_back l) lp)
      where
        by_action : (c : Action Loc (Option Bool)) → ReadsNoObject c
            → ReadsNoObject (with_codes c)
        by_action (Decide x) h = tt
        by_action (ReadRegister i k) h = tt
        by_action (WriteRegister i v l) h = tt
        by_action (ApplyOperation i o k) h = tt
        by_action (ReadObject i k) h = h

    pub coded_solves : SolvesWithoutReads t n
    coded_solves = (
      C,
      of_type,
      still_unread,
      image_solves (all_of t) (λ i. closed) n (λ p. coded) P C
          known (record {
            start = λ p x. refl;
            registers = λ i. refl;
            objects = λ i. refl;
            action = λ p l lp. subst (λ (z : Loc).
                Renders (all_of t) coded (P.action p l) (with_codes (P.action p z))) (sym (same l))
                (renders (P.action p l) (unread p l lp));
          }) con,
    )
