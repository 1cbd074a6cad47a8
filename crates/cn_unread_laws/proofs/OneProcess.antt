-- One process alone decides its own input, and reads no object.
use Rattle.std.proofs.Common.{◌≡◌, ℕ, ◌<◌, List, [], ◌∷◌, length, refl, sym, ap, ◌∙◌, arith}
use Rattle.std.proofs.Common.{Bool, Option, Some}
use Rattle.cn_table.specs.TypeTable.{TypeTable}
use Rattle.cn_agree.specs.declared.local.Local.{Local}
use Rattle.cn_agree.specs.declared.local.Local.TheVariants.{NotBegun, Active, Decided}
use Rattle.cn_consensus.specs.Configuration.{Configuration, after, decision, initial}
use Rattle.cn_consensus.specs.Consensus.{HasDecided, IsConsensusProtocol}
use Rattle.cn_consensus.specs.Protocol.{IsActionOf, IsProtocolOf}
use Rattle.cn_consensus.specs.Types.{all_of}
use Rattle.cn_solvable.specs.OneProcess.{own_action, own_input}
use Rattle.cn_unread_laws.specs.Reads.{IsWithoutReads, ReadsNoObject}
use Rattle.cn_unread_laws.specs.Solving.{SolvesWithoutReads}

module _ (t : TypeTable) where
  -- the same as the private nothing_changes of cn_solvable
  nothing_changes : (inputs : ℕ → Bool) (s : List ℕ)
      → after (all_of t) own_input (initial own_input inputs) s ≡ initial own_input inputs
  nothing_changes inputs [] = refl
  nothing_changes inputs (p ∷ s) = nothing_changes inputs s

  -- the same as the private decided of cn_solvable
  decided : (inputs : ℕ → Bool) (s : List ℕ) (p : ℕ)
      → HasDecided (all_of t) own_input inputs s p (inputs p)
  decided inputs s p = ap (λ (c : Configuration (Local Bool) (Option Bool)).
      decision own_input c p) (nothing_changes inputs s)

  -- the same as the private own of cn_solvable
  own : (inputs : ℕ → Bool) (s : List ℕ) (p : ℕ) (x : Bool)
      → HasDecided (all_of t) own_input inputs s p x → inputs p ≡ x
  own inputs s p x d = same (sym (decided inputs s p) ∙ d)
    where
      same : {y z : Bool} → Some y ≡ Some z → y ≡ z
      same e = cc e

  -- the same as the private of_type of cn_solvable
  of_type : 0 < length t.states → IsProtocolOf (all_of t) 1 own_input
  of_type some = record { states_known = λ i. some; operations_known = λ p l lp. by_local l }
    where
      by_local : (l : Local Bool) → IsActionOf (all_of t) (own_action l)
      by_local NotBegun = tt
      by_local (Active i x stage) = tt
      by_local (Decided x) = tt

  -- the same as the private consensus of cn_solvable
  consensus : IsConsensusProtocol (all_of t) 1 own_input
  consensus = record {
    agreement = λ inputs s h p q x y lp lq d e.
        (let one : p ≡ q = omega (arith, lp, lq) in
        sym (own inputs s p x d) ∙ (ap inputs one ∙ own inputs s q y e));
    validity = λ inputs s h p x l d. (p, l, own inputs s p x d);
    wait_freedom = λ inputs. (0, λ s h p l often. (inputs p, decided inputs s p));
  }

  unread : IsWithoutReads 1 own_input
  unread p l lp = by_local l
    where
      by_local : (l : Local Bool) → ReadsNoObject (own_action l)
      by_local NotBegun = tt
      by_local (Active i x stage) = tt
      by_local (Decided x) = tt

  pub one_alone : 0 < length t.states → SolvesWithoutReads t 1
  one_alone some = (own_input, of_type some, unread, consensus)
