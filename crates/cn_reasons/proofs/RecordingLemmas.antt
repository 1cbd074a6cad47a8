-- The reader of a recording witness is alone in its team.
use Rattle.std.proofs.Common.{◌≡◌, ◌↔◌, ℕ, zero, suc, ◌<◌, [], ◌∷◌, ◌++◌, length, Some, replicate, arith, refl}
use Rattle.std.specs.Prelude.{slice_get}
use Rattle.cn_table.specs.TypeTable.{TypeTable}
use Rattle.cn_choice.specs.Canonical.{Choice, raw_choice_of, IsChoiceFor}
use Rattle.cn_choice.specs.RawChoices.{RawChoice}
use Rattle.cn_choice.specs.declared.team.Team.{Team}
use Rattle.cn_choice.specs.declared.team.Team.TheVariants.{A, B}
use Rattle.cn_outcomes.specs.LeftStates.{LeavesIn}
use Rattle.cn_recover.specs.Recording.{IsRecordingWitness}
use Rattle.cn_recover.proofs.TeamSizes.{two_in_a, two_in_b}
use Rattle.cn_reasons.specs.Recoverable.{IsReaderFor}

no_a : (k p : ℕ) → slice_get (replicate k B) p ≡ Some A → ⊥
no_a zero p e = absurd (cc e)
no_a (suc k) zero e = absurd (cc e)
no_a (suc k) (suc p) e = no_a k p e

alone_in_a : (k p : ℕ) → (slice_get (A ∷ replicate k B) p ≡ Some A) ↔ (p ≡ 0)
alone_in_a k zero = (λ e. refl, λ e. refl)
alone_in_a k (suc p) = (λ e. absurd (no_a k p e), λ e. absurd (omega (arith, e)))

alone_in_b : (m p : ℕ) → (slice_get (replicate m A ++ B ∷ []) p ≡ Some B) ↔ (p ≡ m)
alone_in_b zero zero = (λ e. refl, λ e. refl)
alone_in_b zero (suc p) = (λ e. absurd (cc e), λ e. absurd (omega (arith, e)))
alone_in_b (suc m) zero = (λ e. absurd (cc e), λ e. absurd (omega (arith, e)))
alone_in_b (suc m) (suc p) = let r = alone_in_b m p in (λ e. (let q = r.0 e in omega (arith, q)), λ e. r.1 (omega (arith, e)))

module _ (t : TypeTable) (c : Choice) (n : ℕ) (for : IsChoiceFor t n c) (is : IsRecordingWitness t (raw_choice_of c)) where
  one_in_b : LeavesIn t (raw_choice_of c) A c.state → length c.b ≡ 1
  one_in_b back = omega (arith, for.someone_in_b, λ (more : 1 < length c.b). is.no_way_back_a ((two_in_b c).1 more) back)

  one_in_a : LeavesIn t (raw_choice_of c) B c.state → length c.a ≡ 1
  one_in_a back = omega (arith, for.someone_in_a, λ (more : 1 < length c.a). is.no_way_back_b ((two_in_a c).1 more) back)

  pub reader_in_b : LeavesIn t (raw_choice_of c) A c.state → IsReaderFor t (raw_choice_of c) (record { process = length c.a; team = B; other = A })
  reader_in_b back = record {
    apart = λ e. absurd (cc e);
    alone = λ p. rw (one_in_b back) (alone_in_b (length c.a) p);
    way_back = back;
  }

  pub reader_in_a : LeavesIn t (raw_choice_of c) B c.state → IsReaderFor t (raw_choice_of c) (record { process = 0; team = A; other = B })
  reader_in_a back = record {
    apart = λ e. absurd (cc e);
    alone = λ p. rw (one_in_a back) (alone_in_a (length c.b) p);
    way_back = back;
  }

pub no_team : (t : TypeTable) (c : RawChoice) (q : ℕ) → ¬ LeavesIn t c A q → ¬ LeavesIn t c B q → (team : Team) → ¬ LeavesIn t c team q
no_team t c q a b A = a
no_team t c q a b B = b
