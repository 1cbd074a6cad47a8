-- The texts of entries.
use Rattle.std.proofs.Common.{◌≡◌, ℕ, ◌-◌, ◌<◌, ◌≤◌, List, [], ◌∷◌, ◌++◌, length, append_assoc, append-nil, codes, refl, sym, ap, ◌∙◌, subst, arith, true, decimal, nat_le, le-leb}
use Rattle.std.specs.Prelude.{IfSome}
use Rattle.std.specs.List.{list_all}
use Rattle.serde_json.specs.Written.{compact_text}
use Rattle.cn_table.specs.TypeTable.{TypeTable}
use Rattle.cn_table.specs.declared.limits.TheConstants.{MOST_STATES}
use Rattle.cn_choice.specs.Canonical.{Choice, raw_choice_of}
use Rattle.cn_choice.specs.Discerning.{IsWitness}
use Rattle.cn_cert.specs.Certificate.{Certificate}
use Rattle.cn_choice.specs.Collisions.{Collision}
use Rattle.cn_choice.specs.declared.limits.TheConstants.{MOST_PROCESSES}
use Rattle.cn_cert.specs.CertificateText.{collision_data, numbers_data}
use Rattle.cn_cert.proofs.EntryLists.{spelled_entries}
use Rattle.cn_cert.specs.Ranges.{is_choice_in_range, is_collision_in_range, is_short}
use Rattle.cn_check.specs.Conditions.{HasWitnessFor, IsInRange}
use Rattle.cn_check.specs.Verdict.{IsAcceptedWith}
use Rattle.cn_check.specs.Versions.{choices_to_refute_in}
use Rattle.cn_check.specs.EntryTexts.{AreSpelled, IsShown, evidence_text, head_text}
use Rattle.cn_cert.specs.Entries.{with_comma}

-- the text of an entry, part by part
entry_parts : (x : Collision) → compact_text (collision_data x) ≡ head_text x.choice.state x.choice.a ++ (compact_text (numbers_data x.choice.b) ++ 44 ∷ evidence_text x)
entry_parts x = simp append_assoc refl

three_parts : (p a b rest : List ℕ) → p ++ 44 ∷ (a ++ 44 ∷ (b ++ 93 ∷ rest)) ≡ ((p ++ codes "," ++ a ++ codes "," ++ b) ++ codes "]") ++ rest
three_parts p a b rest = simp append_assoc refl

-- the evidence of an entry, piece by piece
pub evidence_spelled : (x : Collision) (bytes after_process second after_alpha third after_beta rest : List ℕ) → bytes ≡ decimal x.process ++ after_process → after_process ≡ 44 ∷ second
    → second ≡ compact_text (numbers_data x.alpha) ++ after_alpha → after_alpha ≡ 44 ∷ third → third ≡ compact_text (numbers_data x.beta) ++ after_beta → after_beta ≡ 93 ∷ rest
    → bytes ≡ evidence_text x ++ rest
evidence_spelled x bytes after_process second after_alpha third after_beta rest e f g h i j =
    let alpha : List ℕ = compact_text (numbers_data x.alpha) in
    let beta : List ℕ = compact_text (numbers_data x.beta) in
    let regroup : decimal x.process ++ 44 ∷ (alpha ++ 44 ∷ (beta ++ 93 ∷ rest)) ≡ evidence_text x ++ rest = three_parts (decimal x.process) alpha beta rest in
    e ∙ (ap (λ (v : List ℕ). decimal x.process ++ v)
    (f ∙ ap (λ (v : List ℕ). 44 ∷ v) (g ∙ ap (λ (v : List ℕ). alpha ++ v) (h ∙ ap (λ (v : List ℕ). 44 ∷ v) (i ∙ ap (λ (v : List ℕ). beta ++ v) j)))) ∙ regroup)

-- a list of small numbers that is not too long
pub short_of : (ns : List ℕ) → length ns ≤ MOST_PROCESSES → list_all (λ n. nat_le n (MOST_PROCESSES - 1)) ns ≡ true → is_short ns ≡ true
short_of ns few small = rw (le-leb (length ns) MOST_PROCESSES few, small) refl

-- an entry that is right, and the comma behind it
pub one_spelled : (t : TypeTable) (c : Choice) (text bytes left middle behind rest : List ℕ) (greatest : ℕ) → c.state < MOST_STATES → is_short c.a ≡ true → is_short c.b ≡ true
    → IsShown t c text greatest → bytes ≡ head_text c.state c.a ++ left → left ≡ compact_text (numbers_data c.b) ++ 44 ∷ middle → middle ≡ text ++ behind
    → behind ++ codes "," ≡ codes "," ++ with_comma rest → AreSpelled t (c ∷ []) bytes rest
one_spelled t c text bytes left middle behind rest greatest state a b is e f g h =
    let x = is.entry in
    let own : List ℕ = compact_text (collision_data x) in
    let whole : own ≡ head_text c.state c.a ++ (compact_text (numbers_data c.b) ++ 44 ∷ text) =
    entry_parts x ∙ (ap (λ (d : Choice). head_text d.state d.a ++ (compact_text (numbers_data d.b) ++ 44 ∷ evidence_text x)) is.of_choice
    ∙ ap (λ (v : List ℕ). head_text c.state c.a ++ (compact_text (numbers_data c.b) ++ 44 ∷ v)) (sym is.spelled)) in
    let begun : bytes ≡ own ++ behind =
    e ∙ (ap (λ (v : List ℕ). head_text c.state c.a ++ v)
    (f ∙ (ap (λ (v : List ℕ). compact_text (numbers_data c.b) ++ 44 ∷ v) g ∙ sym (append_assoc (compact_text (numbers_data c.b)) (44 ∷ text) behind)))
    ∙ (sym (append_assoc (head_text c.state c.a) (compact_text (numbers_data c.b) ++ 44 ∷ text) behind) ∙ ap (λ (v : List ℕ). v ++ behind) (sym whole))) in
    let comma : with_comma bytes ≡ bytes ++ codes "," = ap with_comma begun ∙ ap (λ (v : List ℕ). v ++ codes ",") (sym begun) in
    let fits : is_choice_in_range c ≡ true = rw (le-leb c.state (MOST_STATES - 1) (omega (arith, state)), a, b) refl in
    let range : is_collision_in_range x ≡ true = rw (is.of_choice, fits, is.process_small, is.alpha_short, is.beta_short) refl in (
      x ∷ [],
      ((is.of_choice, is.collides), tt),
      rw range refl,
      comma ∙ (ap (λ (v : List ℕ). v ++ codes ",") begun ∙ (append_assoc own behind (codes ",")
          ∙ (ap (λ (v : List ℕ). own ++ v) h ∙ (sym (append_assoc own (codes ",") (with_comma rest)) ∙ ap (λ (v : List ℕ). v ++ with_comma rest) (sym (append-nil (own ++ codes ","))))))),
    )

-- ---- all entries

-- where nothing is left, the end is reached
pub to_the_end : (t : TypeTable) (choices : List Choice) (bytes rest : List ℕ) → length rest ≡ 0 → AreSpelled t choices bytes rest → AreSpelled t choices bytes []
to_the_end t choices bytes [] e h = h
to_the_end t choices bytes (b ∷ rest) e h = absurd (omega (arith, e))

-- a certificate all of whose parts but the entries are right is accepted with entries that are spelled
pub accepted_with : (t : TypeTable) (seen c : Certificate) (bytes : List ℕ) → seen ≡ c → c.type_name ≡ t.name → IsInRange seen.version seen.limit seen.number → HasWitnessFor t seen.number seen.witness
    → IfSome seen.witness (λ w. IsWitness t (raw_choice_of w)) → AreSpelled t (choices_to_refute_in seen.version t seen.limit seen.number) bytes [] → IsAcceptedWith t c bytes
accepted_with t seen c bytes same named in_range fits witness spelled =
    let is : IsAcceptedWith t seen bytes = (
      spelled.0,
      spelled_entries bytes spelled.0 spelled.3,
      spelled.2,
      record { type_name = ap (λ (x : Certificate). x.type_name) same ∙ named; in_range = in_range; witness_fits = fits; witness = witness; refuted = spelled.1 },
    ) in
    subst (λ (x : Certificate). IsAcceptedWith t x bytes) same is
