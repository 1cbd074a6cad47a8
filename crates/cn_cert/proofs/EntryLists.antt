-- The texts of entries, one behind another.
use Rattle.std.proofs.Common.{◌≡◌, ℕ, ◌+◌, ◌-◌, ◌<◌, ◌≤◌, List, [], ◌∷◌, ◌++◌, append_assoc, append-nil, arith, codes, length, length-append, refl, slice_index, subst, sym, take, ap, ◌∙◌, true, map}
use Rattle.std.proofs.Math.Seq.{get_or-append_seam, take-append_seam}
use Rattle.std.proofs.lemmas.List.{append_cancel_right}
use Rattle.serde_json.specs.View.{items_of}
use Rattle.serde_json.specs.Written.{compact_text, items_text}
use Rattle.cn_choice.specs.Collisions.{Collision}
use Rattle.cn_cert.specs.CertificateText.{collision_data}
use Rattle.cn_cert.specs.Entries.{listed_text, with_comma}
use Rattle.cn_cert.specs.Frames.{AreEntries}

-- the texts of entries, with a comma between two
between : Collision → List Collision → List ℕ
between x [] = compact_text (collision_data x)
between x (y ∷ ys) = compact_text (collision_data x) ++ 44 ∷ between y ys

listed_between : (x : Collision) (xs : List Collision) → listed_text (x ∷ xs) ≡ between x xs ++ codes ","
unfolding between
listed_between x [] = append-nil (compact_text (collision_data x) ++ codes ",")
listed_between x (y ∷ ys) =
    append_assoc (compact_text (collision_data x)) (codes ",") (listed_text (y ∷ ys)) ∙ (ap (λ (v : List ℕ). compact_text (collision_data x) ++ 44 ∷ v) (listed_between y ys)
    ∙ sym (append_assoc (compact_text (collision_data x)) (44 ∷ between y ys) (codes ",")))

items_between : (x : Collision) (xs : List Collision) → items_text true (items_of (map collision_data (x ∷ xs))) ≡ 44 ∷ (between x xs ++ codes "]")
unfolding between
items_between x [] = refl
items_between x (y ∷ ys) = ap (λ (v : List ℕ). 44 ∷ (compact_text (collision_data x) ++ v)) (items_between y ys)
    ∙ ap (λ (v : List ℕ). 44 ∷ v) (sym (append_assoc (compact_text (collision_data x)) (44 ∷ between y ys) (codes "]")))

-- the texts of entries with a comma between two are the text of their array without the brackets
are_between : (bytes : List ℕ) (x : Collision) (xs : List Collision) → bytes ≡ between x xs → AreEntries bytes (x ∷ xs)
are_between bytes x xs same =
    let items : 44 ∷ (bytes ++ codes "]") ≡ items_text true (items_of (map collision_data (x ∷ xs))) = ap (λ (v : List ℕ). 44 ∷ (v ++ codes "]")) same ∙ sym (items_between x xs) in
    cc items

-- bytes that spell entries to the end are their text
pub spelled_entries : (bytes : List ℕ) (xs : List Collision) → with_comma bytes ≡ listed_text xs ++ with_comma [] → AreEntries bytes xs
spelled_entries [] [] e = refl
spelled_entries (b ∷ bs) [] e = absurd (cc e)
spelled_entries [] (x ∷ xs) e = absurd (nothing x xs (e ∙ (append-nil (listed_text (x ∷ xs)) ∙ listed_between x xs)))
  where
    nothing : (x : Collision) (xs : List Collision) → [] ≡ between x xs ++ codes "," → ⊥
    nothing x xs h = some (between x xs) h
      where
        some : (v : List ℕ) → [] ≡ v ++ codes "," → ⊥
        some [] h = cc h
        some (y ∷ v) h = cc h
spelled_entries (b ∷ bs) (x ∷ xs) e = are_between (b ∷ bs) x xs (append_cancel_right (b ∷ bs) (between x xs) (codes ",") (e ∙ (append-nil (listed_text (x ∷ xs)) ∙ listed_between x xs)))

nothing_left : (bytes : List ℕ) → length bytes ≡ 0 → bytes ≡ []
nothing_left [] e = refl
nothing_left (b ∷ bs) e = absurd (omega (arith, e))

-- the texts of entries without the last comma, if there is one
pub without_comma : (text body : List ℕ) → length body ≤ length text → (0 < length text → slice_index text (length text - 1) < 128 → body ≡ take (length text - 1) text)
    → (xs : List Collision) → text ≡ listed_text xs → AreEntries body xs
without_comma text body short cut [] e = subst (λ (b : List ℕ). AreEntries b []) (sym (nothing_left body (omega (arith, short, ap (λ (t : List ℕ). length t) e)))) refl
without_comma text body short cut (x ∷ xs) e =
    let v = between x xs in
    let same : text ≡ v ++ 44 ∷ [] = e ∙ listed_between x xs in
    let long : length text ≡ length v + 1 = ap (λ (t : List ℕ). length t) same ∙ length-append v (44 ∷ []) in
    let at : length text - 1 ≡ length v = omega (arith, long) in
    let last : slice_index text (length text - 1) ≡ 44 = ap (λ (k : ℕ). slice_index text k) at ∙ (ap (λ (t : List ℕ). slice_index t (length v)) same ∙ get_or-append_seam v 44 [] 0) in
    let is : body ≡ v = cut (omega (arith, long)) (omega (arith, last)) ∙ (ap (λ (k : ℕ). take k text) at ∙ (ap (λ (t : List ℕ). take (length v) t) same ∙ take-append_seam v (44 ∷ []))) in
    are_between body x xs is

-- the texts of the entries of two lists
pub listed_append : (xs ys : List Collision) → listed_text (xs ++ ys) ≡ listed_text xs ++ listed_text ys
listed_append [] ys = refl
listed_append (x ∷ xs) ys = ap (λ (v : List ℕ). (compact_text (collision_data x) ++ codes ",") ++ v) (listed_append xs ys)
    ∙ sym (append_assoc (compact_text (collision_data x) ++ codes ",") (listed_text xs) (listed_text ys))
