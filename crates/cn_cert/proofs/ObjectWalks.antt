-- The members of an object, and values that are of a kind or null.
use Rattle.std.proofs.Common.{◌≡◌, ℕ, ◌+◌, List, ◌∷◌, Bool, true, false, true≢false, Option, Some, None, option_map, option_and_then, codes, bytes_eq, Ordering, Less, Equal, Greater, if◌then◌else◌, refl, sym, ap, ◌∙◌, ◌==◌, nat_cmp}
use Rattle.std.proofs.lemmas.Slice.Eq.{bytes_eq-Decides}
use Rattle.std.specs.Cmp.Lexicographic.{slice_cmp}
use Rattle.std.specs.Ordering.{match_ordering}
use Rattle.json.specs.Token.{Token}
use Rattle.serde_json.specs.Data.{Data, null, boolean, number, string, array, object, Members, no_members, member, put}
use Rattle.serde_json.specs.Find.{as_str, get_member}
use Rattle.serde_json.proofs.Views.{get_member-put, get_member-put_other}
use Rattle.cn_cert.specs.Document.{members_len}
use Rattle.cn_cert.specs.Draft.{choice_of, collisions_of, draft_from, draft_of}
use Rattle.cn_cert.specs.Values.{natural_of, nullable, at_key}
use Rattle.cn_cert.specs.Tokens.{data_at, with_value, MemberSlots, slots_of, with_member, draft_parts, keys_of}
use Rattle.cn_cert.proofs.Walks.{told_of}
use Rattle.cn_cert.proofs.ArrayWalks.{sort, token_sort, sorted}

-- ---- values of other kinds

pub not_string : (d : Data) → (sort d ≡ 3 → ⊥) → as_str d ≡ None
not_string null h = refl
not_string (boolean b) h = refl
not_string (number n) h = refl
not_string (string s) h = absurd (h refl)
not_string (array ds) h = refl
not_string (object ms) h = refl

pub not_object : (d : Data) → (sort d ≡ 5 → ⊥) → draft_of d ≡ None
not_object null h = refl
not_object (boolean b) h = refl
not_object (number n) h = refl
not_object (string s) h = refl
not_object (array ds) h = refl
not_object (object ms) h = absurd (h refl)

pub not_null : {X : Type 0} (kind : Data → Option X) (d : Data) → (sort d ≡ 0 → ⊥) → nullable kind d ≡ option_map Some (kind d)
not_null kind null h = absurd (h refl)
not_null kind (boolean b) h = refl
not_null kind (number n) h = refl
not_null kind (string s) h = refl
not_null kind (array ds) h = refl
not_null kind (object ms) h = refl

-- a value that is not null, read as one of a kind or null
pub some_or_null : {X : Type 0} (kind : Data → Option X) (depth : ℕ) (t : Token) (ts r : List Token) (o : Option X) → (token_sort t ≡ 0 → ⊥) → with_value kind (data_at depth (t ∷ ts)) ≡ Some (o, r)
    → with_value (nullable kind) (data_at depth (t ∷ ts)) ≡ Some (option_map Some o, r)
some_or_null kind depth t ts r o other e =
    let d = told_of kind (data_at depth (t ∷ ts)) o r e in
    let same = sorted depth t ts (sort d.0) r (ap (with_value sort) d.1) in
    ap (with_value (nullable kind)) d.1 ∙ ap (λ x. Some (x, r)) (not_null kind d.0 (λ h. other (sym same ∙ h)) ∙ ap (option_map Some) d.2)

-- ---- the value at a key, after one more was put

at_put_by : {X : Type 0} (q k : List ℕ) (f : Data → Option X) (d : Data) (ms : Members) (b : Bool) → bytes_eq k q ≡ b → at_key q f (put k d ms) ≡ (if b then f d else at_key q f ms)
at_put_by q k f d ms true e = let same = (bytes_eq-Decides k q).0 e in ap (option_and_then f) (ap (λ x. get_member x (put k d ms)) (sym same) ∙ get_member-put k d ms)
at_put_by q k f d ms false e = ap (option_and_then f) (get_member-put_other q k d ms (λ same. true≢false (sym ((bytes_eq-Decides k q).1 (sym same)) ∙ e)))

at_put : {X : Type 0} (q k : List ℕ) (f : Data → Option X) (d : Data) (ms : Members) → at_key q f (put k d ms) ≡ (if bytes_eq k q then f d else at_key q f ms)
at_put q k f d ms = at_put_by q k f d ms _ refl

pub slots_put : (k : List ℕ) (d : Data) (ms : Members) → slots_of (put k d ms) ≡ with_member k (slots_of ms) d
slots_put k d ms = rw (
  at_put (codes "collisions") k collisions_of d ms,
  at_put (codes "limit") k natural_of d ms,
  at_put (codes "number") k (nullable natural_of) d ms,
  at_put (codes "type") k as_str d ms,
  at_put (codes "version") k natural_of d ms,
  at_put (codes "witness") k (nullable choice_of) d ms,
) refl

-- ---- the keys

keys_chosen : (o : Ordering) (a b c : Members) → keys_of (match_ordering o a b c) ≡ match_ordering o (keys_of a) (keys_of b) (keys_of c)
keys_chosen Less a b c = refl
keys_chosen Equal a b c = refl
keys_chosen Greater a b c = refl

pub keys_put : (k : List ℕ) (d : Data) (ms : Members) → keys_of (put k d ms) ≡ put k null (keys_of ms)
keys_put k d no_members = refl
keys_put k d (member l e ms) = keys_chosen (slice_cmp nat_cmp k l) _ _ _
    ∙ ap (λ rest. match_ordering (slice_cmp nat_cmp k l) (member k null (member l null (keys_of ms))) (member l null (keys_of ms)) (member l null rest)) (keys_put k d ms)

pub keys_len : (ms : Members) → members_len (keys_of ms) ≡ members_len ms
keys_len no_members = refl
keys_len (member k d ms) = ap (λ n. n + 1) (keys_len ms)

-- the draft of an object, by its slots and how many keys it has
pub draft_is : (ms : Members) (six : Bool) (s : MemberSlots) → (members_len (keys_of ms) == 6) ≡ six → slots_of ms ≡ s → draft_of (object ms) ≡ (if six then draft_parts s else None)
unfolding draft_from
draft_is ms six s e f = ap (λ n. if n == 6 then draft_from ms else None) (sym (keys_len ms)) ∙ ap (λ b. if b then draft_parts (slots_of ms) else None) e
    ∙ ap (λ x. if six then draft_parts x else None) f
