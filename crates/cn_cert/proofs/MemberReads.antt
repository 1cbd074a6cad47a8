-- What is told of a value by the key that it stands at.
use Rattle.std.proofs.Common.{◌≡◌, ℕ, List, true, false, Option, Some, None, codes, bytes_eq, refl, ap, ◌∙◌}
use Rattle.std.proofs.lemmas.Slice.Eq.{bytes_eq-Decides}
use Rattle.json.specs.Token.{Token}
use Rattle.serde_json.specs.Data.{Data}
use Rattle.cn_choice.specs.Canonical.{Choice}
use Rattle.cn_choice.specs.Collisions.{Collision}
use Rattle.cn_cert.specs.Tokens.{with_value, nothing, MemberSlots, with_member}

-- what is told by way of something else
abbrev along : {A B C : Type 0} → (A → B) → Option (A × C) → Option (B × C)
along put None = None
along put (Some x) = Some (put x.0, x.1)

told_by : {A B : Type 0} (f : Data → A) (g : Data → B) (put : A → B) → ((d : Data) → g d ≡ put (f d)) → (there : Option (Data × List Token)) (a : A) (r : List Token)
    → with_value f there ≡ Some (a, r) → with_value g there ≡ Some (put a, r)
told_by f g put same None a r e = absurd cc
told_by f g put same (Some p) a r e = ap (λ x. Some (x, p.1)) (same p.0) ∙ ap (along put) e

-- the slots with something else in one of them
abbrev pub put_collisions : MemberSlots → Option (List Collision) → MemberSlots
put_collisions s x = record { collisions = x; limit = s.limit; number = s.number; type_name = s.type_name; version = s.version; witness = s.witness }

abbrev pub put_limit : MemberSlots → Option ℕ → MemberSlots
put_limit s x = record { collisions = s.collisions; limit = x; number = s.number; type_name = s.type_name; version = s.version; witness = s.witness }

abbrev pub put_number : MemberSlots → Option (Option ℕ) → MemberSlots
put_number s x = record { collisions = s.collisions; limit = s.limit; number = x; type_name = s.type_name; version = s.version; witness = s.witness }

abbrev pub put_type_name : MemberSlots → Option (List ℕ) → MemberSlots
put_type_name s x = record { collisions = s.collisions; limit = s.limit; number = s.number; type_name = x; version = s.version; witness = s.witness }

abbrev pub put_version : MemberSlots → Option ℕ → MemberSlots
put_version s x = record { collisions = s.collisions; limit = s.limit; number = s.number; type_name = s.type_name; version = x; witness = s.witness }

abbrev pub put_witness : MemberSlots → Option (Option Choice) → MemberSlots
put_witness s x = record { collisions = s.collisions; limit = s.limit; number = s.number; type_name = s.type_name; version = s.version; witness = x }

-- the value at a key that is one of the six
pub key_told : {X : Type 0} (key name : List ℕ) (s : MemberSlots) (kind : Data → X) (put : X → MemberSlots) → ((d : Data) → with_member name s d ≡ put (kind d))
    → (there : Option (Data × List Token)) (x : X) (r : List Token) → bytes_eq key name ≡ true → with_value kind there ≡ Some (x, r) → with_value (with_member key s) there ≡ Some (put x, r)
key_told key name s kind put same there x r e read =
    ap (λ k. with_value (with_member k s) there) ((bytes_eq-Decides key name).0 e) ∙ told_by kind (with_member name s) put same there x r read

-- the value at a key that is none of them
pub other_key_told : (key : List ℕ) (s : MemberSlots) (there : Option (Data × List Token)) (u : Unit {0}) (r : List Token)
    → bytes_eq key (codes "collisions") ≡ false → bytes_eq key (codes "limit") ≡ false → bytes_eq key (codes "number") ≡ false
    → bytes_eq key (codes "type") ≡ false → bytes_eq key (codes "version") ≡ false → bytes_eq key (codes "witness") ≡ false
    → with_value nothing there ≡ Some (u, r) → with_value (with_member key s) there ≡ Some (s, r)
other_key_told key s there u r e1 e2 e3 e4 e5 e6 read = told_by nothing (with_member key s) (λ _. s) (λ d. rw (e1, e2, e3, e4, e5, e6) refl) there u r read
