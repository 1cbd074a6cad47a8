-- The value of a certificate says the certificate.
use Rattle.std.proofs.Common.{◌≡◌, ℕ, List, [], ◌∷◌, Option, Some, None, map, refl}
use Rattle.serde_json.specs.Data.{Data}
use Rattle.serde_json.specs.View.{items_of}
use Rattle.cn_table.specs.Draft.{all_some}
use Rattle.cn_choice.specs.Canonical.{Choice}
use Rattle.cn_choice.specs.Collisions.{Collision}
use Rattle.cn_cert.specs.Certificate.{Certificate}
use Rattle.cn_cert.specs.CertificateText.{number_data, numbers_data, number_or_null, choice_data, witness_data, collision_data, collisions_data, certificate_data}
use Rattle.cn_cert.specs.Document.{list_of}
use Rattle.cn_cert.specs.Values.{natural_of, naturals_of, nullable}
use Rattle.cn_cert.specs.Draft.{choice_from, choice_of, collision_from, collision_of, collisions_of, draft_from, draft_of}

all_back : {X : Type 0} (f : Data → Option X) (g : X → Data) → ((x : X) → f (g x) ≡ Some x) → (xs : List X) → all_some (map f (list_of (items_of (map g xs)))) ≡ Some xs
all_back f g each [] = refl
all_back f g each (x ∷ xs) = rw (each x, all_back f g each xs)

numbers : (ns : List ℕ) → naturals_of (numbers_data ns) ≡ Some ns
numbers = all_back natural_of number_data (λ _. refl)

number : (n : Option ℕ) → nullable natural_of (number_or_null n) ≡ Some n
number None = refl
number (Some n) = refl

choice : (c : Choice) → choice_of (choice_data c) ≡ Some c
unfolding choice_from
choice c = rw (numbers c.a, numbers c.b)

witness : (w : Option Choice) → nullable choice_of (witness_data w) ≡ Some w
witness None = refl
witness (Some c) = rw (choice c)

collision : (x : Collision) → collision_of (collision_data x) ≡ Some x
unfolding collision_from choice_from
collision x = rw (numbers x.choice.a, numbers x.choice.b, numbers x.alpha, numbers x.beta)

collisions : (xs : List Collision) → collisions_of (collisions_data xs) ≡ Some xs
collisions = all_back collision_of collision_data collision

pub draft : (c : Certificate) → draft_of (certificate_data c) ≡ Some c
unfolding draft_from
draft c = rw (collisions c.collisions, number c.number, witness c.witness)
