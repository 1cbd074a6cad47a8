-- Flaws of one thing after another, and the keys and items that have them.
use Rattle.std.proofs.Common.{◌≡◌, ℕ, ◌<◌, ◌≤◌, ◌+◌, List, [], ◌∷◌, ◌++◌, length, drop, take, get_or, map, Bool, true, false, Option, Some, None, slice_get, ◌-◌, Bor, String, Vec, Global, Result, Ok, Err, IfOk, string_bytes, append_assoc, arith, refl, ap, sym, ◌∙◌}
use Rattle.std.specs.Prelude.{option_map, unwrap_or}
use Rattle.std.specs.List.{list_all, list_any}
use Rattle.std.specs.Option.{option_map_or}
use Rattle.std.specs.Map.{keys_of}
use Rattle.std.specs.Str.{bytes_eq}
use Rattle.std.proofs.lemmas.List.{drop_more, drop-map, take-map}
use Rattle.std.proofs.lemmas.List.Folds.{list_all-map}
use Rattle.toml.specs.Data.{Data, Items, as_array}
use Rattle.toml.specs.declared.value.Value.{Value}
use Rattle.toml.specs.View.{members_view, view}
use Rattle.cn_table.specs.Document.{keys_in, list_of}
use Rattle.cn_table.specs.Faults.{is_array_of}
use Rattle.cn_flaws.specs.FlawText.{other_key_text}
use Rattle.cn_flaws.specs.Flaws.{Flaw, flaw, flaws_view, each, other_keys, stands_in, text_flaws, last_place}
use Rattle.cn_flaws.specs.FlawPath.{key_path}
use Rattle.cn_flaws.specs.declared.path.Holder.{Holder}
use Rattle.cn_flaws.specs.declared.flaw.Flaw as code_flaw
use Rattle.cn_table.specs.declared.fault.TableFault.TheVariants.{UnknownKey}
use Rattle.cn_table.proofs.Lists.{list_any-map}

-- the keys of a `toml` table are those of its map
pub keys_of_view : (es : List (String Global × Value)) → map (λ k. string_bytes k) (keys_of es) ≡ keys_in (members_view es)
keys_of_view [] = refl
keys_of_view (e ∷ es) = ap (λ ks. string_bytes e.0 ∷ ks) (keys_of_view es)

-- an array whose items in memory are of a kind is an array of that kind
pub items_are : (kind : Data → Bool) (d : Data) (vs : List Value) → option_map list_of (as_array d) ≡ Some (map view vs)
    → list_all (λ v. kind (view v)) vs ≡ is_array_of kind d
items_are kind d vs are = of_array (as_array d) are where
  of_array : (o : Option Items) → option_map list_of o ≡ Some (map view vs)
      → list_all (λ v. kind (view v)) vs ≡ option_map_or (λ items. list_all kind (list_of items)) o false
  of_array None e = cc
  of_array (Some items) e = let same : list_of items ≡ map view vs = cc in rw same (sym (list_all-map kind view vs))

-- the flaws of one more thing stand behind those before
pub each_more : {V X : Type 0} (find : ℕ → X → List Flaw) (f : V → X) (old new all : List Flaw) (vs : List V) (i : ℕ) (v : V) → i < length vs → v ≡ get_or vs i v
    → new ≡ old ++ find i (f v) → old ++ each find i (map f (drop i vs)) ≡ all → new ++ each find (i + 1) (map f (drop (i + 1) vs)) ≡ all
each_more find f old new all vs i v within is step before =
    let split = rw (drop_more vs i v within, ← is) at before in
    rw step (append_assoc old (find i (f v)) _ ∙ split)

-- a known key and an unknown key
pub other_key_passed : (holder : Holder) (before after : List ℕ) (known : List (Bor (List ℕ))) (key : List ℕ) (keys : List (List ℕ)) (old all : List Flaw)
    → list_any (λ k. bytes_eq k.now key) known ≡ true → old ++ other_keys holder before after (map (λ k. k.now) known) (key ∷ keys) ≡ all
    → old ++ other_keys holder before after (map (λ k. k.now) known) keys ≡ all
other_key_passed holder before after known key keys old all one so_far = rw (list_any-map (λ k. bytes_eq k key) (λ k. k.now) known, one) at so_far

pub other_key_more : (holder : Holder) (before after : List ℕ) (known : List (Bor (List ℕ))) (key : List ℕ) (keys : List (List ℕ)) (old new all : List Flaw)
    → list_any (λ k. bytes_eq k.now key) known ≡ false → new ≡ old ++ flaw UnknownKey (key_path holder key) (other_key_text before after key)
    → old ++ other_keys holder before after (map (λ k. k.now) known) (key ∷ keys) ≡ all → new ++ other_keys holder before after (map (λ k. k.now) known) keys ≡ all
other_key_more holder before after known key keys old new all none step so_far =
    let split = rw (list_any-map (λ k. bytes_eq k key) (λ k. k.now) known, none) at so_far in
    rw step (append_assoc old (flaw UnknownKey (key_path holder key) (other_key_text before after key)) _ ∙ split)

-- a name stands among the first i names, or among those behind, if it stands among those of the things there
pub stands_before : {V : Type 0} (f : V → List ℕ) (vs : List V) (i : ℕ) (name : List ℕ) → list_any (λ v. bytes_eq (f v) name) (take i vs) ≡ stands_in (take i (map f vs)) name
stands_before f vs i name = sym (list_any-map (λ t. bytes_eq t name) f (take i vs)) ∙ ap (λ ts. stands_in ts name) (sym (take-map f i vs))

pub stands_behind : {V : Type 0} (f : V → List ℕ) (vs : List V) (i : ℕ) (name : List ℕ) → list_any (λ v. bytes_eq (f v) name) (drop i vs) ≡ stands_in (drop i (map f vs)) name
stands_behind f vs i name = sym (list_any-map (λ t. bytes_eq t name) f (drop i vs)) ∙ ap (λ ts. stands_in ts name) (sym (drop-map f i vs))

-- the last of some places
last_at : (k : ℕ) (ks : List ℕ) → slice_get (k ∷ ks) (length ks) ≡ Some (last_place k ks)
last_at k [] = refl
last_at k (l ∷ ls) = last_at l ls

pub last_is : (i : ℕ) (ks : List ℕ) → unwrap_or (slice_get ks (length ks - 1)) i ≡ last_place i ks
last_is i [] = refl
last_is i (k ∷ ks) =
    let behind : length (k ∷ ks) - 1 ≡ length ks = omega arith in
    rw (behind, last_at k ks) refl

-- the flaws of a text at some place
pub placed : {E : Type 0} (r : Result (Vec code_flaw.Flaw Global) E) (there : List Flaw) (place : ℕ) (text : List ℕ) → place ≤ length text → text_flaws place text ≡ there
    → IfOk r (λ v. flaws_view v ≡ there) → IfOk r (λ v. (p : ℕ) × (p ≤ length text) × (flaws_view v ≡ text_flaws p text))
placed (Ok v) there place text within are found = (place, within, found ∙ sym are)
placed (Err e) there place text within are found = tt
