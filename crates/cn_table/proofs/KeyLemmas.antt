-- The keys of a `toml` table, by the entries of its map.
use Rattle.std.proofs.Common.{◌≡◌, ℕ, List, [], ◌∷◌, Bool, false, ◌||◌, Option, Some, None, String, Global, Bor, map, is_some, option_map, not, string_bytes, nat_cmp, refl, ap, sym, ◌∙◌}
use Rattle.std.specs.List.{list_any}
use Rattle.std.specs.Option.{option_map_or}
use Rattle.std.specs.Map.{keys_of, lookup}
use Rattle.std.specs.BTreeMap.{is_at}
use Rattle.std.specs.Cmp.Lexicographic.{slice_cmp}
use Rattle.std.specs.Str.{bytes_eq}
use Rattle.toml.specs.declared.value.Value.{Value}
use Rattle.toml.specs.Data.{Members, get_member, as_table}
use Rattle.toml.specs.View.{view, members_view, items_view}
use Rattle.toml.proofs.Views.{view-lookup}
use Rattle.cn_table.specs.Document.{keys_in, list_of}
use Rattle.cn_table.specs.Faults.{has_other_key, lacks_a_key, some_table}
use Rattle.cn_table.proofs.ListLemmas.{list_any-same}
use Rattle.cn_table.proofs.Lists.{list_any-map}

abbrev pub Entry : Type 0
Entry = String Global × Value

-- a test of the table's keys, as a test of the map's keys
pub keys_in-members : (p : List ℕ → Bool) (es : List Entry) → list_any p (keys_in (members_view es)) ≡ list_any (λ k. p (string_bytes k)) (keys_of es)
keys_in-members p [] = refl
keys_in-members p (e ∷ es) = ap (λ b. p (string_bytes e.0) || b) (keys_in-members p es)

-- some key is none of these
pub other_key : (known : List (Bor (List ℕ))) (es : List Entry)
    → list_any (λ k. not (list_any (λ l. bytes_eq l.now (string_bytes k)) known)) (keys_of es) ≡ has_other_key (map (λ k. k.now) known) (members_view es)
other_key known es =
    sym (keys_in-members _ es ∙ list_any-same _ _ (keys_of es) (λ k. ap not (list_any-map (λ l. bytes_eq l (string_bytes k)) (λ l. l.now) known)))

is_some-map : {X Y : Type 0} (f : X → Y) (o : Option X) → is_some (option_map f o) ≡ is_some o
is_some-map f None = refl
is_some-map f (Some x) = refl

-- the map has a key exactly if the table has the member
pub has_member : (k : List ℕ) (es : List Entry) → is_some (lookup (is_at (λ x. slice_cmp nat_cmp k (string_bytes x))) es) ≡ is_some (get_member k (members_view es))
has_member k es = sym (is_some-map view _) ∙ ap is_some (view-lookup k es)

-- one of these keys is missing
pub lacking : (known : List (Bor (List ℕ))) (es : List Entry)
    → list_any (λ k. not (is_some (lookup (is_at (λ x. slice_cmp nat_cmp k.now (string_bytes x))) es))) known ≡ lacks_a_key (map (λ k. k.now) known) (members_view es)
lacking known es = list_any-same _ _ known (λ k. ap not (has_member k.now es)) ∙ sym (list_any-map _ (λ k. k.now) known)

-- the items of an array are the values of its list
pub list_of-view : (vs : List Value) → list_of (items_view vs) ≡ map view vs
list_of-view [] = refl
list_of-view (v ∷ vs) = ap (λ ds. view v ∷ ds) (list_of-view vs)

-- a test of some table among the items, as a test of the values
pub some_table-view : (test : Members → Bool) (vs : List Value) → list_any (λ v. option_map_or test (as_table (view v)) false) vs ≡ some_table test (map view vs)
some_table-view test vs = sym (list_any-map (λ d. option_map_or test (as_table d) false) view vs)
