-- Lists of values, in memory and as data.
use Rattle.std.proofs.Common.{◌≡◌, ℕ, suc, String, Global, add-one, length, List, [], ◌∷◌, Some, true, true≢false, is_some, refl, sym, ap}
use Rattle.std.proofs.lemmas.Option.{none-some, same_Some}
use Rattle.serde_json.specs.Data.{Data, null, boolean, number, unsigned, negative, float, string, array, object, Items}
use Rattle.serde_json.specs.Find.{as_array, as_null, as_str}
use Rattle.serde_json.specs.View.{items_of, members_view}
use Rattle.serde_json.specs.declared.value.Value.{Value}
use Rattle.cn_cert.specs.Document.{list_of, members_len}
use Rattle.cn_cert.specs.Values.{natural_of}

-- an array has the items of which it was made
pub list_back : (ds : List Data) → list_of (items_of ds) ≡ ds
list_back [] = refl
list_back (d ∷ ds) = ap (λ (rest : List Data). d ∷ rest) (list_back ds)

-- a value that is an array
pub array_back : (d : Data) (ds : Items) → as_array d ≡ Some ds → d ≡ array ds
array_back null ds e = absurd (none-some _ e)
array_back (boolean b) ds e = absurd (none-some _ e)
array_back (number n) ds e = absurd (none-some _ e)
array_back (string s) ds e = absurd (none-some _ e)
array_back (array is) ds e = ap array (same_Some _ _ e)
array_back (object ms) ds e = absurd (none-some _ e)

-- a value that is an unsigned integer
pub number_back : (d : Data) (n : ℕ) → natural_of d ≡ Some n → d ≡ number (unsigned n)
number_back null n e = absurd (none-some _ e)
number_back (boolean b) n e = absurd (none-some _ e)
number_back (number (unsigned m)) n e = ap (λ k. number (unsigned k)) (same_Some _ _ e)
number_back (number (negative z)) n e = absurd (none-some _ e)
number_back (number (float x)) n e = absurd (none-some _ e)
number_back (string s) n e = absurd (none-some _ e)
number_back (array is) n e = absurd (none-some _ e)
number_back (object ms) n e = absurd (none-some _ e)

-- a value that is a text
pub string_back : (d : Data) (s : List ℕ) → as_str d ≡ Some s → d ≡ string s
string_back null s e = absurd (none-some _ e)
string_back (boolean b) s e = absurd (none-some _ e)
string_back (number n) s e = absurd (none-some _ e)
string_back (string t) s e = ap string (same_Some _ _ e)
string_back (array is) s e = absurd (none-some _ e)
string_back (object ms) s e = absurd (none-some _ e)

-- a value that is null
pub null_back : (d : Data) → is_some (as_null d) ≡ true → d ≡ null
null_back null e = refl
null_back (boolean b) e = absurd (true≢false (sym e))
null_back (number n) e = absurd (true≢false (sym e))
null_back (string s) e = absurd (true≢false (sym e))
null_back (array is) e = absurd (true≢false (sym e))
null_back (object ms) e = absurd (true≢false (sym e))

-- an object has as many keys as its members in memory
pub members_counted : (es : List (String Global × Value)) → members_len (members_view es) ≡ length es
members_counted [] = refl
members_counted (e ∷ es) = rw add-one (ap suc (members_counted es))
