-- The tokens of the values of an array.
use Rattle.std.proofs.Common.{◌≡◌, ℕ, ◌+◌, ◌-◌, ◌≤◌, List, [], ◌∷◌, ◌++◌, append_assoc, append-nil, ap, arith, map, refl, replicate, sym, ◌∙◌}
use Rattle.std.specs.List.{range_with_len}
use Rattle.std.proofs.lemmas.List.FromFn.{map-range_with_len_more}
use Rattle.std.proofs.lemmas.List.{replicate_more}
use Rattle.json.specs.Token.{end_array, Token}
use Rattle.serde_json.specs.Data.{Data}
use Rattle.cn_json.specs.Tokens.{each_value, value_tokens, values_rest}

-- of two lists, one behind the other
pub each_joined : (ds es : List Data) → each_value (ds ++ es) ≡ each_value ds ++ each_value es
each_joined [] es = refl
each_joined (d ∷ ds) es = ap (λ ts. value_tokens d ++ ts) (each_joined ds es) ∙ sym (append_assoc (value_tokens d) (each_value ds) (each_value es))

-- the same with the end of the array
pub rest_joined : (ds es : List Data) → values_rest (ds ++ es) ≡ each_value ds ++ values_rest es
rest_joined [] es = refl
rest_joined (d ∷ ds) es = ap (λ ts. value_tokens d ++ ts) (rest_joined ds es) ∙ sym (append_assoc (value_tokens d) (each_value ds) (values_rest es))

pub each_closed : (ds : List Data) → each_value ds ++ end_array ∷ [] ≡ values_rest ds
each_closed ds = sym (rest_joined ds []) ∙ ap values_rest (append-nil ds)

-- one value more, for one number more
pub each_more : (value : ℕ → Data) (before now out : List Token) (n : ℕ) → before ≡ out ++ each_value (map value (range_with_len 0 n)) → now ≡ before ++ value_tokens (value n)
    → now ≡ out ++ each_value (map value (range_with_len 0 (n + 1)))
each_more value before now out n so_far here =
    let more = map-range_with_len_more value 0 n n (omega arith) in
    here
    ∙ (ap (λ ts. ts ++ value_tokens (value n)) so_far
    ∙ (append_assoc out (each_value (map value (range_with_len 0 n))) (value_tokens (value n))
    ∙ ap (λ ts. out ++ ts) (ap (λ ts. each_value (map value (range_with_len 0 n)) ++ ts) (sym (append-nil (value_tokens (value n))))
    ∙ (sym (each_joined (map value (range_with_len 0 n)) (value n ∷ [])) ∙ ap each_value (sym more)))))

-- one copy more
pub one_more : (n : ℕ) (d : Data) → each_value (replicate n d) ++ value_tokens d ≡ each_value (replicate (n + 1) d)
one_more n d =
    ap (λ ts. each_value (replicate n d) ++ ts) (sym (append-nil (value_tokens d)))
    ∙ (sym (each_joined (replicate n d) (d ∷ [])) ∙ ap each_value (replicate_more n d))

-- the same for numbers from one on
pub each_more_from : (value : ℕ → Data) (before now out : List Token) (a p : ℕ) → a ≤ p → before ≡ out ++ each_value (map value (range_with_len a (p - a))) → now ≡ before ++ value_tokens (value p)
    → now ≡ out ++ each_value (map value (range_with_len a (p + 1 - a)))
each_more_from value before now out a p h so_far here =
    let more = map-range_with_len_more value a (p - a) p (omega (arith, h)) in
    let next : p + 1 - a ≡ p - a + 1 = omega (arith, h) in
    here
    ∙ (ap (λ ts. ts ++ value_tokens (value p)) so_far
    ∙ (append_assoc out (each_value (map value (range_with_len a (p - a)))) (value_tokens (value p))
    ∙ ap (λ ts. out ++ ts) (ap (λ ts. each_value (map value (range_with_len a (p - a))) ++ ts) (sym (append-nil (value_tokens (value p))))
    ∙ (sym (each_joined (map value (range_with_len a (p - a))) (value p ∷ [])) ∙ ap each_value (sym (rw next more))))))
