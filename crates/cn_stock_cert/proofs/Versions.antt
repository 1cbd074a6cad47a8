-- The version of a JSON value, by its test.
use Rattle.std.proofs.Common.{◌≡◌, ◌∙◌, ℕ, true, false, Option, Some, None, ap, sym, refl, codes, true≢false, nat_eq}
use Rattle.std.specs.Option.{option_map_or}
use Rattle.std.proofs.lemmas.Bool.{eqb-true}
use Rattle.serde_json.specs.Data.{Data}
use Rattle.serde_json.specs.Find.{get}
use Rattle.cn_cert.specs.CertificateText.{number_data}
use Rattle.cn_cert.specs.Values.{natural_of}
use Rattle.cn_stock_cert.proofs.Values.{number_back}
use Rattle.cn_stock_cert.specs.Kinds.{any_number, has_at, has_version, is_number, is_this}

this_back : (d : Data) (n : ℕ) → is_this n d ≡ true → d ≡ number_data n
this_back d n h = by_natural (natural_of d) refl h
  where
    by_natural : (o : Option ℕ) → natural_of d ≡ o → option_map_or (λ m. nat_eq m n) o false ≡ true → d ≡ number_data n
    by_natural None e h = absurd (true≢false (sym h))
    by_natural (Some m) e h = number_back d m e ∙ ap number_data (eqb-true m n h)

-- the version, by its test
pub version_back : (d : Data) → has_version d ≡ true → get (codes "version") d ≡ Some (number_data 3)
version_back d h = by_value (get (codes "version") d) h
  where
    by_value : (o : Option Data) → option_map_or (is_this 3) o false ≡ true → o ≡ Some (number_data 3)
    by_value None h = absurd (true≢false (sym h))
    by_value (Some e) h = ap Some (this_back e 3 h)

pub version_number : (d : Data) → has_version d ≡ true → has_at (codes "version") (is_number any_number) d ≡ true
version_number d h = ap (λ o. option_map_or (is_number any_number) o false) (version_back d h)
