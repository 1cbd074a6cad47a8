-- Sights as numbers: equality of plans uses these.
use Rattle.std.specs.Prelude.{ℕ, zero, suc, ◌≡◌, refl}
use Rattle.std.specs.Coded.{Coded, code_by, coded_ℕ}
use Rattle.cn_meetings.specs.declared.sight.Sight.{Sight}
use Rattle.cn_meetings.specs.declared.sight.Sight.TheVariants.{Nothing, Response, State}

abbrev pub sight_number : Sight → ℕ
sight_number State = 0
sight_number Nothing = 1
sight_number (Response o) = suc (suc o.0)

abbrev pub sight_with : ℕ → Sight
sight_with zero = State
sight_with (suc zero) = Nothing
sight_with (suc (suc o)) = Response (record { 0 = o })

abbrev pub sight_back : (s : Sight) → sight_with (sight_number s) ≡ s
sight_back State = refl
sight_back Nothing = refl
sight_back (Response o) = refl

abbrev pub sight_code : Coded Sight
sight_code = code_by ℕ coded_ℕ sight_number sight_with sight_back
