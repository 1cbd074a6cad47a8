use Rattle.std.proofs.Common.{◌≡◌, ℕ, ◌<◌, ◌-◌, List, arith, length, slice_index, subst, take}
use Rattle.std.specs.Prelude.{string_bytes, string_len}
use Rattle.cn_cert.proofs.EntryLists.{without_comma}
use Rattle.cn_cert.proofs.entries.array_body.Goals as goal

pub returns : goal.returns
returns c kept e =
    let text : List ℕ = string_bytes c.args.entries in
    let body : List ℕ = string_bytes c.pop-comma.new.self in
    let long : string_len c.args.entries ≡ length text = omega (arith, c.args.entries.bytes.ok.0) in
    without_comma text body (omega (arith, c.pop-comma.ensures.bound, long))
    (subst (λ (n : ℕ). 0 < n → slice_index text (n - 1) < 128 → body ≡ take (n - 1) text) long c.pop-comma.ensures.ascii_bytes) kept e
