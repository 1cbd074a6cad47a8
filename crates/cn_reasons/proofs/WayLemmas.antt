-- The entries of a certificate and their ways, one more at a time.
use Rattle.std.proofs.Common.{◌≡◌, ℕ, ◌+◌, ◌<◌, List, [], ◌∷◌, ◌++◌, append_assoc, length, length-append, get_or, take, Contains, arith}
use Rattle.std.specs.List.{AllZip}
use Rattle.std.proofs.lemmas.List.{take_more}
use Rattle.std.proofs.lemmas.List.Elements.{All-contains}
use Rattle.std.proofs.lemmas.Slice.Zip.{all_zipped_more}
use Rattle.cn_table.specs.TypeTable.{TypeTable}
use Rattle.cn_choice.specs.Collisions.{Collision}
use Rattle.cn_reasons.specs.Ways.{IsCollisionOf}

module _ {X Y : Type 0} (R : X → Y → Type 0) (before xs : List X) (ys : List Y) (i : ℕ) where
  pub zip_at : (d : X) (y : Y) → i < length xs → AllZip R (before ++ take i xs) ys → R (get_or xs i d) y → AllZip R (before ++ take (i + 1) xs) (ys ++ y ∷ [])
  zip_at d y less so_far here = rw (take_more xs i d less, ← append_assoc) (all_zipped_more R (before ++ take i xs) ys (get_or xs i d) y so_far here)

  pub zip_more : (x : X) (y : Y) → i < length xs → x ≡ get_or xs i x → AllZip R (before ++ take i xs) ys → R x y → AllZip R (before ++ take (i + 1) xs) (ys ++ y ∷ [])
  zip_more x y less is so_far here = zip_at x y less so_far (rw (← is) here)

-- the process of a collision is one of at most MOST_PROCESSES
pub process_few : (t : TypeTable) (e : Collision) → IsCollisionOf t e → Contains e.alpha e.process → e.process < 8
process_few t e is here =
    let known : e.process < length (e.choice.a ++ e.choice.b) = All-contains (λ p. p < length (e.choice.a ++ e.choice.b)) e.alpha e.process is.collision.alpha_order.known here in
    omega (arith, known, length-append e.choice.a e.choice.b, is.fits.few)
