-- Functions with another value at one place.
-- the same as put-same and put-other of cn_consensus
use Rattle.std.proofs.Common.{◌≡◌, ◌≢◌, ℕ, refl}
use Rattle.std.proofs.lemmas.Bool.{eq-eqb, ne_eqb}
use Rattle.cn_unread.specs.Functions.{put}

pub put-same : {X : Type 0} (f : ℕ → X) (i : ℕ) (x : X) → put f i x i ≡ x
put-same f i x = rw (eq-eqb i i refl) refl

pub put-other : {X : Type 0} (f : ℕ → X) (i : ℕ) (x : X) (j : ℕ) → j ≢ i → put f i x j ≡ f j
put-other f i x j h = rw (ne_eqb j i h) refl
