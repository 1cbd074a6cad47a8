use Rattle.std.proofs.Common.{◌≡◌, ◌++◌, flat_map, string_bytes, take}
use Rattle.cn_pieces.proofs.push_pieces.Given as goal

-- the pieces so far
abbrev pub invariant-loop-piece : goal.invariant-loop-piece
invariant-loop-piece l =
    string_bytes l.text
    ≡ string_bytes l.initial.text ++ flat_map (λ p. p.now) (take l.piece-index l.pieces)
