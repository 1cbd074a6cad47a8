use Rattle.std.proofs.Common.{◌≡◌, ◌++◌, codes, flat_map, map, string_bytes, take}
use Rattle.cn_proto.specs.PlanText.{place_text}
use Rattle.cn_plan_text.proofs.recording_plan.push_places.Given as goal

-- the places so far, each after a comma and a space
abbrev pub invariant-loop-place : goal.invariant-loop-place
invariant-loop-place l = string_bytes l.text ≡ string_bytes l.initial.text ++ flat_map (λ t. codes ", " ++ t) (map place_text (take l.place-index l.rest))
