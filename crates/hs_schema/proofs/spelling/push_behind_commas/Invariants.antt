use Rattle.std.proofs.Common.{◌≡◌, ◌∷◌, ◌++◌, drop}
use Rattle.std.specs.Prelude.{flat_map, slice_get}
use Rattle.hs_schema.specs.Spelling.{name_in}
use Rattle.hs_schema.proofs.spelling.push_behind_commas.Given as goal

abbrev pub invariant-loop-part : goal.invariant-loop-part
invariant-loop-part l = l.text.items ++ flat_map (λ part. 44 ∷ name_in (slice_get l.columns part)) (drop l.part-index l.parts) ≡ l.fn.text.items ++ flat_map (λ part. 44 ∷ name_in (slice_get l.columns part)) l.parts
