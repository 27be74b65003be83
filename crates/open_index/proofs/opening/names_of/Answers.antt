use Rattle.std.proofs.Common.{◌≡◌, ℕ, List, map, ◌==◌, subst, IfOk, rules}
use Rattle.std.proofs.lemmas.Iterator.Consumers.{map_from_collect}
use Rattle.std.proofs.lemmas.Iterator.Splits.{YieldsList-from_slice_split}
use Rattle.open_index.proofs.Names.{names_split}
use Rattle.open_index.proofs.opening.names_of.Goals as goal

pub returns : goal.returns
returns c =
    let P : List (List ℕ) → Type 0 = λ parts. IfOk c.collect.result (λ names. map (λ name. name.now) names.items ≡ parts) in
    subst P (names_split c.args.text.now c.if-is_empty.ensures) (map_from_collect _ c.collect.ensures.ran (YieldsList-from_slice_split _ (λ b. b == 44) c.args.text.now c.split.ensures.rest c.split.ensures.done c.split.ensures.closure (λ x b q called. search rules)))
