-- One step of a loop that appends what each item of a list gives.
--     mapped_step, noted_step      of a list that is seen, and of one by places
--     old_within      an item of a list that is seen
use Rattle.std.proofs.Common.{◌≡◌, ℕ, suc, ◌+◌, ◌<◌, List, [], ◌∷◌, ◌++◌, map, take, get_or, length, sym, ap, subst, ◌∙◌, arith}
use Rattle.std.specs.Prelude.{slice_get, Some}
use Rattle.std.specs.List.{flat_map, AllByRecursion}
use Rattle.std.proofs.lemmas.List.{take_more, map_push, flat_map_more}
use Rattle.index_tree.proofs.Elements.{all_unmapped, all_members}
use Rattle.change_set.proofs.NoteSteps.{take_next}

pub mapped_step : {X Y A : Type 0} (f : Y → List A) (g : X → Y) (front : List A) (xs : List X) (i : ℕ) (x : X) (so_far next : List A) → i < length xs → x ≡ get_or xs i x → so_far ≡ front ++ flat_map f (map g (take i xs)) → next ≡ so_far ++ f (g x)
    → next ≡ front ++ flat_map f (map g (take (i + 1) xs))
mapped_step f g front xs i x so_far next within is before made =
    made ∙ ap (λ zs. zs ++ f (g x)) before ∙ flat_map_more f front (map g (take i xs)) (g x)
    ∙ ap (λ ys. front ++ flat_map f ys) (sym (map_push g (take i xs) x))
    ∙ ap (λ ys. front ++ flat_map f (map g ys)) (sym (take_more xs i x within ∙ ap (λ z. take i xs ++ z ∷ []) (sym is)))

pub noted_step : {X A : Type 0} (f : X → List A) (front : List A) (xs : List X) (i : ℕ) (x : X) (so_far next : List A) → slice_get xs i ≡ Some x → so_far ≡ front ++ flat_map f (take i xs) → next ≡ so_far ++ f x
    → next ≡ front ++ flat_map f (take (i + 1) xs)
noted_step f front xs i x so_far next is before made =
    let further : suc i ≡ i + 1 = omega arith in
    made ∙ ap (λ zs. zs ++ f x) before ∙ flat_map_more f front (take i xs) x
    ∙ ap (λ ys. front ++ flat_map f ys) (sym (take_next xs i x is))
    ∙ ap (λ (n : ℕ). front ++ flat_map f (take n xs)) further

pub old_within : {X Y : Type 0} (P : Y → Type 0) (g : X → Y) (xs : List X) (i : ℕ) (x : X) → AllByRecursion P (map g xs) → i < length xs → x ≡ get_or xs i x → P (g x)
old_within P g xs i x all within is = all_members (λ z. P (g z)) xs x (all_unmapped P g xs all) (i, within, sym is)
