-- One cell after the other.
--     step_made      once a cell is changed, the rest of the change goes on from there
use Rattle.std.proofs.Common.{◌≡◌, ℕ, suc, ◌+◌, ◌<◌, ◌≤◌, List, length, drop, get_or, set, Result, Ok, ap, ap₂, sym, ◌∙◌, arith, set-set, length-set}
use Rattle.std.proofs.Math.Seq.{drop-cons}
use Rattle.std.proofs.lemmas.List.{get_or_default}
use Rattle.row_types.specs.declared.values.Value.{Value}
use Rattle.row_types.specs.declared.values.Value.TheVariants as values
use Rattle.request_types.specs.declared.mods.ModKind.{ModKind}
use Rattle.request_types.specs.declared.codes.Code.{Code}
use Rattle.request_types.specs.Refusal.{◌>>=◌}
use Rattle.find_modify.specs.Cells.{changed_cell, changed_row}

module _ (kind : ModKind) (numbers : List ℕ) (named cells row : List Value) (place : ℕ) (within : place < length named) (few : length named ≤ length numbers) (inside : get_or numbers place 0 < length cells) where
  abbrev pub rest_from : List Value → Result (List Value) Code
  rest_from more = changed_row kind (drop (suc place) numbers) (drop (suc place) named) more

  first_cell : (value cell : Value) → value ≡ get_or named place value → cell ≡ get_or cells (get_or numbers place 0) cell →
      changed_row kind (drop place numbers) (drop place named) cells ≡ (changed_cell kind cell value >>= λ made. rest_from (set cells (get_or numbers place 0) made))
  first_cell value cell is there =
      let n = get_or numbers place 0 in
      let next : place < length numbers = omega (arith, within, few) in
      let read : get_or cells n values.Null ≡ cell = sym (there ∙ get_or_default cells n cell values.Null inside) in
      let rest = λ (made : Value). rest_from (set cells n made) in
      ap₂ (λ (ns : List ℕ) (vs : List Value). changed_row kind ns vs cells) (drop-cons numbers place 0 next) (drop-cons named place value within)
      ∙ ap₂ (λ (old new : Value). changed_cell kind old new >>= rest) read (sym is)

  pub step_made : (value cell empty made : Value) → value ≡ get_or named place value → cell ≡ get_or cells (get_or numbers place 0) cell → changed_cell kind cell value ≡ Ok made → changed_row kind (drop place numbers) (drop place named) cells ≡ changed_row kind numbers named row →
      changed_row kind (drop (place + 1) numbers) (drop (place + 1) named) (set (set cells (get_or numbers place 0) empty) (get_or numbers place 0) made) ≡ changed_row kind numbers named row
  step_made value cell empty made is there changed so_far =
      let n = get_or numbers place 0 in
      let further : place + 1 ≡ suc place = omega arith in
      let rest = λ (new : Value). rest_from (set cells n new) in
      ap (λ (k : ℕ). changed_row kind (drop k numbers) (drop k named) (set (set cells n empty) n made)) further
      ∙ ap rest_from (set-set cells n empty made)
      ∙ sym (ap (λ (r : Result Value Code). r >>= rest) changed)
      ∙ sym (first_cell value cell is there)
      ∙ so_far

pub twice_set : (cells : List Value) (n : ℕ) (a b : Value) → length (set (set cells n a) n b) ≡ length cells
twice_set cells n a b = length-set (set cells n a) n b ∙ length-set cells n a
