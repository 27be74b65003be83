-- One column more of a line.
use Rattle.std.proofs.Common.{◌≡◌, ◌∙◌, ℕ, zero, suc, ◌-◌, ◌<◌, Bool, true, false, List, [], ◌∷◌, ◌++◌, length, Ok, Err, refl, sym, arith, codes}
use Rattle.std.specs.Prelude.{slice_get}
use Rattle.std.proofs.lemmas.List.{length-append}
use Rattle.row_types.specs.declared.columns.Column.{Column}
use Rattle.hs_token.specs.declared.tokens.Token.{Token}
use Rattle.hs_schema.specs.declared.faults.LineFault.{LineFault}
use Rattle.hs_schema.specs.declared.faults.LineFault.TheVariants.{Broken, NoMemory}
use Rattle.hs_schema.specs.declared.faults.SchemaRule.TheVariants.{TooMany}
use Rattle.hs_schema.specs.Reading.{◌>>=◌, Breach, broken, Fails, is_word, column_place, column_at, columns_at, columns_of}

-- whether one more column stands in the line
abbrev pub goes_on : List Column → List Token → Bool
goes_on before line = is_word (codes "c") (slice_get line (column_place before))

-- the same, as the code asks for it
pub asked : (line : List Token) (seen before : List Column) (place : ℕ) (r b : Bool) → seen ≡ before → place ≡ column_place seen → r ≡ is_word (codes "c") (slice_get line place) → r ≡ b → goes_on before line ≡ b
asked line seen before place r b s p e is = cc

pub columns_end : (room : ℕ) (before : List Column) (line : List Token) → goes_on before line ≡ false → columns_at room before line ≡ Ok before
unfolding columns_at
columns_end zero before line e = rw e refl
columns_end (suc room) before line e = rw e refl

pub columns_full : (before : List Column) (line : List Token) → goes_on before line ≡ true → columns_at zero before line ≡ broken TooMany (column_place before)
unfolding columns_at
columns_full before line e = rw e refl

pub columns_more : (room : ℕ) (before : List Column) (line : List Token) → goes_on before line ≡ true → columns_at (suc room) before line ≡ (column_at before line >>= λ c. columns_at room (before ++ c ∷ []) line)
unfolding columns_at
columns_more room before line e = rw e refl

pub columns_all : (before : List Column) (line : List Token) → goes_on before line ≡ true → length before ≡ 64 → columns_at (64 - length before) before line ≡ broken TooMany (column_place before)
columns_all before line e all =
    let none : 64 - length before ≡ 0 = omega arith in
    rw none (columns_full before line e)

pub columns_next : (before : List Column) (line : List Token) (c : Column) → goes_on before line ≡ true → length before < 64 → column_at before line ≡ Ok c → columns_at (64 - length before) before line ≡ columns_at (64 - length (before ++ c ∷ [])) (before ++ c ∷ []) line
columns_next before line c e lt is =
    let one : 64 - length before ≡ suc (64 - length (before ++ c ∷ [])) = omega (arith, length-append before (c ∷ [])) in
    rw (one, columns_more (64 - length (before ++ c ∷ [])) before line e, is) refl

columns_fail : (before : List Column) (line : List Token) (breach : Breach) → goes_on before line ≡ true → length before < 64 → column_at before line ≡ Err breach → columns_at (64 - length before) before line ≡ Err breach
columns_fail before line breach e lt is =
    let one : 64 - length before ≡ suc (63 - length before) = omega arith in
    rw (one, columns_more (63 - length before) before line e, is) refl

pub columns_fault : (fault : LineFault) (before : List Column) (line : List Token) → goes_on before line ≡ true → length before < 64 → Fails fault (column_at before line) → columns_at (64 - length before) before line ≡ columns_of line → Fails fault (columns_of line)
columns_fault NoMemory before line e lt fails is = tt
columns_fault (Broken rule token) before line e lt fails is = sym is ∙ columns_fail before line (record { rule = rule; token = token }) e lt fails
