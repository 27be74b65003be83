-- One index more of a line.
use Rattle.std.proofs.Common.{◌≡◌, ◌∙◌, ℕ, zero, suc, ◌-◌, ◌<◌, ◌≤◌, Bool, true, false, List, [], ◌∷◌, ◌++◌, length, Ok, Err, refl, sym, arith, codes}
use Rattle.std.specs.Prelude.{slice_get}
use Rattle.std.proofs.lemmas.Bool.{le-leb, lt-leb}
use Rattle.std.proofs.lemmas.List.{length-append}
use Rattle.row_types.specs.declared.columns.Column.{Column}
use Rattle.row_types.specs.declared.indexes.IndexDef.{IndexDef}
use Rattle.hs_token.specs.declared.tokens.Token.{Token}
use Rattle.hs_schema.specs.declared.faults.LineFault.{LineFault}
use Rattle.hs_schema.specs.declared.faults.LineFault.TheVariants.{Broken, NoMemory}
use Rattle.hs_schema.specs.declared.faults.SchemaRule.TheVariants.{BadKind, TooMany}
use Rattle.hs_schema.specs.Reading.{◌>>=◌, Breach, broken, Fails, is_word, index_place, index_at, indexes_at}

-- whether one more index stands in the line
abbrev pub goes_on : List Column → List IndexDef → List Token → Bool
goes_on columns before line = is_word (codes "i") (slice_get line (index_place columns before))

-- the same, as the code asks for it
pub asked : (line : List Token) (columns : List Column) (seen before : List IndexDef) (place : ℕ) (r b : Bool) → seen ≡ before → place ≡ index_place columns seen → r ≡ is_word (codes "i") (slice_get line place) → r ≡ b → goes_on columns before line ≡ b
asked line columns seen before place r b s p e is = cc

pub indexes_end : (room : ℕ) (columns : List Column) (before : List IndexDef) (line : List Token) → length line ≤ index_place columns before → indexes_at room columns before line ≡ Ok before
unfolding indexes_at
indexes_end zero columns before line le = rw (le-leb (length line) (index_place columns before) le) refl
indexes_end (suc room) columns before line le = rw (le-leb (length line) (index_place columns before) le) refl

pub indexes_other : (room : ℕ) (columns : List Column) (before : List IndexDef) (line : List Token) → index_place columns before < length line → goes_on columns before line ≡ false → indexes_at room columns before line ≡ broken BadKind (index_place columns before)
unfolding indexes_at
indexes_other zero columns before line lt e = rw (lt-leb (length line) (index_place columns before) lt, e) refl
indexes_other (suc room) columns before line lt e = rw (lt-leb (length line) (index_place columns before) lt, e) refl

indexes_full : (columns : List Column) (before : List IndexDef) (line : List Token) → index_place columns before < length line → goes_on columns before line ≡ true → indexes_at zero columns before line ≡ broken TooMany (index_place columns before)
unfolding indexes_at
indexes_full columns before line lt e = rw (lt-leb (length line) (index_place columns before) lt, e) refl

pub indexes_more : (room : ℕ) (columns : List Column) (before : List IndexDef) (line : List Token) → index_place columns before < length line → goes_on columns before line ≡ true → indexes_at (suc room) columns before line ≡ (index_at columns before line >>= λ i. indexes_at room columns (before ++ i ∷ []) line)
unfolding indexes_at
indexes_more room columns before line lt e = rw (lt-leb (length line) (index_place columns before) lt, e) refl

pub indexes_all : (columns : List Column) (before : List IndexDef) (line : List Token) → index_place columns before < length line → goes_on columns before line ≡ true → length before ≡ 16 → indexes_at (16 - length before) columns before line ≡ broken TooMany (index_place columns before)
indexes_all columns before line lt e all =
    let none : 16 - length before ≡ 0 = omega arith in
    rw none (indexes_full columns before line lt e)

pub indexes_next : (columns : List Column) (before : List IndexDef) (line : List Token) (i : IndexDef) → index_place columns before < length line → goes_on columns before line ≡ true → length before < 16 → index_at columns before line ≡ Ok i → indexes_at (16 - length before) columns before line ≡ indexes_at (16 - length (before ++ i ∷ [])) columns (before ++ i ∷ []) line
indexes_next columns before line i lt e room is =
    let one : 16 - length before ≡ suc (16 - length (before ++ i ∷ [])) = omega (arith, length-append before (i ∷ [])) in
    rw (one, indexes_more (16 - length (before ++ i ∷ [])) columns before line lt e, is) refl

indexes_fail : (columns : List Column) (before : List IndexDef) (line : List Token) (breach : Breach) → index_place columns before < length line → goes_on columns before line ≡ true → length before < 16 → index_at columns before line ≡ Err breach → indexes_at (16 - length before) columns before line ≡ Err breach
indexes_fail columns before line breach lt e room is =
    let one : 16 - length before ≡ suc (15 - length before) = omega arith in
    rw (one, indexes_more (15 - length before) columns before line lt e, is) refl

pub indexes_fault : (fault : LineFault) (columns : List Column) (before : List IndexDef) (line : List Token) → index_place columns before < length line → goes_on columns before line ≡ true → length before < 16 → Fails fault (index_at columns before line) → indexes_at (16 - length before) columns before line ≡ indexes_at 16 columns [] line → Fails fault (indexes_at 16 columns [] line)
indexes_fault NoMemory columns before line lt e room fails is = tt
indexes_fault (Broken rule token) columns before line lt e room fails is = sym is ∙ indexes_fail columns before line (record { rule = rule; token = token }) lt e room fails
