-- Rows that an index keeps apart.
--     meets_back      either keeps the other away
--     dup_none, none_dup      none of the indexes does
--     primary_met, new_when_placed      the primary index is one of them
use Rattle.std.proofs.Common.{◌≡◌, Bool, true, false, cond, ◌&&◌, ◌||◌, List, [], ◌∷◌, None, refl, ap, sym, ◌∙◌}
use Rattle.std.specs.List.{AllByRecursion, list_any}
use Rattle.std.proofs.lemmas.Bool.{true≢false, and_right}
use Rattle.row_types.specs.declared.values.Value.{Value}
use Rattle.row_types.specs.declared.indexes.IndexKind.{IndexKind}
use Rattle.row_types.specs.declared.indexes.IndexKind.TheVariants.{Primary, Unique, Plain}
use Rattle.row_types.specs.declared.indexes.IndexDef.{IndexDef}
use Rattle.row_types.specs.Valid.{is_primary}
use Rattle.index_tree.proofs.Elements.{all_weaker}
use Rattle.table_rows.specs.Entries.{Entry, cells}
use Rattle.table_rows.specs.StoreWalks.{is_like, IsNew}
use Rattle.table_rows.specs.Indexes.{primary_of}
use Rattle.table_rows.specs.Checks.{is_barred, meets, clashes, dup_index}
use Rattle.table_rows.proofs.Passing.{any_false, none_any, position_none, none_position}
use Rattle.table_rows.proofs.Keys.{like_is, like_back}

-- a test that holds of both where the rows are alike
meets_step : (index : IndexDef) (a b : Entry) (like : Bool) → is_like index.parts a.0 b ≡ like → (is_barred index.kind (cells index.parts a.0) && like) ≡ (is_barred index.kind (cells index.parts b.0) && like)
meets_step index a b true same = ap (λ (vs : List Value). is_barred index.kind vs && true) (sym (like_is index.parts a.0 b same))
meets_step index a b false other = and_right _ false refl ∙ sym (and_right _ false refl)

pub meets_back : (index : IndexDef) (a b : Entry) → meets index a.0 b ≡ meets index b.0 a
meets_back index a b =
    meets_step index a b (is_like index.parts a.0 b) refl ∙ ap (λ (like : Bool). is_barred index.kind (cells index.parts b.0) && like) (like_back index.parts a b)

-- a row that no index keeps away from these entries
abbrev pub IsApartIn : List IndexDef → List Value → List Entry → Type 0
IsApartIn indexes row others = AllByRecursion (λ index. AllByRecursion (λ e. meets index row e ≡ false) others) indexes

pub dup_none : (indexes : List IndexDef) (row : List Value) (others : List Entry) → dup_index indexes row others ≡ None → IsApartIn indexes row others
dup_none indexes row others none =
    all_weaker (λ (index : IndexDef). clashes others row index ≡ false) (λ (index : IndexDef). AllByRecursion (λ e. meets index row e ≡ false) others) (λ index no_clash. any_false (meets index row) others no_clash) indexes (position_none (clashes others row) 0 indexes none)

pub none_dup : (indexes : List IndexDef) (row : List Value) (others : List Entry) → IsApartIn indexes row others → dup_index indexes row others ≡ None
none_dup indexes row others apart =
    none_position (clashes others row) 0 indexes (all_weaker (λ (index : IndexDef). AllByRecursion (λ e. meets index row e ≡ false) others) (λ (index : IndexDef). clashes others row index ≡ false) (λ index all. none_any (meets index row) others all) indexes apart)

barred_primary : (kind : IndexKind) (vs : List Value) → is_primary kind ≡ true → is_barred kind vs ≡ true
barred_primary Primary vs e = refl
barred_primary Unique vs e = absurd (true≢false (sym e))
barred_primary Plain vs e = absurd (true≢false (sym e))

new_here : (index : IndexDef) (row : List Value) (others : List Entry) → is_primary index.kind ≡ true → AllByRecursion (λ e. meets index row e ≡ false) others → IsNew index.parts row others
new_here index row others primary apart =
    all_weaker (λ (e : Entry). meets index row e ≡ false) (λ (e : Entry). is_like index.parts row e ≡ false) (λ e none. sym (ap (λ (b : Bool). b && is_like index.parts row e) (barred_primary index.kind (cells index.parts row) primary)) ∙ none) others apart

-- the first primary index is one of the indexes, so a row that none keeps away is new
pub new_when_apart : (indexes : List IndexDef) (row : List Value) (others : List Entry) → list_any (λ (i : IndexDef). is_primary i.kind) indexes ≡ true → IsApartIn indexes row others → IsNew (primary_of indexes) row others
new_when_apart [] row others some apart = absurd (true≢false (sym some))
new_when_apart (index ∷ indexes) row others some apart = by_kind (λ more. new_when_apart indexes row others more apart.1) (is_primary index.kind) refl some
  where
    by_kind : (list_any (λ (i : IndexDef). is_primary i.kind) indexes ≡ true → IsNew (primary_of indexes) row others) → (b : Bool) → is_primary index.kind ≡ b → (b || list_any (λ (i : IndexDef). is_primary i.kind) indexes) ≡ true → IsNew (cond b index.parts (primary_of indexes)) row others
    by_kind rest true primary some = new_here index row others primary apart.0
    by_kind rest false other some = rest some
