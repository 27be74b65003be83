-- Changes on the way, which can be taken back.
--     noted_none, noted_pushed, noted_then      no change, one, and one after others
--     rest_noted, noted_most      what was noted before is a front
--     noted_by      what leads back keeps the shape of the tables
--     goes_noted, goes_none, goes_then      the same where slots were added
--     taken_back      the rows once all is taken back
use Rattle.std.proofs.Common.{◌≡◌, ◌≤◌, List, [], ◌∷◌, ◌++◌, length, drop, take, refl, ap, sym, subst, ◌∙◌, arith, length-set}
use Rattle.std.proofs.Math.Seq.{take-append_seam}
use Rattle.std.proofs.lemmas.List.{take_all, take-append-drop, take-append-le, length-append}
use Rattle.table_rows.specs.declared.undo.Undo.{Undo}
use Rattle.table_rows.specs.declared.undo.Undo.TheVariants.{Put, Replaced, Deleted, Count}
use Rattle.table_rows.specs.Rows.{State}
use Rattle.table_rows.specs.Undoing.{since, undone, undone_all, LeadsBack}
use Rattle.table_rows.specs.Widths.{IsRoomier, AreRoomier}
use Rattle.table_rows.specs.Database.{database_of}
use Rattle.table_rows.specs.GoingBack.{IsNoted, CanGoBack}
use Rattle.table_rows.proofs.Alone.{roomier_same}
use Rattle.table_rows.proofs.States.{zip_long}
use Rattle.table_rows.proofs.Roomier.{roomier_itself, roomier_then, leads_back_roomier}
use Rattle.table_rows.proofs.Undone.{leads_back_none, leads_back_more, since_end}

pub noted_none : (state : State) (undos : List Undo) → IsNoted state state undos undos
noted_none state undos = record {
  schema = refl;
  tables = refl;
  most = omega arith;
  noted = take_all (length undos) undos (omega arith);
  back = subst (λ (us : List Undo). LeadsBack us state state) (sym (since_end (length undos) undos (omega arith))) (leads_back_none state);
}

pub noted_pushed : (before after : State) (undos : List Undo) (undo : Undo) (more : List Undo) → after.schema ≡ before.schema → length after.tables ≡ length before.tables → more ≡ undos ++ undo ∷ [] → LeadsBack (since (length undos) more) after before → IsNoted before after undos more
noted_pushed before after undos undo more schema tables pushed back = record {
  schema = schema;
  tables = tables;
  most = omega (arith, ap length pushed ∙ length-append undos (undo ∷ []));
  noted = ap (take (length undos)) pushed ∙ take-append_seam undos (undo ∷ []);
  back = back;
}

-- what was noted is a front
pub rest_noted : (undos more : List Undo) → take (length undos) more ≡ undos → more ≡ undos ++ drop (length undos) more
rest_noted undos more noted = sym (take-append-drop (length undos) more) ∙ ap (λ (us : List Undo). us ++ drop (length undos) more) noted

-- and no longer than the whole
pub noted_most : (undos more : List Undo) → take (length undos) more ≡ undos → length undos ≤ length more
noted_most undos more noted =
    let whole = ap length (rest_noted undos more noted) ∙ length-append undos (drop (length undos) more) in omega (arith, whole)

-- what is undone keeps the shape of the tables
abbrev AreAlike : State → State → Type 0
AreAlike a b = (a.schema ≡ b.schema) × (length a.tables ≡ length b.tables)

undone_alike : (undo : Undo) (state : State) → AreAlike state (undone undo state)
undone_alike (Put table slot counter) state = (refl, sym (length-set state.tables table _))
undone_alike (Replaced table slot row counter) state = (refl, sym (length-set state.tables table _))
undone_alike (Deleted table slot row) state = (refl, sym (length-set state.tables table _))
undone_alike (Count table counter) state = (refl, sym (length-set state.tables table _))

all_alike : (undos : List Undo) (state : State) → AreAlike state (undone_all undos state)
all_alike [] state = (refl, refl)
all_alike (undo ∷ undos) state =
    let one = undone_alike undo state in
    let rest = all_alike undos (undone undo state) in (one.0 ∙ rest.0, one.1 ∙ rest.1)

pub noted_by : (before after : State) (undos more : List Undo) → take (length undos) more ≡ undos → LeadsBack (since (length undos) more) after before → IsNoted before after undos more
noted_by before after undos more noted back =
    let alike = subst (AreAlike after) back.back (all_alike (since (length undos) more) after) in
    record { schema = alike.0; tables = alike.1; most = noted_most undos more noted; noted = noted; back = back }

pub noted_then : (first between last : State) (us vs ws : List Undo) → IsNoted first between us vs → IsNoted between last vs ws → IsNoted first last us ws
noted_then first between last us vs ws one two =
    let rest = drop (length vs) ws in
    let pushed = rest_noted vs ws two.noted in
    let later = subst (λ (them : List Undo). LeadsBack (since (length vs) them) last between) pushed two.back in
    let whole = leads_back_more (length us) vs rest last between first one.most later one.back in
    record {
      schema = two.schema ∙ one.schema;
      tables = two.tables ∙ one.tables;
      most = omega (arith, one.most, two.most);
      noted = ap (take (length us)) pushed ∙ take-append-le (length us) vs rest one.most ∙ one.noted;
      back = subst (λ (them : List Undo). LeadsBack (since (length us) them) last first) (sym pushed) whole;
    }

-- the same where slots were added before the changes
pub goes_noted : (before between after : State) (undos more : List Undo) → IsRoomier before between → IsNoted between after undos more → CanGoBack before after undos more
goes_noted before between after undos more roomier noted = record { between = between; roomier = roomier; noted = noted }

pub goes_none : (state : State) (undos : List Undo) → CanGoBack state state undos undos
goes_none state undos = goes_noted state state state undos undos (roomier_itself state) (noted_none state undos)

-- no change leads to another schema
pub goes_schema : (before after : State) (undos more : List Undo) → CanGoBack before after undos more → after.schema ≡ before.schema
goes_schema before after undos more back = back.noted.schema ∙ back.roomier.schema

-- what was noted for the fewer slots leads back from the more slots
noted_roomier : (before now later : State) (undos more : List Undo) → IsNoted before now undos more → IsRoomier now later → IsNoted (undone_all (since (length undos) more) later) later undos more × IsRoomier before (undone_all (since (length undos) more) later)
noted_roomier before now later undos more noted roomier =
    let start = undone_all (since (length undos) more) later in
    let earlier = leads_back_roomier (since (length undos) more) now before later noted.back roomier in (
      record {
        schema = roomier.schema ∙ noted.schema ∙ sym earlier.1.schema;
        tables = sym (zip_long AreRoomier now.tables later.tables roomier.tables) ∙ noted.tables ∙ zip_long AreRoomier before.tables start.tables earlier.1.tables;
        most = noted.most;
        noted = noted.noted;
        back = earlier.0;
      },
      earlier.1,
    )

pub goes_then : (first middle last : State) (us vs ws : List Undo) → CanGoBack first middle us vs → CanGoBack middle last vs ws → CanGoBack first last us ws
goes_then first middle last us vs ws one two =
    let earlier = noted_roomier one.between middle two.between us vs one.noted two.roomier in
    let start = undone_all (since (length us) vs) two.between in
    goes_noted first start last us ws (roomier_then first one.between start one.roomier earlier.1)
    (noted_then start two.between last us vs ws earlier.0 two.noted)

-- all of it is taken back
pub taken_back : (before now after : State) (undos more : List Undo) → CanGoBack before now undos more → after ≡ undone_all (since (length undos) more) now → database_of after ≡ database_of before
taken_back before now after undos more back is =
    ap database_of (is ∙ back.noted.back.back) ∙ roomier_same before back.between back.roomier
