-- The items of a batch, by their connections.
use Rattle.std.specs.Prelude.{◌≡◌, true, List, [], ◌∷◌, map, if◌then◌else◌}
use Rattle.request_types.specs.declared.connections.ConnId.{ConnId}
use Rattle.request_types.specs.declared.batches.Item.{Item}
use Rattle.request_types.specs.declared.batches.ItemKind.{ItemKind}
use Rattle.request_types.specs.Ids.{same_id, are_once}

-- The connections of items.
abbrev pub conns_of : List Item → List ConnId
conns_of items = map (λ (item : Item). item.conn) items

-- An item stands with those behind it where they are of its connection.
abbrev pub with_item : Item → List (ConnId × List ItemKind) → List (ConnId × List ItemKind)
with_item item [] = (item.conn, item.kind ∷ []) ∷ []
with_item item (run ∷ runs) =
    if same_id item.conn run.0 then (item.conn, item.kind ∷ run.1) ∷ runs
    else (item.conn, item.kind ∷ []) ∷ run ∷ runs

-- The items of a batch, those of a connection that stand together as one run.
abbrev pub runs_of : List Item → List (ConnId × List ItemKind)
runs_of [] = []
runs_of (item ∷ items) = with_item item (runs_of items)

-- The connections of runs.
abbrev pub heads : List (ConnId × List ItemKind) → List ConnId
heads runs = map (λ (run : ConnId × List ItemKind). run.0) runs

-- The items of each connection stand together: none has two runs.
abbrev pub StandTogether : List Item → Type 0
StandTogether items = are_once (heads (runs_of items)) ≡ true
