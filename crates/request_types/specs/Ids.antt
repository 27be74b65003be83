-- Ids of connections, and lists of them.
use Rattle.std.specs.Prelude.{◌&&◌, ◌==◌, Bool, true, not, List, [], ◌∷◌}
use Rattle.std.specs.List.{list_any}
use Rattle.request_types.specs.declared.connections.ConnId.{ConnId}

-- Whether two ids are the same.
abbrev pub same_id : ConnId → ConnId → Bool
same_id a b = a.number == b.number && a.generation == b.generation

-- Whether an id is in a list.
abbrev pub is_listed : List ConnId → ConnId → Bool
is_listed ids id = list_any (λ other. same_id id other) ids

-- Whether no id is in a list twice.
abbrev pub are_once : List ConnId → Bool
are_once [] = true
are_once (id ∷ ids) = not (is_listed ids id) && are_once ids
