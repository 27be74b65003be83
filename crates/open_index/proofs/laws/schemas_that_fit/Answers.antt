use Rattle.std.proofs.Common.{List, [], ◌∷◌, refl, arith}
use Rattle.std.specs.List.{All, AllByRecursion}
use Rattle.std.specs.Map.{values_of}
use Rattle.std.proofs.lemmas.List.Elements.{All-from_recursion}
use Rattle.row_types.specs.Valid.{AreColumns, AreIndexes}
use Rattle.open_index.specs.declared.handles.OpenColumn.{OpenColumn}
use Rattle.open_index.specs.Examples.{people, people_columns, people_indexes, id_column, name_column, n_column, ids}
use Rattle.open_index.specs.Fits.{IsColumnOf, HandleFits}
use Rattle.open_index.proofs.Numbered.{numbered}
use Rattle.open_index.proofs.laws.schemas_that_fit.Goals as goal

pub returns-clause-numbered : goal.returns-clause-numbered
returns-clause-numbered c schema valid = numbered schema valid

columns : AreColumns people_columns
columns = record {
  each = (
    record { name = refl; kind = refl; preset = refl; held = tt; counts = refl },
    (
      record { name = refl; kind = refl; preset = refl; held = tt; counts = refl },
      (record { name = refl; kind = refl; preset = refl; held = omega arith; counts = refl }, tt),
    ),
  );
  some = omega arith;
  most = omega arith;
  names = refl;
  once = refl;
  rows = omega arith;
}

indexes : AreIndexes people_columns people_indexes
indexes = record {
  each = (
    record { name = refl; kind = refl; some_part = omega arith; most_parts = omega arith; within = refl; once = refl; never_null = refl },
    (record { name = refl; kind = refl; some_part = omega arith; most_parts = omega arith; within = refl; once = refl; never_null = refl }, tt),
  );
  most = omega arith;
  names = refl;
  primary = refl;
  led = refl;
}

pub returns-clause-valid : goal.returns-clause-valid
returns-clause-valid c = record {
  tables = (record { db = refl; name = refl; columns = columns; indexes = indexes }, tt);
  most = omega arith;
  names = refl;
}

of_people : (opened : List OpenColumn) → AllByRecursion (IsColumnOf people_columns) opened → All (IsColumnOf people_columns) opened
of_people opened all = All-from_recursion (IsColumnOf people_columns) opened all

pub returns-clause-ids : goal.returns-clause-ids
returns-clause-ids c = All-from_recursion (HandleFits people) (values_of ids) (
  record {
    index = refl;
    parts = of_people (id_column ∷ []) (refl, tt);
    columns = of_people (id_column ∷ name_column ∷ n_column ∷ []) (refl, (refl, (refl, tt)));
    once = refl;
    filter_columns = of_people [] tt;
  },
  (
    record {
      index = refl;
      parts = of_people (id_column ∷ []) (refl, tt);
      columns = of_people (id_column ∷ []) (refl, tt);
      once = refl;
      filter_columns = of_people (n_column ∷ id_column ∷ []) (refl, (refl, tt));
    },
    tt,
  ),
)
