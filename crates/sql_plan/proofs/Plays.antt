-- The table of the tests.
use Rattle.std.proofs.Common.{refl, arith}
use Rattle.row_types.specs.Valid.{IsValid}
use Rattle.sql_plan.specs.Examples.{numbers}

pub numbers_valid : IsValid numbers
numbers_valid = record {
  tables = (
    record {
      db = refl;
      name = refl;
      columns = record {
        each = (record { name = refl; kind = refl; preset = refl; held = tt; counts = refl }, (record { name = refl; kind = refl; preset = refl; held = tt; counts = refl }, tt));
        some = omega arith;
        most = omega arith;
        names = refl;
        once = refl;
        rows = omega arith;
      };
      indexes = record {
        each = (record { name = refl; kind = refl; some_part = omega arith; most_parts = omega arith; within = refl; once = refl; never_null = refl }, (record { name = refl; kind = refl; some_part = omega arith; most_parts = omega arith; within = refl; once = refl; never_null = refl }, tt));
        most = omega arith;
        names = refl;
        primary = refl;
        led = refl;
      };
    },
    tt,
  );
  most = omega arith;
  names = refl;
}
