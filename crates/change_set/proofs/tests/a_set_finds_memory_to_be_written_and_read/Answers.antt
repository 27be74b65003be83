use Rattle.std.proofs.Common.{subst, sym, arith}
use Rattle.row_types.specs.Valid.{IsValid}
use Rattle.table_rows.proofs.Plays.{some_schema_valid}
use Rattle.change_set.specs.Examples.{some_set}
use Rattle.change_set.specs.Payload.{HavePayload}
use Rattle.change_set.proofs.tests.a_set_finds_memory_to_be_written_and_read.Goals as goal

some_payload : HavePayload some_set
some_payload = record { each = ((omega arith, (tt, (omega arith, (tt, tt)))), ((omega arith, (tt, (tt, tt))), (omega arith, tt))); most = omega arith }

pub push_bytes-requires : goal.push_bytes-requires
push_bytes-requires c = λ d. subst HavePayload (sym d.in_ok-set.ensures) some_payload

pub read_changes-read-requires : goal.read_changes-read-requires
read_changes-read-requires c = λ d. subst IsValid (sym d.in_ok-schema.ensures) some_schema_valid
