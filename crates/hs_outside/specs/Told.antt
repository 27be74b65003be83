-- What a source or a sink over a stream tells: its faults, and what its reader or its writer tells.
use Rattle.std.specs.Prelude.{ℕ, List, [], take, Option, None}
use Rattle.std.specs.Io.KnownBytes.{Appends, Consumes, Keeps, IsAtEnd}
use Rattle.hs_outside.specs.Streams.{Giver, Taker}
use Rattle.hs_outside.specs.declared.streams.StreamSource.{StreamSource}
use Rattle.hs_outside.specs.declared.streams.StreamSink.{StreamSink}
use Rattle.hs_outside.specs.declared.sources.Read.{Read}
use Rattle.hs_outside.specs.declared.sources.Read.TheVariants as reads
use Rattle.hs_outside.specs.declared.sinks.Wrote.{Wrote}
use Rattle.hs_outside.specs.declared.sinks.Wrote.TheVariants as writes

-- A source over a stream tells no bytes.
abbrev pub unknown_source : {R : Type 0} → StreamSource R → Giver
unknown_source s = record { left = None; is_ended = s.is_ended; faults = s.faults }

-- A sink over a stream tells no bytes.
abbrev pub unknown_sink : {W : Type 0} → StreamSink W → Taker
unknown_sink s = record { taken = None; faults = s.faults }

-- Where the reader tells them: the bytes that were given are the first of those that were left, the
-- end comes where none is left, and a read that fails takes none.
abbrev pub ReadTells : Read → Option (List ℕ) → Option (List ℕ) → List ℕ → Type 0
ReadTells (reads.Got count) old new buffer = Consumes old new (take count buffer)
ReadTells reads.End old new buffer = Consumes old new [] × IsAtEnd new
ReadTells reads.Failed old new buffer = Keeps old new

-- Where the writer tells them: the bytes that were taken stand behind those that it had, and a
-- write that fails takes none.
abbrev pub WriteTells : Wrote → Option (List ℕ) → Option (List ℕ) → List ℕ → Type 0
WriteTells (writes.Took count) old new bytes = Appends old new (take count bytes)
WriteTells writes.Failed old new bytes = Keeps old new
