-- What contracts see of a source and of a sink in memory.
use Rattle.std.specs.Prelude.{ℕ, ◌-◌, ◌^◌, Bool, false, List, [], Some}
use Rattle.hs_outside.specs.Streams.{Giver, Taker}

-- A source in memory: the bytes that are left, whether it answered the end, its faults, its calls,
-- the numbers of the calls that fail, and how many bytes it gives a read at most.
pub record SourceInMemory : Type 0 where
  pub left : List ℕ
  pub is_ended : Bool
  pub faults : ℕ
  pub calls : ℕ
  pub fail_at : List ℕ
  pub most : ℕ

-- A sink in memory: the bytes that it took, its faults, its calls, the numbers of the calls that
-- fail, how many bytes it takes a write at most, and whether memory was refused.
pub record SinkInMemory : Type 0 where
  pub taken : List ℕ
  pub faults : ℕ
  pub calls : ℕ
  pub fail_at : List ℕ
  pub most : ℕ
  pub is_short : Bool

-- A source of these bytes of which nothing was asked yet.
abbrev pub source_of : List ℕ → List ℕ → SourceInMemory
source_of bytes fail_at = record {
  left = bytes;
  is_ended = false;
  faults = 0;
  calls = 0;
  fail_at = fail_at;
  most = 2 ^ 64 - 1;
}

-- A sink that took nothing yet.
abbrev pub sink_of : List ℕ → SinkInMemory
sink_of fail_at = record {
  taken = [];
  faults = 0;
  calls = 0;
  fail_at = fail_at;
  most = 2 ^ 64 - 1;
  is_short = false;
}

-- A source in memory tells its bytes.
abbrev pub known_source : SourceInMemory → Giver
known_source s = record { left = Some s.left; is_ended = s.is_ended; faults = s.faults }

-- A sink in memory tells its bytes.
abbrev pub known_sink : SinkInMemory → Taker
known_sink s = record { taken = Some s.taken; faults = s.faults }
