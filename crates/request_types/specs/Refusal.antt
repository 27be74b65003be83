-- A part of a line is read, or the line is refused with a code.
use Rattle.std.specs.Prelude.{◌≡◌, Option, Some, None, Result, Ok, Err}
use Rattle.request_types.specs.declared.codes.Code.{Code}
use Rattle.request_types.specs.declared.faults.Fault.{Fault}
use Rattle.request_types.specs.declared.faults.Fault.TheVariants.{Refused, NoMemory}

-- The next part, unless an earlier one was refused, for whatever reason.
infixl 10 ◌>>=◌
abbrev pub ◌>>=◌ : {A B E : Type 0} → Result A E → (A → Result B E) → Result B E
(Ok x) >>= f = f x
(Err why) >>= f = Err why

-- What is there; the line is refused where there is nothing.
abbrev pub or_refuse : {A : Type 0} → Code → Option A → Result A Code
or_refuse code None = Err code
or_refuse code (Some x) = Ok x

-- A fault is the refusal of what was read; want of memory may come with any reading.
abbrev pub Fails : {Y : Type 0} → Fault → Result Y Code → Type 0
Fails (Refused code) read = read ≡ Err code
Fails NoMemory read = Unit {0}

-- What a call answered, seen by view, is what the reading gives, unless memory ran out.
abbrev pub Gives : {X Y : Type 0} → (X → Y) → Result X Fault → Result Y Code → Type 0
Gives view (Ok x) read = read ≡ Ok (view x)
Gives view (Err fault) read = Fails fault read
