-- What is answered where a change ends early.
use Rattle.std.specs.Prelude.{◌≡◌, Result, Ok, IsErr}
use Rattle.request_types.specs.Code.{number}
use Rattle.request_types.specs.declared.faults.Fault.{Fault}
use Rattle.request_types.specs.declared.faults.Fault.TheVariants.{Refused, NoMemory}
use Rattle.find_modify.specs.declared.modifies.Modified.{Modified}
use Rattle.find_modify.specs.declared.modifies.Modified.TheVariants as answers

-- A refused row is answered by its code's number, and want of memory by itself.
abbrev pub IsAnswer : {E : Type 0} → Fault → Result Modified E → Type 0
IsAnswer (Refused code) answer = answer ≡ Ok (answers.Refused (number code))
IsAnswer NoMemory answer = IsErr answer
