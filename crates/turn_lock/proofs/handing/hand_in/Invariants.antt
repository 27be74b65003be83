use Rattle.std.proofs.Common.{Some}
use Rattle.turn_lock.proofs.handing.hand_in.Given as goal

abbrev pub ghosts-count : goal.ghosts-count
ghosts-count g a = record { named = Some a._entry.now }
