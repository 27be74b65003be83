-- What is said beforehand of a peer or a link. No public clause cites this file.
use Rattle.std.specs.Prelude.{true, Some}
use Rattle.hs_outside.specs.MemoryLink.{LinkInMemory}
use Rattle.replay_turns.specs.declared.sayings.Saying.{Saying}
use Rattle.replay_turns.specs.declared.sayings.Saying.TheVariants as sayings
use Rattle.replay_turns.specs.Linked.{Linked, peer_ended, with_room, failing_next}

-- what it makes of a connection
abbrev pub said : Saying → Linked → Linked
said sayings.PeerEnds = peer_ended
said (sayings.Room count) = with_room count
said sayings.FailsNext = failing_next

-- what it makes of a link
abbrev pub link_said : Saying → LinkInMemory → LinkInMemory
link_said sayings.PeerEnds link = record link { peer_ended = true }
link_said (sayings.Room count) link = record link { room = Some count }
link_said sayings.FailsNext link = record link { fails_next = true }
