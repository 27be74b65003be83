use Rattle.batch_worker.proofs.Turned.{answers_each}
use Rattle.batch_worker.proofs.laws.a_turn_answers_each_connection.Goals as goal

pub returns : goal.returns
returns g c ids old mid new batch replies id = answers_each g.L.Link.peer ids old mid new batch replies id
