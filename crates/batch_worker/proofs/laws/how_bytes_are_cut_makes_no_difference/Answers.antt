use Rattle.batch_worker.proofs.Served.{sent-alike}
use Rattle.batch_worker.proofs.laws.how_bytes_are_cut_makes_no_difference.Goals as goal

pub returns : goal.returns
returns c = sent-alike
