use Rattle.table_recovery.proofs.RecoverLemmas.{begun_alike, fresh_alike}
use Rattle.table_recovery.proofs.alike.all_images_show_alike.Goals as goal

pub returns-clause-new : goal.returns-clause-new
returns-clause-new g c schema bytes_max =
    fresh_alike schema bytes_max (g.D.Disk.seen c.args._disk.now) (g.D.Disk.may_leave c.args._disk.now)

pub returns-clause-begun : goal.returns-clause-begun
returns-clause-begun g c schema bytes_max contents db place =
    begun_alike schema bytes_max contents db place (g.D.Disk.seen c.args._disk.now) (g.D.Disk.may_leave c.args._disk.now)
