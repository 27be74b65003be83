use Rattle.std.proofs.Common.{refl}
use Rattle.table_book.proofs.Rotating.{room_again, room_moments, untouched_again, untouched_moments}
use Rattle.table_book.proofs.book.Book.make_room.Goals as goal

pub returns-then-since_area-self-clause-any_moment : goal.returns-then-since_area-self-clause-any_moment
returns-then-since_area-self-clause-any_moment g c tells =
    let disk = g.D.Disk in
    room_moments disk.seen disk.may_leave disk.moment disk.left_at c.args.self.now.disk c.args.self.now c.requires.quiet (c.requires.kept tells) (untouched_moments disk.seen disk.may_leave disk.moment disk.left_at c.args.self.now (λ image left. g.met.D.Disk.only_now c.args.self.now.disk image tells left))

pub returns-then-since_area-self-clause-again : goal.returns-then-since_area-self-clause-again
returns-then-since_area-self-clause-again g c tells =
    let disk = g.D.Disk in
    room_again disk.seen disk.may_leave disk.moment disk.left_at c.args.self.now.disk c.args.self.now c.requires.quiet (c.requires.kept tells) c.args.self.now refl refl (untouched_again disk.seen disk.may_leave disk.moment disk.left_at c.args.self.now)

pub returns-clause-any_moment : goal.returns-clause-any_moment
returns-clause-any_moment g c tells =
    let disk = g.D.Disk in
    room_moments disk.seen disk.may_leave disk.moment disk.left_at c.rotate.new.self.disk c.args.self.now c.requires.quiet (c.requires.kept tells) (c.rotate.ensures.any_moment tells)

pub returns-clause-again : goal.returns-clause-again
returns-clause-again g c tells =
    let disk = g.D.Disk in
    room_again disk.seen disk.may_leave disk.moment disk.left_at c.rotate.new.self.disk c.args.self.now c.requires.quiet (c.requires.kept tells) c.rotate.new.self c.rotate.ensures.tables c.rotate.ensures.place (c.rotate.ensures.again tells)
