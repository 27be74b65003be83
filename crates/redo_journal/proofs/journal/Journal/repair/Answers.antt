use Rattle.std.proofs.Common.{◌≡◌, sym, ◌∙◌, ap, subst, arith}
use Rattle.std.specs.Prelude.{Some, None}
use Rattle.redo_journal.specs.Committing.{Repairs}
use Rattle.redo_journal.specs.Journal.{Standing}
use Rattle.redo_journal.proofs.RepairLemmas.{doubted, repair_fails, repair_ends, no_repair}
use Rattle.redo_journal.proofs.journal.Journal.repair.Goals as goal

pub set_byte-requires : goal.set_byte-requires
set_byte-requires g c = record {
  within = λ tells.
      let disk = g.D.Disk in
      let on = c.requires tells in
      let due : c.args.self.now.doubt ≡ Some c.in-Some.doubt = ap (λ s. s.doubt) (sym c.self.view_is) ∙ c.in-Some.is in
      let was = doubted disk.seen disk.may_leave disk.moment disk.left_at on.text on.contents on.doubtful c.args.self.now c.in-Some.doubt c.args.disk.now due on.stands in
      omega (arith, was.reads.within);
}

pub returns-in_err-set_byte-clause-repairs : goal.returns-in_err-set_byte-clause-repairs
returns-in_err-set_byte-clause-repairs g c tells text contents doubtful stands =
    let disk = g.D.Disk in
    let due : c.args.self.now.doubt ≡ Some c.in-Some.doubt = ap (λ s. s.doubt) (sym c.self.view_is) ∙ c.in-Some.is in
    repair_fails disk.seen disk.may_leave disk.moment disk.left_at text contents doubtful c.args.self.now c.in-Some.doubt c.args.disk.now c.set_byte.new.disk _ c.set_byte.result due stands (c.set_byte.ensures.syncs tells)

pub returns-in_ok-set_byte-clause-repairs : goal.returns-in_ok-set_byte-clause-repairs
returns-in_ok-set_byte-clause-repairs g c tells text contents doubtful stands =
    let disk = g.D.Disk in
    let due : c.args.self.now.doubt ≡ Some c.in-Some.doubt = ap (λ s. s.doubt) (sym c.self.view_is) ∙ c.in-Some.is in
    let done = repair_ends disk.seen disk.may_leave disk.moment disk.left_at text contents doubtful c.args.self.now c.in-Some.doubt c.args.disk.now c.set_byte.new.disk c.set_byte.result due stands (c.set_byte.ensures.syncs tells) (c.in_ok-set_byte.ensures.syncs tells).ok in
    subst (λ (s : Standing). Repairs disk.seen disk.may_leave disk.moment disk.left_at text contents doubtful c.args.self.now s c.args.disk.now c.set_byte.new.disk) (ap (λ (s : Standing). record s { doubt = None }) (sym c.self.view_is)) done

pub returns-in_default-clause-repairs : goal.returns-in_default-clause-repairs
returns-in_default-clause-repairs g c tells text contents doubtful stands =
    let disk = g.D.Disk in
    no_repair disk.seen disk.may_leave disk.moment disk.left_at text contents doubtful c.args.self.now c.args.disk.now (λ image left. g.met.D.Disk.only_now c.args.disk.now image tells left) stands
