-- What the fields of a disk in memory stand for.
use Rattle.hs_disk.specs.Held.{Held}
use Rattle.hs_disk.specs.declared.mem_disk.MemDisk.TheInside.{Inside}

-- the fields, without the memory that they are kept in
abbrev pub held : Inside → Held
held d = record {
  first = d.first.items;
  changes = d.changes.items;
  bytes = d.bytes.items;
  fail_at = d.fail_at.items;
  calls = d.calls;
  faults = d.faults;
  short = d.short;
}
