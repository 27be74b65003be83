-- What a tree keeps for each row.
use Rattle.std.specs.Prelude.{ℕ, ◌+◌, ◌*◌, ◌/◌, ◌%◌, ◌^◌, Bool, true, false, List, map, Option, option_map}
use Rattle.std.specs.declared.cmp.Ordering.{Ordering}
use Rattle.std.specs.declared.cmp.Ordering.TheVariants.{Less, Equal, Greater}
use Rattle.std.specs.Ordering.{nat_cmp}
use Rattle.table_rows.specs.declared.mark.Mark.{Mark}
use Rattle.table_rows.specs.Entries.{Entry, cells}
use Rattle.table_rows.specs.Digests.{key_digest}

-- The mark of a slot, with the halves of a digest.
abbrev pub mark_of : ℕ → ℕ → Mark
mark_of digest slot = record { low = digest % 2 ^ 32; high = digest / 2 ^ 32; slot = slot }

-- The digest in a mark.
abbrev pub digest_in : Mark → ℕ
digest_in mark = mark.high * 2 ^ 32 + mark.low

-- The mark of an entry in the order of some columns has the digest of its cells there.
abbrev pub entry_mark : List ℕ → Entry → Mark
entry_mark columns entry = mark_of (key_digest false (cells columns entry.0)) entry.1

-- The marks of some entries.
abbrev pub marks_in : List ℕ → List Entry → List Mark
marks_in columns entries = map (entry_mark columns) entries

-- The slots that some marks stand for.
abbrev pub slots_of : List Mark → List ℕ
slots_of marks = map (λ (mark : Mark). mark.slot) marks

-- The slot of a mark, if there is one.
abbrev pub slot_marked : Option Mark → Option ℕ
slot_marked mark = option_map (λ (found : Mark). found.slot) mark

-- Where digests differ they decide, and else what is told.
abbrev pub by_digest : Ordering → Bool → Bool
by_digest Less told = true
by_digest Equal told = told
by_digest Greater told = false

-- Whether a mark stands before a cut with this digest, where the test is for marks with the same one.
abbrev pub is_marked : ℕ → (ℕ → Bool) → Mark → Bool
is_marked digest test mark = by_digest (nat_cmp (digest_in mark) digest) (test mark.slot)
