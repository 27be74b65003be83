-- How many changing calls the steps of an append make together.
use Rattle.std.proofs.Common.{◌≡◌, ℕ, Bool, true, false, ◌∙◌, ap}
use Rattle.std.specs.Prelude.{if◌then◌else◌}
use Rattle.hs_disk.specs.Disk.{calls_after}

pub repaired : (due : Bool) (before after : ℕ) → due ≡ true → after ≡ calls_after 2 before → after ≡ calls_after (if due then 2 else 0) before
repaired true before after is_due is = is
repaired false before after is_due is = absurd cc

pub appended : (due : Bool) (before mid after : ℕ) → mid ≡ calls_after (if due then 2 else 0) before → after ≡ calls_after 4 mid → after ≡ calls_after (if due then 6 else 4) before
appended true before mid after is more = more ∙ ap (calls_after 4) is
appended false before mid after is more = more ∙ ap (calls_after 4) is

pub rotated : (due : Bool) (before mid after : ℕ) → mid ≡ calls_after (if due then 2 else 0) before → after ≡ calls_after 5 mid → after ≡ calls_after (if due then 7 else 5) before
rotated true before mid after is more = more ∙ ap (calls_after 5) is
rotated false before mid after is more = more ∙ ap (calls_after 5) is
