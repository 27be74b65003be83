-- Payloads of changes as records of a journal, and areas as segments.
--     net_leads      the payload of net changes leads from the tables before to those after
--     no_root      no payload of a set has a root's form
--     is_segment, segment_is, pushed_segment, number_back      what is written of tables is a segment, behind its number
use Rattle.std.proofs.Common.{◌≡◌, ℕ, ◌<◌, ◌≤◌, ◌^◌, List, [], ◌∷◌, ◌++◌, length, take, refl, sym, ap, subst, ◌∙◌, arith}
use Rattle.std.specs.Prelude.{◌≢◌}
use Rattle.std.specs.Int.{w32, to_be_bytes, from_be_bytes}
use Rattle.std.specs.List.{flat_map}
use Rattle.std.proofs.lemmas.List.Concat.{length-flat_map}
use Rattle.std.proofs.lemmas.Nat.{from_be_bytes-to_be_bytes_4, from_be_bytes-to_be_bytes_8}
use Rattle.table_rows.specs.Database.{Database}
use Rattle.change_set.specs.declared.change.Change.{Change}
use Rattle.change_set.specs.Fitting.{AreValuesHeld}
use Rattle.change_set.specs.Net.{changes}
use Rattle.change_set.specs.Payload.{change_bytes, payload}
use Rattle.change_set.specs.Putting.{IsValidDatabase, NoneLower}
use Rattle.change_set.proofs.NetApplies.{net_applies}
use Rattle.change_set.proofs.NetFits.{net_fits, no_more}
use Rattle.change_set.proofs.Nets.{put_of_changes}
use Rattle.change_set.proofs.SetsAgain.{payload_again}
use Rattle.check_point.specs.Area.{segment_of}
use Rattle.redo_journal.specs.Bytes.{FitsLength, counted, segment_head}
use Rattle.redo_journal.specs.Root.{IsRoot}
use Rattle.redo_journal.specs.Segment.{IsSegment, number_of}
use Rattle.table_recovery.specs.Shown.{Leads}

pub net_leads : (before after : Database) → IsValidDatabase before → IsValidDatabase after → after.schema ≡ before.schema → after.bytes_max ≡ before.bytes_max → NoneLower before.tables after.tables → AreValuesHeld (changes before after) → changes before after ≢ [] → Leads before (payload (changes before after)) after
net_leads before after old new schema most lower held some = record {
  set = changes before after;
  read = payload_again before.schema (changes before after) old.schema (net_fits before after old new schema held) some;
  applies = net_applies before after old new schema most lower;
  is = sym (put_of_changes before after old new schema most);
}

-- the number of changes is what the first four bytes spell
front_is : (n : ℕ) (rest : List ℕ) → take 4 (to_be_bytes w32 n ++ rest) ≡ to_be_bytes w32 n
front_is n rest = refl

few : (set : List Change) → length (payload set) ≡ 21 → length set ≤ 17
few set size = omega (arith, size, length-flat_map change_bytes set, no_more set)

pub no_root : (set : List Change) → IsRoot (payload set) → ⊥
no_root set is =
    let least = few set is.size in
    let marked : to_be_bytes w32 (length set) ≡ 255 ∷ 255 ∷ 255 ∷ 255 ∷ [] = sym (front_is (length set) (flat_map change_bytes set)) ∙ is.mark in
    let spelled : length set ≡ 4294967295 = sym (from_be_bytes-to_be_bytes_4 (length set) (omega (arith, least))) ∙ ap (from_be_bytes w32) marked in
    omega (arith, least, spelled)

pub is_segment : (number : ℕ) (area : List ℕ) → number < 2 ^ 64 → FitsLength area → IsSegment number area (segment_of number area)
unfolding counted segment_head
is_segment number area small fits = record {
  number_fits = small;
  area_fits = fits;
  is = refl;
}

pub segment_is : (number : ℕ) (area bytes : List ℕ) → bytes ≡ segment_of number area → number < 2 ^ 64 → FitsLength area → IsSegment number area bytes
segment_is number area bytes is small fits = subst (IsSegment number area) (sym is) (is_segment number area small fits)

-- the number in front of a segment
pub number_back : (number : ℕ) (area bytes : List ℕ) → bytes ≡ segment_of number area → number < 2 ^ 64 → number_of bytes ≡ number
unfolding number_of
number_back number area bytes is small = ap number_of is ∙ from_be_bytes-to_be_bytes_8 number small

-- a segment that is written behind nothing
pub pushed_segment : (number count : ℕ) (area start out bytes : List ℕ) → bytes ≡ out → out ≡ start ++ segment_of count area → start ≡ [] → count ≡ number → bytes ≡ segment_of number area
pushed_segment number count area start out bytes read wrote empty counted =
    read ∙ wrote ∙ ap (λ (l : List ℕ). l ++ segment_of count area) empty ∙ ap (λ (n : ℕ). segment_of n area) counted
