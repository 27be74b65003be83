-- How a run of calls on a disk goes on.
use Rattle.std.proofs.Common.{◌≡◌, inl, inr, ℕ, List, sym, subst, arith, Result, Ok, Err}
use Rattle.std.specs.Prelude.{OnOk, OnErr}
use Rattle.std.proofs.lemmas.Bool.{cases_lt}
use Rattle.hs_disk.specs.Disk.{Follows, AddsNone, AllImages, Only, Elapses, LeavesOnly}
use Rattle.redo_journal.specs.Gates.{Throughout}

pub on_ok : {T E : Type 0} {P : Type 0} (result : Result T E) → P → OnOk result P
on_ok (Ok x) p = p
on_ok (Err e) p = tt

pub on_err : {T E : Type 0} {P : Type 0} (result : Result T E) → P → OnErr result P
on_err (Ok x) p = tt
on_err (Err e) p = p

-- what holds after either outcome
pub either_way : {T E : Type 0} {P Q R : Type 0} (result : Result T E) → OnOk result P → OnErr result Q → (P → R) → (Q → R) → R
either_way (Ok x) p q from_ok from_err = from_ok p
either_way (Err e) p q from_ok from_err = from_err q

-- what a call leaves, where each image is an earlier one after a step
pub stepped : (step : List ℕ → List ℕ → Type 0) (P Q : List ℕ → Type 0) (seen : List ℕ) (old : List ℕ → Type 0) (now : List ℕ) (new : List ℕ → Type 0) → ((earlier image : List ℕ) → P earlier → step earlier image → Q image) → Throughout P seen old → Follows step old new → new now → Throughout Q now new
stepped step P Q seen old now new into was follows reading = record {
  reads = after now reading;
  leaves = after;
}
  where
    after : (image : List ℕ) → new image → Q image
    after image is = let from = follows image is in into from.0 image (was.leaves from.0 from.1) from.2

-- a call that adds no image
pub kept : (P : List ℕ → Type 0) (seen : List ℕ) (old : List ℕ → Type 0) (now : List ℕ) (new : List ℕ → Type 0) → Throughout P seen old → AddsNone old new → new now → Throughout P now new
kept P seen old now new was adds_none reading = record {
  reads = was.leaves now (adds_none now reading);
  leaves = λ image is. was.leaves image (adds_none image is);
}

-- a sync that succeeds
pub synced : (P : List ℕ → Type 0) (seen now : List ℕ) (new : List ℕ → Type 0) → P seen → now ≡ seen → Only seen new → Throughout P now new
synced P seen now new was same only = record {
  reads = subst P (sym same) was;
  leaves = λ image is. subst P (sym (only image is)) was;
}

-- the same of a wider kind
pub widened : (P Q : List ℕ → Type 0) (seen : List ℕ) (may_leave : List ℕ → Type 0) → ((image : List ℕ) → P image → Q image) → Throughout P seen may_leave → Throughout Q seen may_leave
widened P Q seen may_leave into was = record {
  reads = into seen was.reads;
  leaves = λ image is. into image (was.leaves image is);
}

module _ {D : Type 0} (moment : D → ℕ) (left_at : D → ℕ → List ℕ → Type 0) where
  -- before the first call
  pub started : (old : D) (P may_leave : List ℕ → Type 0) → ((image : List ℕ) → left_at old (moment old) image → may_leave image) → ((image : List ℕ) → may_leave image → P image) → LeavesOnly moment left_at old old P
  started old P may_leave only_now here = record {
    later = omega arith;
    each = λ t image from upto left. here image (only_now image (subst (λ (s : ℕ). left_at old s image) (omega (arith, from, upto)) left));
    before = λ t image le left. left;
  }

  -- one call more
  pub goes_on : (old mid new : D) (P may_leave : List ℕ → Type 0) → LeavesOnly moment left_at old mid P → Elapses (moment mid) (moment new) (left_at mid) (left_at new) may_leave → ((image : List ℕ) → may_leave image → P image) → LeavesOnly moment left_at old new P
  goes_on old mid new P may_leave so_far time here = record {
    later = omega (arith, so_far.later, time.later);
    each = λ t image from upto left. elim (cases_lt (moment mid) t) [
      | inl past ↦ here image (time.nothing_else t image past upto left)
      | inr within ↦ so_far.each t image from within (time.stays t image within left)
    ];
    before = λ t image le left. so_far.before t image le (time.stays t image (omega (arith, le, so_far.later)) left);
  }

  -- one run after another
  pub joined : (old mid new : D) (P : List ℕ → Type 0) → LeavesOnly moment left_at old mid P → LeavesOnly moment left_at mid new P → LeavesOnly moment left_at old new P
  joined old mid new P first then = record {
    later = omega (arith, first.later, then.later);
    each = λ t image from upto left. elim (cases_lt (moment mid) t) [
      | inl past ↦ then.each t image (omega (arith, past)) upto left
      | inr within ↦ first.each t image from within (then.before t image within left)
    ];
    before = λ t image le left. first.before t image le (then.before t image (omega (arith, le, first.later)) left);
  }

  -- the same of a wider kind
  pub wider : (old new : D) (P Q : List ℕ → Type 0) → ((image : List ℕ) → P image → Q image) → LeavesOnly moment left_at old new P → LeavesOnly moment left_at old new Q
  wider old new P Q into run = record {
    later = run.later;
    each = λ t image from upto left. into image (run.each t image from upto left);
    before = run.before;
  }

  -- what all images are after a run
  pub after_run : (old new : D) (P may_leave : List ℕ → Type 0) → LeavesOnly moment left_at old new P → ((image : List ℕ) → may_leave image → left_at new (moment new) image) → AllImages P may_leave
  after_run old new P may_leave run counts_now = λ image left. run.each (moment new) image run.later (omega arith) (counts_now image left)

module _ {D : Type 0} (seen : D → List ℕ) (may_leave : D → List ℕ → Type 0) (moment : D → ℕ) (left_at : D → ℕ → List ℕ → Type 0) where
  -- a first call, each of whose images is an earlier one after a step
  pub first_step : (step : List ℕ → List ℕ → Type 0) (P : List ℕ → Type 0) (old new : D) → ((earlier image : List ℕ) → P earlier → step earlier image → P image) → Throughout P (seen old) (may_leave old) → ((image : List ℕ) → left_at old (moment old) image → may_leave old image) → Follows step (may_leave old) (may_leave new) → may_leave new (seen new) → Elapses (moment old) (moment new) (left_at old) (left_at new) (may_leave new) → LeavesOnly moment left_at old new P × Throughout P (seen new) (may_leave new)
  first_step step P old new into was only_now follows reading time =
      let now = stepped step P P (seen old) (may_leave old) (seen new) (may_leave new) into was follows reading in (
        goes_on moment left_at old old new P (may_leave new) (started moment left_at old P (may_leave old) only_now was.leaves) time now.leaves,
        now,
      )

  -- a next call
  pub next_step : (step : List ℕ → List ℕ → Type 0) (P : List ℕ → Type 0) (old mid new : D) → ((earlier image : List ℕ) → P earlier → step earlier image → P image) → LeavesOnly moment left_at old mid P → Throughout P (seen mid) (may_leave mid) → Follows step (may_leave mid) (may_leave new) → may_leave new (seen new) → Elapses (moment mid) (moment new) (left_at mid) (left_at new) (may_leave new) → LeavesOnly moment left_at old new P × Throughout P (seen new) (may_leave new)
  next_step step P old mid new into so_far was follows reading time =
      let now = stepped step P P (seen mid) (may_leave mid) (seen new) (may_leave new) into was follows reading in
      (goes_on moment left_at old mid new P (may_leave new) so_far time now.leaves, now)

  -- a first call, and what its images are
  pub begins : (P : List ℕ → Type 0) (old new : D) → ((image : List ℕ) → left_at old (moment old) image → may_leave old image) → ((image : List ℕ) → may_leave old image → P image) → ((image : List ℕ) → may_leave new image → P image) → may_leave new (seen new) → Elapses (moment old) (moment new) (left_at old) (left_at new) (may_leave new) → LeavesOnly moment left_at old new P × Throughout P (seen new) (may_leave new)
  begins P old new only_now was now reading time = (
    goes_on moment left_at old old new P (may_leave new) (started moment left_at old P (may_leave old) only_now was) time now,
    record { reads = now (seen new) reading; leaves = now },
  )

  -- and a next one
  pub proceeds : (P : List ℕ → Type 0) (old mid new : D) → LeavesOnly moment left_at old mid P → ((image : List ℕ) → may_leave new image → P image) → may_leave new (seen new) → Elapses (moment mid) (moment new) (left_at mid) (left_at new) (may_leave new) → LeavesOnly moment left_at old new P × Throughout P (seen new) (may_leave new)
  proceeds P old mid new so_far now reading time =
      (goes_on moment left_at old mid new P (may_leave new) so_far time now, record { reads = now (seen new) reading; leaves = now })

  -- a next call that adds no image
  pub next_kept : (P : List ℕ → Type 0) (old mid new : D) → LeavesOnly moment left_at old mid P → Throughout P (seen mid) (may_leave mid) → AddsNone (may_leave mid) (may_leave new) → may_leave new (seen new) → Elapses (moment mid) (moment new) (left_at mid) (left_at new) (may_leave new) → LeavesOnly moment left_at old new P × Throughout P (seen new) (may_leave new)
  next_kept P old mid new so_far was adds_none reading time =
      let now = kept P (seen mid) (may_leave mid) (seen new) (may_leave new) was adds_none reading in
      (goes_on moment left_at old mid new P (may_leave new) so_far time now.leaves, now)
