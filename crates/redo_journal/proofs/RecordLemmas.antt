-- One record more, and a record that is a root.
use Rattle.std.proofs.Common.{◌≡◌, ℕ, ◌+◌, ◌<◌, List, [], ◌∷◌, ◌++◌, length, drop, refl, sym, ◌∙◌, ap, subst, arith, length-append, take-append-drop}
use Rattle.std.specs.Int.{w32, to_be_bytes}
use Rattle.std.proofs.lemmas.List.{map-append}
use Rattle.redo_journal.specs.Bytes.{FitsLength, StandsAt, records_of, counted}
use Rattle.redo_journal.specs.Root.{IsRoot, root_mark}
use Rattle.redo_journal.specs.Records.{payloads_of, placed}
use Rattle.redo_journal.specs.Reading.{RunFrom, BreaksAt, StandFrom, SkipsTo, SkipsRecord, ReadsRecord, RefusesRecord, RefusesRecords, RefusesSkip, IsRootAt}
use Rattle.redo_journal.specs.declared.record.Record.{Record}
use Rattle.redo_journal.specs.declared.refusal.Refusal.{Refusal}
use Rattle.redo_journal.specs.declared.refusal.Refusal.TheVariants.{OtherSchema, Damaged, DiskFault, NoMemory}
use Rattle.redo_journal.proofs.FormLemmas.{records_of-push, length-counted, length-more, all-push}
use Rattle.redo_journal.proofs.StandLemmas.{stands_join, stands_split}

pub payloads_of-push : (records : List Record) (new : Record) → payloads_of (records ++ new ∷ []) ≡ payloads_of records ++ new.payload ∷ []
payloads_of-push records new = map-append (λ (r : Record). r.payload) records (new ∷ [])

pub placed-push : (place : ℕ) (payloads : List (List ℕ)) (payload : List ℕ) → placed place (payloads ++ payload ∷ []) ≡ placed place payloads ++ record { place = place + length (records_of payloads); payload = payload } ∷ []
placed-push place [] payload = ap (λ (at : ℕ). record { place = at; payload = payload } ∷ []) (omega arith)
placed-push place (first ∷ payloads) payload =
    ap (λ (l : List Record). record { place = place; payload = first } ∷ l)
    (placed-push (place + (5 + length first)) payloads payload
    ∙ ap (λ (at : ℕ). placed (place + (5 + length first)) payloads ++ record { place = at; payload = payload } ∷ [])
    (omega (arith, length-append (1 ∷ counted first) (records_of payloads), length-counted first)))

pub run_none : (image : List ℕ) (first : ℕ) → first < length image → RunFrom image first [] first
run_none image first within = record { fit = tt; stand = refl; gate_is = omega arith; within = within }

pub run_more : (image : List ℕ) (first gate next : ℕ) (payloads : List (List ℕ)) (payload : List ℕ) → RunFrom image first payloads gate → ReadsRecord image gate payload next → RunFrom image first (payloads ++ payload ∷ []) next
run_more image first gate next payloads payload run read = record {
  fit = all-push FitsLength payloads payload run.fit read.fits;
  stand = subst (λ (l : List ℕ). StandsAt first l image) (sym (records_of-push payloads payload))
      (stands_join first (records_of payloads) (1 ∷ counted payload) image run.stand (subst (λ (g : ℕ). StandsAt g (1 ∷ counted payload) image) run.gate_is read.stands));
  gate_is = omega (arith, read.next_is, run.gate_is, ap length (records_of-push payloads payload), length-more (records_of payloads) payload);
  within = read.within;
}

pub stand_none : (image : List ℕ) (first : ℕ) → first < length image → StandFrom image first [] first
stand_none image first within = record { places = refl; run = run_none image first within }

pub stand_more : (image : List ℕ) (first gate next : ℕ) (records : List Record) (new : Record) → StandFrom image first records gate → new.place ≡ gate → ReadsRecord image gate new.payload next → StandFrom image first (records ++ new ∷ []) next
stand_more image first gate next records new stand place read = record {
  places = ap (λ (l : List Record). l ++ new ∷ []) stand.places
      ∙ ap (λ (r : Record). placed first (payloads_of records) ++ r ∷ []) new_is
      ∙ sym (placed-push first (payloads_of records) new.payload)
      ∙ ap (placed first) (sym more);
  run = subst (λ (l : List (List ℕ)). RunFrom image first l next) (sym more) (run_more image first gate next (payloads_of records) new.payload stand.run read);
}
  where
    more : payloads_of (records ++ new ∷ []) ≡ payloads_of records ++ new.payload ∷ []
    more = payloads_of-push records new

    new_is : new ≡ record { place = first + length (records_of (payloads_of records)); payload = new.payload }
    new_is = ap (λ (at : ℕ). record { place = at; payload = new.payload }) (place ∙ stand.run.gate_is)

pub skips_none : (image : List ℕ) (first : ℕ) → first < length image → SkipsTo image first first
skips_none image first within = record { payloads = []; none_is_root = tt; run = run_none image first within }

pub skips_more : (image : List ℕ) (first gate next : ℕ) → SkipsTo image first gate → SkipsRecord image gate next → SkipsTo image first next
skips_more image first gate next skips more = record {
  payloads = skips.payloads ++ more.payload ∷ [];
  none_is_root = all-push (λ p. IsRoot p → ⊥) skips.payloads more.payload skips.none_is_root more.no_root;
  run = run_more image first gate next skips.payloads more.payload skips.run more.reads;
}

-- a record that isn't whole breaks them off
pub refused_more : (image : List ℕ) (first gate : ℕ) (records : List Record) → StandFrom image first records gate → (refusal : Refusal) → RefusesRecord image gate refusal → RefusesRecords image first refusal
refused_more image first gate records stand OtherSchema refuses = refuses
refused_more image first gate records stand (Damaged place) refuses = record {
  payloads = payloads_of records;
  run = subst (RunFrom image first (payloads_of records)) (sym refuses.0) stand.run;
  breaks = subst (λ (p : ℕ). BreaksAt p image) (sym refuses.0) refuses.1;
}
refused_more image first gate records stand DiskFault refuses = absurd refuses
refused_more image first gate records stand NoMemory refuses = absurd refuses

pub refused_skip : (image : List ℕ) (first gate : ℕ) → SkipsTo image first gate → (refusal : Refusal) → RefusesRecord image gate refusal → RefusesSkip image first refusal
refused_skip image first gate skips OtherSchema refuses = refuses
refused_skip image first gate skips (Damaged place) refuses = record {
  skips = subst (SkipsTo image first) (sym refuses.0) skips;
  breaks = subst (λ (p : ℕ). BreaksAt p image) (sym refuses.0) refuses.1;
}
refused_skip image first gate skips DiskFault refuses = refuses
refused_skip image first gate skips NoMemory refuses = refuses

-- a record of a root's form begins so
pub root_counted : (payload : List ℕ) → IsRoot payload → 1 ∷ counted payload ≡ root_mark ++ drop 4 payload
unfolding counted
root_counted payload is =
    ap (λ (n : ℕ). 1 ∷ (to_be_bytes w32 n ++ payload)) is.size
    ∙ ap (λ (l : List ℕ). 1 ∷ 0 ∷ 0 ∷ 0 ∷ 21 ∷ l) (sym (take-append-drop 4 payload) ∙ ap (λ (l : List ℕ). l ++ drop 4 payload) is.mark)

pub no_root : (image : List ℕ) (gate next : ℕ) (payload : List ℕ) → ReadsRecord image gate payload next → (IsRootAt gate image → ⊥) → IsRoot payload → ⊥
no_root image gate next payload read none is = none (record {
  stands = (stands_split gate root_mark (drop 4 payload) image (subst (λ (l : List ℕ). StandsAt gate l image) (root_counted payload is) read.stands)).0;
  whole = omega (arith, read.within, read.next_is, is.size);
})
