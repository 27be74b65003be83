use Rattle.std.proofs.Common.{◌≡◌, ◌<◌, ◌^◌, inl, List, ℕ, length, refl, sym, ◌∙◌, ap, subst}
use Rattle.std.specs.Prelude.{None}
use Rattle.std.proofs.lemmas.Result.{IfOk-weaker}
use Rattle.redo_journal.specs.Gates.{Is, Throughout}
use Rattle.redo_journal.specs.Image.{Contents, IsFresh, StandsFor, nothing}
use Rattle.redo_journal.specs.Journal.{Standing, IsJournalOn, StandsOn, records}
use Rattle.redo_journal.specs.Opening.{Opens, RefusesImage, RefusesReading, StandUpTo, contents_of}
use Rattle.redo_journal.specs.Records.{payloads_of}
use Rattle.redo_journal.specs.declared.record.Record.{Record}
use Rattle.redo_journal.proofs.OpenLemmas.{length-payloads}
use Rattle.redo_journal.proofs.OpeningLemmas.{err_weaker, made, made_stands, opens_on, opens_shows, opens_stands, refuses_image}
use Rattle.redo_journal.proofs.open.open_on.Goals as goal

pub returns-then-is_fresh-clause-reads : goal.returns-then-is_fresh-clause-reads
returns-then-is_fresh-clause-reads g c tells =
    let disk = g.D.Disk in
    let text = c.args.schema_text.now in
    let contents : Contents = record { first = 0; area = None; payloads = payloads_of c.new.result.items } in
    let same : contents ≡ nothing = ap (λ (l : List Record). record { first = 0; area = None; payloads = payloads_of l }) c.new.ensures.items in
    inl (subst IsFresh (c.deref.ensures.value ∙ c.in_ok-image.ensures.bytes tells) c.if-is_fresh.ensures.fresh, same)

pub returns-then-is_fresh-clause-stands : goal.returns-then-is_fresh-clause-stands
returns-then-is_fresh-clause-stands g c tells =
    let disk = g.D.Disk in
    let text = c.args.schema_text.now in
    let contents : Contents = record { first = 0; area = None; payloads = payloads_of c.new.result.items } in
    let same : contents ≡ nothing = ap (λ (l : List Record). record { first = 0; area = None; payloads = payloads_of l }) c.new.ensures.items in
    let gate = c.in_ok-gate.gate in
    let seen = disk.seen c.make.new.disk in
    let may_leave = disk.may_leave c.make.new.disk in
    let on = subst (λ (j : Standing). StandsOn text contents nothing j seen may_leave) (sym c.plain.ensures) (subst (λ (k : Contents). StandsOn text k nothing (made gate) seen may_leave) (sym same) (made_stands text gate seen may_leave (c.in_ok-gate.ensures.ok tells))) in
    on

pub returns-then-is_fresh-clause-is_journal : goal.returns-then-is_fresh-clause-is_journal
returns-then-is_fresh-clause-is_journal g c tells =
    let disk = g.D.Disk in
    let text = c.args.schema_text.now in
    let contents : Contents = record { first = 0; area = None; payloads = payloads_of c.new.result.items } in
    let same : contents ≡ nothing = ap (λ (l : List Record). record { first = 0; area = None; payloads = payloads_of l }) c.new.ensures.items in
    let gate = c.in_ok-gate.gate in
    let seen = disk.seen c.make.new.disk in
    let may_leave = disk.may_leave c.make.new.disk in
    let on = subst (λ (j : Standing). StandsOn text contents nothing j seen may_leave) (sym c.plain.ensures) (subst (λ (k : Contents). StandsOn text k nothing (made gate) seen may_leave) (sym same) (made_stands text gate seen may_leave (c.in_ok-gate.ensures.ok tells))) in
    record { text = text; contents = contents; doubtful = nothing; stands = on }

pub returns-then-is_fresh-clause-places : goal.returns-then-is_fresh-clause-places
returns-then-is_fresh-clause-places g c =
    subst (λ (l : List Record). StandUpTo c.plain.result.gate l) (sym c.new.ensures.items) refl

pub returns-clause-reads : goal.returns-clause-reads
returns-clause-reads g c tells =
    let disk = g.D.Disk in
    let text = c.args.schema_text.now in
    let image = c.deref-2.result.now in
    let image_is : image ≡ disk.seen c.args.disk.now = c.deref-2.ensures.value ∙ c.in_ok-image.ensures.bytes tells in
    IfOk-weaker c.read.result (λ o. Opens text image o.0 o.1) (λ o. StandsFor text (contents_of o.1) (disk.seen c.args.disk.now)) (λ o is. subst (StandsFor text (contents_of o.1)) image_is (opens_shows text image o.0 o.1 is)) c.read.ensures.ok

pub returns-clause-stands : goal.returns-clause-stands
returns-clause-stands g c tells =
    let disk = g.D.Disk in
    let text = c.args.schema_text.now in
    let image = c.deref-2.result.now in
    let image_is : image ≡ disk.seen c.args.disk.now = c.deref-2.ensures.value ∙ c.in_ok-image.ensures.bytes tells in
    let seen = disk.seen c.load.new.disk in
    let may_leave = disk.may_leave c.load.new.disk in
    let these : Throughout (Is image) seen may_leave = subst (λ (l : List ℕ). Throughout (Is l) seen may_leave) (sym image_is) (c.in_ok-image.ensures.only tells) in
    IfOk-weaker c.read.result (λ o. Opens text image o.0 o.1) (λ o. StandsOn text (contents_of o.1) nothing o.0 seen may_leave) (λ o is. opens_stands text image o.0 o.1 is seen may_leave these) c.read.ensures.ok

pub returns-clause-is_journal : goal.returns-clause-is_journal
returns-clause-is_journal g c tells =
    let disk = g.D.Disk in
    let text = c.args.schema_text.now in
    let image = c.deref-2.result.now in
    let image_is : image ≡ disk.seen c.args.disk.now = c.deref-2.ensures.value ∙ c.in_ok-image.ensures.bytes tells in
    let seen = disk.seen c.load.new.disk in
    let may_leave = disk.may_leave c.load.new.disk in
    let these : Throughout (Is image) seen may_leave = subst (λ (l : List ℕ). Throughout (Is l) seen may_leave) (sym image_is) (c.in_ok-image.ensures.only tells) in
    IfOk-weaker c.read.result (λ o. Opens text image o.0 o.1) (λ o. IsJournalOn o.0 seen may_leave) (λ o is. opens_on text image o.0 o.1 is seen may_leave these) c.read.ensures.ok

pub returns-clause-places : goal.returns-clause-places
returns-clause-places g c =
    let text = c.args.schema_text.now in
    let image = c.deref-2.result.now in
    IfOk-weaker c.read.result (λ o. Opens text image o.0 o.1) (λ o. StandUpTo o.0.gate o.1.records.items) (λ o is. is.places) c.read.ensures.ok

pub returns-clause-counted : goal.returns-clause-counted
returns-clause-counted g c =
    let text = c.args.schema_text.now in
    let image = c.deref-2.result.now in
    IfOk-weaker c.read.result (λ o. Opens text image o.0 o.1) (λ o. (o.0.first ≡ o.1.first) × (o.0.since ≡ length o.1.records.items)) (λ o is. (is.is.first, is.is.since ∙ length-payloads o.1.records.items)) c.read.ensures.ok

pub returns-clause-low : goal.returns-clause-low
returns-clause-low g c =
    let text = c.args.schema_text.now in
    let image = c.deref-2.result.now in
    IfOk-weaker c.read.result (λ o. Opens text image o.0 o.1) (λ o. records o.0 < 2 ^ 63) (λ o is. is.low) c.read.ensures.ok

pub returns-clause-quiet : goal.returns-clause-quiet
returns-clause-quiet g c =
    let text = c.args.schema_text.now in
    let image = c.deref-2.result.now in
    IfOk-weaker c.read.result (λ o. Opens text image o.0 o.1) (λ o. o.0.doubt ≡ None) (λ o is. is.quiet) c.read.ensures.ok

pub returns-clause-refused : goal.returns-clause-refused
returns-clause-refused g c tells =
    let disk = g.D.Disk in
    let text = c.args.schema_text.now in
    let image = c.deref-2.result.now in
    let image_is : image ≡ disk.seen c.args.disk.now = c.deref-2.ensures.value ∙ c.in_ok-image.ensures.bytes tells in
    err_weaker c.read.result (RefusesReading text image) (RefusesImage text (disk.seen c.args.disk.now)) (λ refusal refuses. subst (λ (l : List ℕ). RefusesImage text l refusal) image_is (refuses_image text image refusal refuses)) c.read.ensures.err
