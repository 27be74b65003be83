-- What contents and images show.
--     leads_one, lead_all_one, begins_one, shows_one, image_one      they show one thing at most
--     lead_all_behind, shows_added      a record behind the others leads on
--     stands_one      an image stands for one contents at most
use Rattle.std.proofs.Common.{◌≡◌, ℕ, ◌+◌, List, [], ◌∷◌, ◌++◌, refl, sym, ap, subst, ◌∙◌, inl, inr, arith, length-append}
use Rattle.std.specs.Prelude.{Option, Some, None, Result, Ok}
use Rattle.row_types.specs.declared.tables.Schema.{Schema}
use Rattle.table_rows.specs.Database.{Database}
use Rattle.change_set.specs.declared.change.Change.{Change}
use Rattle.change_set.specs.Putting.{put}
use Rattle.check_point.specs.Area.{Makes}
use Rattle.check_point.proofs.MadeOfEmpty.{makes_one}
use Rattle.hs_schema.specs.Spelling.{spelled}
use Rattle.redo_journal.specs.Image.{Contents, StandsFor, added, area_alone}
use Rattle.redo_journal.proofs.ReadingLaws.{one_contents, fresh_no_journal}
use Rattle.table_recovery.specs.Shown.{Begins, Leads, LeadAll, Shows, ImageShows}

abbrev ok : List Change → Result (List Change) ℕ
ok set = Ok set

ok_is : (a b : List Change) → ok a ≡ ok b → a ≡ b
ok_is a b e = cc

pub leads_one : (before : Database) (bytes : List ℕ) (after other : Database) → Leads before bytes after → Leads before bytes other → after ≡ other
leads_one before bytes after other first second =
    first.is ∙ ap (put before) (ok_is first.set second.set (sym first.read ∙ second.read)) ∙ sym second.is

pub lead_all_one : (before : Database) (payloads : List (List ℕ)) (after other : Database) → LeadAll before payloads after → LeadAll before payloads other → after ≡ other
lead_all_one before [] after other first second = first ∙ sym second
lead_all_one before (bytes ∷ payloads) after other first second =
    let same = leads_one before bytes second.0 first.0 second.1 first.1 in
    lead_all_one first.0 payloads after other first.2 (subst (λ (next : Database). LeadAll next payloads other) same second.2)

pub begins_one : (schema : Schema) (bytes_max : ℕ) (area : Option (List ℕ)) (db other : Database) → Begins schema bytes_max area db → Begins schema bytes_max area other → db ≡ other
begins_one schema bytes_max None db other first second = first ∙ sym second
begins_one schema bytes_max (Some area) db other first second = makes_one schema bytes_max area db other first second

pub shows_one : (schema : Schema) (bytes_max : ℕ) (contents : Contents) (db other : Database) (place number : ℕ) → Shows schema bytes_max contents db place → Shows schema bytes_max contents other number → (db ≡ other) × (place ≡ number)
shows_one schema bytes_max contents db other place number first second =
    let same = begins_one schema bytes_max contents.area second.start first.start second.begins first.begins in (
      lead_all_one first.start contents.payloads db other first.leads (subst (λ (start : Database). LeadAll start contents.payloads other) same second.leads),
      first.place_is ∙ sym second.place_is,
    )

pub stands_one : (text image : List ℕ) (contents others : Contents) → StandsFor text contents image → StandsFor text others image → contents ≡ others
stands_one text image contents others (inl (fresh, none)) (inl (fresh', none')) = none ∙ sym none'
stands_one text image contents others (inl (fresh, none)) (inr is) = absurd (fresh_no_journal text image others fresh is)
stands_one text image contents others (inr is) (inl (fresh, none)) = absurd (fresh_no_journal text image contents fresh is)
stands_one text image contents others (inr is) (inr is') = one_contents text image contents others is is'

pub image_one : (schema : Schema) (bytes_max : ℕ) (image : List ℕ) (db other : Database) (place number : ℕ) → ImageShows schema bytes_max db place image → ImageShows schema bytes_max other number image → (db ≡ other) × (place ≡ number)
image_one schema bytes_max image db other place number first second =
    let same = stands_one (spelled schema) image second.contents first.contents second.journals first.journals in
    shows_one schema bytes_max first.contents db other place number first.shows (subst (λ (c : Contents). Shows schema bytes_max c other number) same second.shows)

pub lead_all_behind : (before : Database) (payloads : List (List ℕ)) (db : Database) (bytes : List ℕ) (after : Database) → LeadAll before payloads db → Leads db bytes after → LeadAll before (payloads ++ bytes ∷ []) after
lead_all_behind before [] db bytes after so_far leads = (after, subst (λ (d : Database). Leads d bytes after) so_far leads, refl)
lead_all_behind before (first ∷ payloads) db bytes after so_far leads = (so_far.0, so_far.1, lead_all_behind so_far.0 payloads db bytes after so_far.2 leads)

pub shows_added : (schema : Schema) (bytes_max : ℕ) (contents : Contents) (db after : Database) (place : ℕ) (bytes : List ℕ) → Shows schema bytes_max contents db place → Leads db bytes after → Shows schema bytes_max (added contents bytes) after (place + 1)
shows_added schema bytes_max contents db after place bytes shows leads = record {
  start = shows.start;
  begins = shows.begins;
  leads = lead_all_behind shows.start contents.payloads db bytes after shows.leads leads;
  place_is = omega (arith, shows.place_is, length-append contents.payloads (bytes ∷ []));
}

pub area_shows : (schema : Schema) (bytes_max : ℕ) (area : List ℕ) (db : Database) (number : ℕ) → Makes schema bytes_max area db → Shows schema bytes_max (area_alone number area) db number
area_shows schema bytes_max area db number makes = record { start = db; begins = makes; leads = refl; place_is = omega arith }
