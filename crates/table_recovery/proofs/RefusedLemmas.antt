-- What is refused makes no tables.
--     no_area      an area that is refused
--     unread_nowhere, refused_nowhere      a payload that isn't read, or whose set doesn't apply
--     leads_keep, lead_all_keep, begins_keep, shows_keep      the schema stays the same
use Rattle.std.proofs.Common.{◌≡◌, ℕ, List, [], ◌∷◌, ap, subst, ◌∙◌, inl, inr}
use Rattle.std.specs.Prelude.{Option, Some, None, Result, Ok, Err}
use Rattle.row_types.specs.declared.tables.Schema.{Schema}
use Rattle.table_rows.specs.Database.{Database, empty_database}
use Rattle.change_set.specs.declared.change.Change.{Change}
use Rattle.change_set.specs.declared.damage.Damage.TheVariants as damage
use Rattle.change_set.specs.Putting.{Applies}
use Rattle.change_set.specs.Reading.{set_of}
use Rattle.check_point.specs.Area.{IsNoArea}
use Rattle.redo_journal.specs.Image.{Contents}
use Rattle.table_recovery.specs.Answers.{MakesNothing, LeadsNowhere}
use Rattle.table_recovery.specs.Shown.{Begins, Leads, LeadAll, Shows}

abbrev Read : Type 0
Read = Result (List Change) ℕ

not_both : (set : List Change) (place : ℕ) (read : Read) → read ≡ Ok set → read ≡ Err place → ⊥
not_both set place (Ok x) first second = absurd cc
not_both set place (Err e) first second = absurd cc

same_set : (set other : List Change) (read : Read) → read ≡ Ok set → read ≡ Ok other → set ≡ other
same_set set other (Ok x) first second = cc
same_set set other (Err e) first second = absurd cc

pub no_area : (schema : Schema) (bytes_max : ℕ) (area : List ℕ) (place : ℕ) → IsNoArea schema bytes_max area (damage.Bad place) → MakesNothing schema bytes_max area
no_area schema bytes_max area place (inl unread) = λ db makes. not_both makes.set place _ makes.read unread
no_area schema bytes_max area place (inr (zero, none)) = λ db makes. none.applies (subst (Applies (empty_database schema bytes_max)) (same_set makes.set none.set _ makes.read none.read) makes.applies)

pub unread_nowhere : (db : Database) (bytes : List ℕ) (place : ℕ) → set_of db.schema bytes ≡ Err place → LeadsNowhere db bytes
unread_nowhere db bytes place unread = λ after leads. not_both leads.set place _ leads.read unread

pub refused_nowhere : (db : Database) (bytes : List ℕ) (set : List Change) → set_of db.schema bytes ≡ Ok set → (Applies db set → ⊥) → LeadsNowhere db bytes
refused_nowhere db bytes set read refused = λ after leads. refused (subst (Applies db) (same_set leads.set set _ leads.read read) leads.applies)

-- the same schema, and as many bytes at most
abbrev pub Keeps : Database → Database → Type 0
Keeps before after = (after.schema ≡ before.schema) × (after.bytes_max ≡ before.bytes_max)

leads_keep : (before : Database) (bytes : List ℕ) (after : Database) → Leads before bytes after → Keeps before after
leads_keep before bytes after leads = (ap (λ (db : Database). db.schema) leads.is, ap (λ (db : Database). db.bytes_max) leads.is)

pub lead_all_keep : (before : Database) (payloads : List (List ℕ)) (after : Database) → LeadAll before payloads after → Keeps before after
lead_all_keep before [] after leads = (ap (λ (db : Database). db.schema) leads, ap (λ (db : Database). db.bytes_max) leads)
lead_all_keep before (bytes ∷ payloads) after leads =
    let first = leads_keep before bytes leads.0 leads.1 in
    let others = lead_all_keep leads.0 payloads after leads.2 in
    (others.0 ∙ first.0, others.1 ∙ first.1)

pub begins_keep : (schema : Schema) (bytes_max : ℕ) (area : Option (List ℕ)) (db : Database) → Begins schema bytes_max area db → Keeps (empty_database schema bytes_max) db
begins_keep schema bytes_max None db begins = (ap (λ (d : Database). d.schema) begins, ap (λ (d : Database). d.bytes_max) begins)
begins_keep schema bytes_max (Some area) db begins = (ap (λ (d : Database). d.schema) begins.is, ap (λ (d : Database). d.bytes_max) begins.is)

pub shows_keep : (schema : Schema) (bytes_max : ℕ) (contents : Contents) (db : Database) (place : ℕ) → Shows schema bytes_max contents db place → Keeps (empty_database schema bytes_max) db
shows_keep schema bytes_max contents db place shows =
    let first = begins_keep schema bytes_max contents.area shows.start shows.begins in
    let others = lead_all_keep shows.start contents.payloads db shows.leads in
    (others.0 ∙ first.0, others.1 ∙ first.1)
