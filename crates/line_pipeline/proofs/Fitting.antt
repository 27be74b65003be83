-- What connections ask for fits the schema, and so do the open ids that their lines leave.
use Rattle.std.proofs.Common.{◌≡◌, ℕ, zero, suc, ◌+◌, Bool, true, false, List, [], ◌∷◌, ◌++◌, map, get_or, set, Option, Some, None, Result, Ok, Err, refl, sym, subst, ◌∙◌, ⊎_elim}
use Rattle.std.specs.Prelude.{codes}
use Rattle.std.specs.List.{AllByRecursion}
use Rattle.hs_token.specs.declared.tokens.Token.{Token}
use Rattle.hs_token.specs.Reading.{line_at}
use Rattle.request_types.specs.declared.ports.Port.{Port}
use Rattle.request_types.specs.declared.connections.ConnId.{ConnId}
use Rattle.row_types.specs.declared.tables.Schema.{Schema}
use Rattle.row_types.specs.Valid.{IsValid}
use Rattle.request_types.specs.declared.codes.Code.{Code}
use Rattle.open_index.specs.declared.handles.Handle.{Handle}
use Rattle.open_index.specs.declared.requests.Auth.{Auth}
use Rattle.open_index.specs.declared.requests.Resolved.{Resolved}
use Rattle.request_types.specs.declared.requests.Request.{Request}
use Rattle.open_index.specs.Tokens.{is_word, u32_at}
use Rattle.open_index.specs.Line.{command_of, request_of, tells, is_secret, is_locked, command_means, tokens_mean, line_means, becomes, reads}
use Rattle.open_index.specs.Open.{opened, open_of}
use Rattle.open_index.specs.Fits.{HandlesFit}
use Rattle.open_index.proofs.OpensFit.{open_fits}
use Rattle.open_index.proofs.RequestsFit.{request_fits}
use Rattle.open_index.proofs.ReadsFit.{opened_fit}
use Rattle.request_types.specs.declared.batches.Item.{Item}
use Rattle.request_types.specs.declared.batches.ItemKind.{ItemKind}
use Rattle.line_pipeline.specs.declared.conns.Conn.{Conn}
use Rattle.line_pipeline.specs.declared.conns.Conn.TheVariants as conns
use Rattle.line_pipeline.specs.declared.reasons.Reason.TheVariants as reasons
use Rattle.line_pipeline.specs.declared.slots.Slot.{Slot}
use Rattle.line_pipeline.specs.Slots.{conns_from}
use Rattle.line_pipeline.proofs.SlotLemmas.{none_is, some_is, none_is_some}
use Rattle.std.proofs.lemmas.Bool.{cases_Bool}
use Rattle.request_types.specs.Fits.{KindFits, ItemFits}
use Rattle.request_types.specs.Ids.{same_id}
use Rattle.line_pipeline.specs.declared.changes.Change.{Change}
use Rattle.line_pipeline.specs.declared.changes.Change.TheVariants as changes
use Rattle.line_pipeline.specs.declared.reasons.Reason.{Reason}
use Rattle.line_pipeline.specs.Conn.{if_live, took, applied, asks, refused, closed, finished, items_of}
use Rattle.line_pipeline.specs.Table.{conn_at, Joins}
use Rattle.line_pipeline.specs.Gathered.{asked, items_at, batch_of}
use Rattle.line_pipeline.specs.Fitting.{ConnFits, ConnsFit}
use Rattle.line_pipeline.specs.Live.{Live, ending, kind_of, kinds_of, left_by, taken_lines, item_of}

some_same : {X : Type 0} {a b : X} → ◌≡◌ {A = Option X} (Some a) (Some b) → a ≡ b
some_same is = cc

-- What becomes of a line fits, and so do the open ids behind it.
abbrev BothFit : Schema → Resolved × List (ℕ × Handle) × Auth → Type 0
BothFit schema r = KindFits schema (kind_of r.0) × HandlesFit schema r.1

tells_by : (schema : Schema) (handles : List (ℕ × Handle)) (auth : Auth) (kind key : Token) (a b : Bool) → is_word (codes "1") kind ≡ a → is_secret auth.secret key ≡ b → HandlesFit schema handles → BothFit schema (becomes handles auth (tells auth (kind ∷ key ∷ [])))
unfolding tells
tells_by schema handles auth kind key false b first second fits = rw first (tt, fits)
tells_by schema handles auth kind key true true first second fits = rw (first, second) (tt, fits)
tells_by schema handles auth kind key true false first second fits = rw (first, second) (tt, fits)

tells_fit : (schema : Schema) (handles : List (ℕ × Handle)) (auth : Auth) (ts : List Token) → HandlesFit schema handles → BothFit schema (becomes handles auth (tells auth ts))
unfolding tells
tells_fit schema handles auth [] fits = (tt, fits)
tells_fit schema handles auth (a ∷ []) fits = (tt, fits)
tells_fit schema handles auth (kind ∷ key ∷ []) fits = tells_by schema handles auth kind key (is_word (codes "1") kind) (is_secret auth.secret key) refl refl fits
tells_fit schema handles auth (a ∷ b ∷ c ∷ ts) fits = (tt, fits)

module _ (schema : Schema) (valid : IsValid schema) (port : Port) (handles : List (ℕ × Handle)) (auth : Auth) (fits : HandlesFit schema handles) where
  abbrev Goal : List Token → Type 0
  Goal ts = BothFit schema (becomes handles auth (tokens_mean schema port handles auth ts))

  opens : (t : Token) (ts : List Token) → is_word (codes "P") t ≡ true → (b : Bool) → is_locked auth ≡ b → (o : Result (ℕ × Handle) Code) → open_of schema handles ts ≡ o → Goal (t ∷ ts)
  unfolding tokens_mean command_of command_means
  opens t ts word true locked o e = rw (word, locked) (tt, fits)
  opens t ts word false free (Err code) e = rw (word, free, e) (tt, fits)
  opens t ts word false free (Ok o) e = rw (word, free, e) (tt, opened_fit schema handles (opened handles o.0 o.1) o.0 o.1 fits (open_fits schema handles ts o valid e) refl)

  tells_it : (t : Token) (ts : List Token) → is_word (codes "P") t ≡ false → is_word (codes "A") t ≡ true → Goal (t ∷ ts)
  unfolding tokens_mean command_of command_means
  tells_it t ts other word = rw (other, word) (tells_fit schema handles auth ts fits)

  no_id : (t : Token) (ts : List Token) → is_word (codes "P") t ≡ false → is_word (codes "A") t ≡ false → u32_at t ≡ None → Goal (t ∷ ts)
  unfolding tokens_mean command_of command_means
  no_id t ts other another none = rw (other, another, none) (tt, fits)

  uses : (t : Token) (ts : List Token) (id : ℕ) → is_word (codes "P") t ≡ false → is_word (codes "A") t ≡ false → u32_at t ≡ Some id → (b : Bool) → is_locked auth ≡ b → (r : Result Request Code) → request_of port handles id ts ≡ r → Goal (t ∷ ts)
  unfolding tokens_mean command_of command_means
  uses t ts id other another some true locked r e = rw (other, another, some, locked) (tt, fits)
  uses t ts id other another some false free (Err code) e = rw (other, another, some, free, e) (tt, fits)
  uses t ts id other another some false free (Ok r) e = rw (other, another, some, free, e) (request_fits schema port handles id ts r fits e, fits)

  by_id : (t : Token) (ts : List Token) → is_word (codes "P") t ≡ false → is_word (codes "A") t ≡ false → (i : Option ℕ) → u32_at t ≡ i → Goal (t ∷ ts)
  by_id t ts other another None none = no_id t ts other another none
  by_id t ts other another (Some id) some = uses t ts id other another some (is_locked auth) refl (request_of port handles id ts) refl

  by_words : (t : Token) (ts : List Token) (a b : Bool) → is_word (codes "P") t ≡ a → is_word (codes "A") t ≡ b → Goal (t ∷ ts)
  by_words t ts true b first second = opens t ts first (is_locked auth) refl (open_of schema handles ts) refl
  by_words t ts false true first second = tells_it t ts first second
  by_words t ts false false first second = by_id t ts first second (u32_at t) refl

  no_tokens : Goal []
  unfolding tokens_mean
  no_tokens = (tt, fits)

  tokens_fit : (ts : List Token) → Goal ts
  tokens_fit [] = no_tokens
  tokens_fit (t ∷ ts) = by_words t ts (is_word (codes "P") t) (is_word (codes "A") t) refl refl

  line_by : (line : List ℕ) (r : Result (List Token) ℕ) → line_at line ≡ r → BothFit schema (becomes handles auth (line_means schema port handles auth line))
  unfolding line_means
  line_by line (Err place) is = rw is (tt, fits)
  line_by line (Ok ts) is = rw is (tokens_fit ts)

module _ (schema : Schema) (valid : IsValid schema) where
  -- a line
  line_fit : (port : Port) (handles : List (ℕ × Handle)) (auth : Auth) (line : List ℕ) → HandlesFit schema handles → let r = reads schema port handles auth line in KindFits schema (kind_of r.0) × HandlesFit schema r.1
  line_fit port handles auth line fits = line_by schema valid port handles auth fits line (line_at line) refl

  -- lines
  kinds_fit : (port : Port) (handles : List (ℕ × Handle)) (auth : Auth) (lines : List (List ℕ)) → HandlesFit schema handles → AllByRecursion (KindFits schema) (kinds_of schema port handles auth lines)
  kinds_fit port handles auth [] fits = tt
  kinds_fit port handles auth (line ∷ lines) fits =
      let first = line_fit port handles auth line fits in
      let r = reads schema port handles auth line in
      (first.0, kinds_fit port r.1 r.2 lines first.1)

  left_fit : (port : Port) (handles : List (ℕ × Handle)) (auth : Auth) (lines : List (List ℕ)) → HandlesFit schema handles → HandlesFit schema (left_by schema port handles auth lines).0
  left_fit port handles auth [] fits = fits
  left_fit port handles auth (line ∷ lines) fits =
      let first = line_fit port handles auth line fits in
      let r = reads schema port handles auth line in
      left_fit port r.1 r.2 lines first.1

  -- what a connection asks for
  pub asked_fit : (conn : Conn) → ConnFits schema conn → AllByRecursion (KindFits schema) (asked schema conn)
  asked_fit (conns.Live l) fits = kinds_fit l.port l.handles l.auth (taken_lines l) fits
  asked_fit (conns.Closed reason) fits = tt

  pub took_fit : (conn : Conn) → ConnFits schema conn → ConnFits schema (took schema conn)
  took_fit (conns.Live l) fits = left_fit l.port l.handles l.auth (taken_lines l) fits
  took_fit (conns.Closed reason) fits = tt

pub items_fit : (schema : Schema) (id : ConnId) (kinds : List ItemKind) → AllByRecursion (KindFits schema) kinds → AllByRecursion (ItemFits schema) (map (item_of id) kinds)
items_fit schema id [] fits = tt
items_fit schema id (kind ∷ kinds) fits = (fits.0, items_fit schema id kinds fits.1)

-- ---- what becomes of one connection

closed_fit : (schema : Schema) (reason : Reason) (conn : Conn) → ConnFits schema (closed reason conn)
closed_fit schema reason (conns.Live l) = tt
closed_fit schema reason (conns.Closed first) = tt

refused_fit : (schema : Schema) (conn : Conn) → ConnFits schema conn → ConnFits schema (refused conn)
refused_fit schema conn fits =
    ⊎_elim (λ is. rw is (closed_fit schema reasons.BatchMemory conn)) (λ none. rw none fits) (cases_Bool (asks conn))

finished_by : (schema : Schema) (l : Live) (e : Option Reason) → ending l ≡ e → ConnFits schema (conns.Live l) → ConnFits schema (finished (conns.Live l))
finished_by schema l None is fits = rw is fits
finished_by schema l (Some reason) is fits = rw is tt

finished_fit : (schema : Schema) (conn : Conn) → ConnFits schema conn → ConnFits schema (finished conn)
finished_fit schema (conns.Live l) fits = finished_by schema l (ending l) refl fits
finished_fit schema (conns.Closed reason) fits = tt

live_fit : (schema : Schema) (f : Live → Live) (conn : Conn) → ((l : Live) → (f l).handles ≡ l.handles) → ConnFits schema conn → ConnFits schema (if_live f conn)
live_fit schema f (conns.Live l) same fits = subst (HandlesFit schema) (sym (same l)) fits
live_fit schema f (conns.Closed reason) same fits = tt

-- no change opens an id
pub applied_fit : (schema : Schema) (change : Change) (conn : Conn) → ConnFits schema conn → ConnFits schema (applied change conn)
applied_fit schema (changes.Feed piece) conn fits = live_fit schema _ conn (λ l. refl) fits
applied_fit schema changes.End conn fits = live_fit schema _ conn (λ l. refl) fits
applied_fit schema (changes.Sent count) conn fits = live_fit schema _ conn (λ l. refl) fits
applied_fit schema (changes.Close reason) conn fits = closed_fit schema reason conn
applied_fit schema changes.Finish conn fits = finished_fit schema conn fits
applied_fit schema changes.Refuse conn fits = refused_fit schema conn fits
applied_fit schema (changes.Answer text) conn fits = live_fit schema _ conn (λ l. refl) fits
applied_fit schema changes.UsePlace conn fits = live_fit schema _ conn (λ l. refl) fits

-- ---- connections

module _ (schema : Schema) where
  -- the connection of a slot fits
  pub slot_fit : (n k : ℕ) (slots : List (Option Slot)) (slot : Slot) → get_or slots k None ≡ Some slot → ConnsFit schema (conns_from n slots) → ConnFits schema slot.conn
  slot_fit n k [] slot there fits = absurd (none_is slot there)
  slot_fit n zero (None ∷ slots) slot there fits = absurd (none_is slot there)
  slot_fit n zero (Some first ∷ slots) slot there fits = subst (λ (s : Slot). ConnFits schema s.conn) (some_is first slot there) fits.0
  slot_fit n (suc k) (None ∷ slots) slot there fits = slot_fit (n + 1) k slots slot there fits
  slot_fit n (suc k) (Some first ∷ slots) slot there fits = slot_fit (n + 1) k slots slot there fits.1

  -- one slot is another
  pub set_fit : (n k : ℕ) (slots : List (Option Slot)) (slot : Slot) → ConnFits schema slot.conn → ConnsFit schema (conns_from n slots) → ConnsFit schema (conns_from n (set slots k (Some slot)))
  set_fit n k [] slot new fits = tt
  set_fit n zero (None ∷ slots) slot new fits = (new, fits)
  set_fit n zero (Some first ∷ slots) slot new fits = (new, fits.1)
  set_fit n (suc k) (None ∷ slots) slot new fits = set_fit (n + 1) k slots slot new fits
  set_fit n (suc k) (Some first ∷ slots) slot new fits = (fits.0, set_fit (n + 1) k slots slot new fits.1)

  -- one goes
  pub unset_fit : (n k : ℕ) (slots : List (Option Slot)) → ConnsFit schema (conns_from n slots) → ConnsFit schema (conns_from n (set slots k None))
  unset_fit n k [] fits = tt
  unset_fit n zero (None ∷ slots) fits = fits
  unset_fit n zero (Some first ∷ slots) fits = fits.1
  unset_fit n (suc k) (None ∷ slots) fits = unset_fit (n + 1) k slots fits
  unset_fit n (suc k) (Some first ∷ slots) fits = (fits.0, unset_fit (n + 1) k slots fits.1)

  -- one comes
  both_fit : (before after : List (ConnId × Conn)) (c : ConnId × Conn) → ConnFits schema c.1 → ConnsFit schema (before ++ after) → ConnsFit schema (before ++ c ∷ after)
  both_fit [] after c new fits = (new, fits)
  both_fit (b ∷ before) after c new fits = (fits.0, both_fit before after c new fits.1)

  pub joined_fit : (old new : List (ConnId × Conn)) (id : ConnId) (conn : Conn) → Joins old new id conn → ConnFits schema conn → ConnsFit schema old → ConnsFit schema new
  joined_fit old new id conn joins comes fits =
      subst (ConnsFit schema) (sym joins.is) (both_fit joins.before joins.after (id, conn) comes (subst (ConnsFit schema) joins.was fits))

  -- what is found fits
  pub found_fit : (cs : List (ConnId × Conn)) (id : ConnId) (conn : Conn) → conn_at cs id ≡ Some conn → ConnsFit schema cs → ConnFits schema conn
  found_fit [] id conn is fits = absurd (none_is_some is)
  found_fit (c ∷ cs) id conn is fits =
      ⊎_elim
      (λ same. let here : conn_at (c ∷ cs) id ≡ Some c.1 = rw same refl in subst (ConnFits schema) (some_same (sym here ∙ is)) fits.0)
      (λ other. let later : conn_at (c ∷ cs) id ≡ conn_at cs id = rw other refl in found_fit cs id conn (sym later ∙ is) fits.1)
      (cases_Bool (same_id c.0 id))

-- ---- what they ask for

all_of : (schema : Schema) (xs ys : List Item) → AllByRecursion (ItemFits schema) xs → AllByRecursion (ItemFits schema) ys → AllByRecursion (ItemFits schema) (xs ++ ys)
all_of schema [] ys first second = second
all_of schema (x ∷ xs) ys first second = (first.0, all_of schema xs ys first.1 second)

module _ (schema : Schema) (valid : IsValid schema) where
  conn_items_fit : (id : ConnId) (conn : Conn) → ConnFits schema conn → AllByRecursion (ItemFits schema) (items_of schema id conn)
  conn_items_fit id (conns.Live l) fits = items_fit schema id (asked schema (conns.Live l)) (asked_fit schema valid (conns.Live l) fits)
  conn_items_fit id (conns.Closed reason) fits = tt

  at_fit : (cs : List (ConnId × Conn)) (id : ConnId) (o : Option Conn) → conn_at cs id ≡ o → ConnsFit schema cs → AllByRecursion (ItemFits schema) (items_at schema cs id)
  at_fit cs id None is fits = rw is tt
  at_fit cs id (Some conn) is fits = rw is (conn_items_fit id conn (found_fit schema cs id conn is fits))

  -- the items of a batch
  pub batch_fit : (cs : List (ConnId × Conn)) (ids : List ConnId) → ConnsFit schema cs → AllByRecursion (ItemFits schema) (batch_of schema cs ids)
  batch_fit cs [] fits = tt
  batch_fit cs (id ∷ ids) fits =
      all_of schema (items_at schema cs id) (batch_of schema cs ids) (at_fit cs id (conn_at cs id) refl fits) (batch_fit cs ids fits)
