-- A live connection, and what becomes of the lines that it holds.
use Rattle.std.specs.Prelude.{ℕ, ◌-◌, ◌&&◌, ◌||◌, Bool, false, not, List, [], ◌∷◌, length, take, drop, nat_lt, map, Option, Some, None, if◌then◌else◌}
use Rattle.hs_line.specs.Lines.{whole_lines, is_too_long, has_lf, joined}
use Rattle.hs_line.specs.declared.limits.TheConstants.{BUFFER_SIZE}
use Rattle.request_types.specs.declared.ports.Port.{Port}
use Rattle.request_types.specs.declared.connections.ConnId.{ConnId}
use Rattle.row_types.specs.declared.tables.Schema.{Schema}
use Rattle.open_index.specs.declared.handles.Handle.{Handle}
use Rattle.open_index.specs.declared.requests.Auth.{Auth}
use Rattle.open_index.specs.declared.requests.Resolved.{Resolved}
use Rattle.open_index.specs.declared.requests.Resolved.TheVariants as became
use Rattle.open_index.specs.Line.{reads}
use Rattle.request_types.specs.declared.batches.Item.{Item}
use Rattle.request_types.specs.declared.batches.ItemKind.{ItemKind}
use Rattle.request_types.specs.declared.batches.ItemKind.TheVariants as kinds
use Rattle.line_pipeline.specs.declared.reasons.Reason.{Reason}
use Rattle.line_pipeline.specs.declared.reasons.Reason.TheVariants as reasons
use Rattle.line_pipeline.specs.declared.limits.TheConstants.{MAX_UNSENT, MAX_LINES}

-- A connection that isn't closed: the port that it came to, the bytes that it sent and that weren't taken yet, the open ids and the
-- auth that its lines so far left, the bytes for it that weren't sent yet, whether its peer has ended and all its bytes are here, and
-- whether there is a place for one more text of output.
pub record Live : Type 0 where
  pub port : Port
  pub held : List ℕ
  pub handles : List (ℕ × Handle)
  pub auth : Auth
  pub unsent : List ℕ
  pub met_end : Bool
  pub has_place : Bool

-- A connection that has just come: it holds nothing, and no line was read.
abbrev pub fresh : Option (List ℕ) → Port → Live
fresh secret port = record {
  port = port;
  held = [];
  handles = [];
  auth = record { secret = secret; passed = false };
  unsent = [];
  met_end = false;
  has_place = false;
}

-- Whether so much output waits that its lines have to wait too.
abbrev pub is_clogged : Live → Bool
is_clogged l = nat_lt MAX_UNSENT (length l.unsent)

-- How many more bytes are received.
abbrev pub room_of : Live → ℕ
room_of l = if is_clogged l then 0 else BUFFER_SIZE - length l.held

-- The lines that one turn takes: as many as one may take, up to the first that is too long.
abbrev pub taken_lines : Live → List (List ℕ)
taken_lines l = if is_clogged l then [] else take MAX_LINES (whole_lines l.held)

-- The bytes behind these lines and their line feeds, which stand at the front.
abbrev pub behind : List (List ℕ) → List ℕ → List ℕ
behind lines bytes = drop (length (joined lines [])) bytes

-- What a line asks of a batch.
abbrev pub kind_of : Resolved → ItemKind
kind_of (became.Reply code) = kinds.Ready code
kind_of became.Opened = kinds.Ready 0
kind_of became.Authed = kinds.Ready 0
kind_of (became.Ask request) = kinds.Hs request

-- What the lines ask for, each read with the open ids and the auth that the line before left.
abbrev pub kinds_of : Schema → Port → List (ℕ × Handle) → Auth → List (List ℕ) → List ItemKind
kinds_of schema port handles auth [] = []
kinds_of schema port handles auth (line ∷ lines) =
    let r = reads schema port handles auth line in kind_of r.0 ∷ kinds_of schema port r.1 r.2 lines

-- The open ids and the auth that the lines leave.
abbrev pub left_by : Schema → Port → List (ℕ × Handle) → Auth → List (List ℕ) → List (ℕ × Handle) × Auth
left_by schema port handles auth [] = (handles, auth)
left_by schema port handles auth (line ∷ lines) =
    let r = reads schema port handles auth line in left_by schema port r.1 r.2 lines

-- What a connection asks for.
abbrev pub item_of : ConnId → ItemKind → Item
item_of conn kind = record { conn = conn; kind = kind }

-- What the lines that one turn takes ask for.
abbrev pub items_of : Schema → ConnId → Live → List Item
items_of schema conn l = map (item_of conn) (kinds_of schema l.port l.handles l.auth (taken_lines l))

-- The connection without those lines. Where there are some, a place for their replies is reserved.
abbrev pub took : Schema → Live → Live
took schema l = record l {
  held = behind (taken_lines l) l.held;
  handles = (left_by schema l.port l.handles l.auth (taken_lines l)).0;
  auth = (left_by schema l.port l.handles l.auth (taken_lines l)).1;
  has_place = l.has_place || nat_lt 0 (length (taken_lines l));
}

-- Why a connection with no output is to be closed: its next line is too long, or its peer has ended and no whole line is held.
abbrev pub ending : Live → Option Reason
ending l =
    if nat_lt 0 (length l.unsent) then None
    else if is_too_long l.held then Some reasons.TooLong
    else if l.met_end && not (has_lf l.held) then Some reasons.Ended
    else None
