-- What a line means fits a valid schema, and so do the open ids behind it.
use Rattle.std.proofs.Common.{◌≡◌, ℕ, List, [], ◌∷◌, Ok, sym, subst}
use Rattle.std.specs.Ordering.{nat_cmp}
use Rattle.std.proofs.lemmas.Map.Views.{All-values-insert_entry}
use Rattle.hs_token.specs.declared.tokens.Token.{Token}
use Rattle.hs_token.specs.Reading.{line_at}
use Rattle.request_types.specs.declared.ports.Port.{Port}
use Rattle.row_types.specs.declared.tables.Schema.{Schema}
use Rattle.row_types.specs.Valid.{IsValid}
use Rattle.request_types.specs.declared.codes.Code.TheVariants as refused
use Rattle.open_index.specs.declared.handles.Handle.{Handle}
use Rattle.open_index.specs.declared.requests.Auth.{Auth}
use Rattle.open_index.specs.declared.meanings.Meaning.{Meaning}
use Rattle.open_index.specs.declared.meanings.Meaning.TheVariants as means
use Rattle.open_index.specs.declared.meanings.Command.{Command}
use Rattle.open_index.specs.declared.meanings.Command.TheVariants as commands
use Rattle.open_index.specs.Open.{open_of, opened}
use Rattle.open_index.specs.Line.{command_of, request_of, tells, is_secret, is_locked, command_means, spelled, tokens_mean, line_means}
use Rattle.open_index.specs.Fits.{HandleFits, HandlesFit}
use Rattle.request_types.specs.Fits.{RequestFits}
use Rattle.open_index.proofs.Cases.{bind_ok, guard_ok, need_ok, ok_same}
use Rattle.open_index.proofs.OpensFit.{open_fits}
use Rattle.open_index.proofs.RequestsFit.{request_fits}

-- What a line means fits a schema.
abbrev pub MeaningFits : Schema → Meaning → Type 0
MeaningFits schema (means.Opens id handle) = HandleFits schema handle
MeaningFits schema means.Tells = Unit {0}
MeaningFits schema (means.Asks request) = RequestFits schema request

tells_fits : (schema : Schema) (auth : Auth) (ts : List Token) (m : Meaning) → tells auth ts ≡ Ok m → MeaningFits schema m
unfolding tells
tells_fits schema auth [] m e = absurd cc
tells_fits schema auth (a ∷ []) m e = absurd cc
tells_fits schema auth (kind ∷ key ∷ []) m e =
    let one = guard_ok _ refused.Args _ m e in
    let told = need_ok (is_secret auth.secret key) refused.AuthKey (Ok means.Tells) m one.1 in
    subst (MeaningFits schema) (ok_same means.Tells m told.1) tt
tells_fits schema auth (a ∷ b ∷ c ∷ ts) m e = absurd cc

command_fits : (schema : Schema) (port : Port) (handles : List (ℕ × Handle)) (auth : Auth) (c : Command) (ts : List Token) (m : Meaning) → IsValid schema → HandlesFit schema handles → command_means schema port handles auth c ts ≡ Ok m → MeaningFits schema m
unfolding command_means
command_fits schema port handles auth commands.Tell ts m valid fit e = tells_fits schema auth ts m e
command_fits schema port handles auth commands.Open ts m valid fit e =
    let free = guard_ok (is_locked auth) refused.Unauth _ m e in
    let o = bind_ok (open_of schema handles ts) _ m free.1 in
    subst (MeaningFits schema) (ok_same (means.Opens (o.0).0 (o.0).1) m o.2) (open_fits schema handles ts o.0 valid o.1)
command_fits schema port handles auth (commands.Use id) ts m valid fit e =
    let free = guard_ok (is_locked auth) refused.Unauth _ m e in
    let r = bind_ok (request_of port handles id ts) _ m free.1 in
    subst (MeaningFits schema) (ok_same (means.Asks r.0) m r.2) (request_fits schema port handles id ts r.0 fit r.1)

tokens_fit : (schema : Schema) (port : Port) (handles : List (ℕ × Handle)) (auth : Auth) (ts : List Token) (m : Meaning) → IsValid schema → HandlesFit schema handles → tokens_mean schema port handles auth ts ≡ Ok m → MeaningFits schema m
unfolding tokens_mean
tokens_fit schema port handles auth [] m valid fit e = absurd cc
tokens_fit schema port handles auth (t ∷ ts) m valid fit e =
    let c = bind_ok (command_of t) _ m e in
    command_fits schema port handles auth c.0 ts m valid fit c.2

-- What a line means fits a valid schema, where the open ids do.
pub line_fits : (schema : Schema) (port : Port) (handles : List (ℕ × Handle)) (auth : Auth) (line : List ℕ) (m : Meaning) → IsValid schema → HandlesFit schema handles → line_means schema port handles auth line ≡ Ok m → MeaningFits schema m
unfolding line_means
line_fits schema port handles auth line m valid fit e =
    let ts = bind_ok (spelled (line_at line)) _ m e in
    tokens_fit schema port handles auth ts.0 m valid fit ts.2

-- One more open id, or one that is opened once more.
pub opened_fit : (schema : Schema) (handles after : List (ℕ × Handle)) (id : ℕ) (h : Handle) → HandlesFit schema handles → HandleFits schema h → after ≡ opened handles id h → HandlesFit schema after
opened_fit schema handles after id h fit fits e = subst (HandlesFit schema) (sym e) (All-values-insert_entry nat_cmp id h (HandleFits schema) handles fit fits)
