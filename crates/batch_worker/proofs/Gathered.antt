-- Which connections are held after a batch was made, and after it was settled.
use Rattle.std.proofs.Common.{◌≡◌, Bool, true, false, List, [], ◌∷◌, Option, Some, None, option_map, is_some, refl, ap, subst, ◌∙◌, ⊎_elim}
use Rattle.std.specs.Prelude.{if◌then◌else◌}
use Rattle.std.proofs.lemmas.Bool.{cases_Bool}
use Rattle.request_types.specs.declared.connections.ConnId.{ConnId}
use Rattle.request_types.specs.declared.batches.Batch.{Batch}
use Rattle.request_types.specs.declared.batches.Part.{Part}
use Rattle.request_types.specs.declared.batches.Replies.{Replies}
use Rattle.request_types.specs.Ids.{same_id, is_listed}
use Rattle.request_types.proofs.Ids.{same_id-is}
use Rattle.line_pipeline.specs.declared.outcomes.Outcome.{Outcome}
use Rattle.line_pipeline.specs.declared.outcomes.Outcome.TheVariants as outcomes
use Rattle.line_pipeline.specs.declared.conns.Conn.{Conn}
use Rattle.line_pipeline.specs.declared.reasons.Reason.TheVariants as reasons
use Rattle.line_pipeline.specs.Conn.{place_used, closed}
use Rattle.line_pipeline.specs.Settled.{asked_by, told, all_told, settled}
use Rattle.line_pipeline.specs.Table.{conn_at, is_held, all_changed}
use Rattle.batch_worker.proofs.Lookups.{held-map}

-- a change of the listed alone
abbrev pub where_listed : List ConnId → (Conn → Conn) → ConnId → Conn → Conn
where_listed ids f x conn = if is_listed ids x then f conn else conn

all_head : (f : Conn → Conn) (ids : List ConnId) (c : ConnId × Conn) (cs : List (ConnId × Conn)) (x : ConnId) → conn_at (all_changed ids f cs) x ≡ option_map (where_listed ids f x) (conn_at cs x) → (b : Bool) → is_listed ids c.0 ≡ b → conn_at (all_changed ids f (c ∷ cs)) x ≡ option_map (where_listed ids f x) (conn_at (c ∷ cs) x)
all_head f ids c cs x later true is =
    ⊎_elim
    (λ same. let here : is_listed ids x ≡ true = subst (λ (i : ConnId). is_listed ids i ≡ true) (same_id-is c.0 x same) is in rw is (rw same (rw here refl)))
    (λ other. rw is (rw other later))
    (cases_Bool (same_id c.0 x))
all_head f ids c cs x later false is =
    ⊎_elim
    (λ same. let here : is_listed ids x ≡ false = subst (λ (i : ConnId). is_listed ids i ≡ false) (same_id-is c.0 x same) is in rw is (rw same (rw here refl)))
    (λ other. rw is (rw other later))
    (cases_Bool (same_id c.0 x))

pub conn_at-all : (f : Conn → Conn) (ids : List ConnId) (cs : List (ConnId × Conn)) (x : ConnId) → conn_at (all_changed ids f cs) x ≡ option_map (where_listed ids f x) (conn_at cs x)
conn_at-all f ids [] x = refl
conn_at-all f ids (c ∷ cs) x = all_head f ids c cs x (conn_at-all f ids cs x) (is_listed ids c.0) refl

pub conn_at-told : (parts : List Part) (cs : List (ConnId × Conn)) (x : ConnId) → conn_at (all_told parts cs) x ≡ option_map (λ (conn : Conn). told parts (x, conn)) (conn_at cs x)
conn_at-told parts [] x = refl
conn_at-told parts (c ∷ cs) x =
    ⊎_elim
    (λ same. rw same (ap (λ (i : ConnId). Some (told parts (i, c.1))) (same_id-is c.0 x same)))
    (λ other. rw other (conn_at-told parts cs x))
    (cases_Bool (same_id c.0 x))

pub all-held : (f : Conn → Conn) (ids : List ConnId) (cs : List (ConnId × Conn)) (x : ConnId) → is_held (all_changed ids f cs) x ≡ is_held cs x
all-held f ids cs x = ap (λ (o : Option Conn). is_some o) (conn_at-all f ids cs x) ∙ held-map (where_listed ids f x) (conn_at cs x)

told-held : (parts : List Part) (cs : List (ConnId × Conn)) (x : ConnId) → is_held (all_told parts cs) x ≡ is_held cs x
told-held parts cs x = ap (λ (o : Option Conn). is_some o) (conn_at-told parts cs x) ∙ held-map (λ (conn : Conn). told parts (x, conn)) (conn_at cs x)

pub settled-held : (cs : List (ConnId × Conn)) (batch : Batch) (outcome : Outcome) (x : ConnId) → is_held (settled cs batch outcome) x ≡ is_held cs x
settled-held cs batch (outcomes.Done replies) x = all-held place_used (asked_by batch) (all_told replies.parts cs) x ∙ told-held replies.parts cs x
settled-held cs batch outcomes.DiskFault x = all-held (closed reasons.BatchDisk) (asked_by batch) cs x
settled-held cs batch outcomes.NoMemory x = all-held (closed reasons.BatchMemory) (asked_by batch) cs x

-- ---- what settling makes of one

-- a batch that was done makes this of the connection of an id
abbrev pub done_conn : Batch → List Part → ConnId → Conn → Conn
done_conn batch parts x conn = where_listed (asked_by batch) place_used x (told parts (x, conn))

pub two_maps : (f g : Conn → Conn) (o : Option Conn) → option_map f (option_map g o) ≡ option_map (λ (conn : Conn). f (g conn)) o
two_maps f g None = refl
two_maps f g (Some conn) = refl

pub settled_at : (cs : List (ConnId × Conn)) (batch : Batch) (replies : Replies) (x : ConnId) → conn_at (settled cs batch (outcomes.Done replies)) x ≡ option_map (done_conn batch replies.parts x) (conn_at cs x)
settled_at cs batch replies x =
    conn_at-all place_used (asked_by batch) (all_told replies.parts cs) x
    ∙ ap (option_map (where_listed (asked_by batch) place_used x)) (conn_at-told replies.parts cs x)
    ∙ two_maps (where_listed (asked_by batch) place_used x) (λ (conn : Conn). told replies.parts (x, conn)) (conn_at cs x)
