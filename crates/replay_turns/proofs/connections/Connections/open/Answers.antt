use Rattle.std.proofs.Common.{◌≡◌, ◌∙◌, ◌++◌, ◌∷◌, [], List, Option, sym, ap, subst}
use Rattle.std.specs.Prelude.{unwrap_or}
use Rattle.hs_outside.specs.MemoryLink.{LinkInMemory, fresh_link}
use Rattle.line_pipeline.specs.declared.conns.Conn.{Conn}
use Rattle.line_pipeline.specs.declared.conns.Conn.TheVariants as conns
use Rattle.line_pipeline.specs.Live.{fresh}
use Rattle.line_pipeline.specs.Conn.{secret_of}
use Rattle.line_pipeline.specs.Table.{Table}
use Rattle.replay_turns.specs.declared.entries.Entry.{Entry}
use Rattle.replay_turns.specs.Linked.{Linked, opened}
use Rattle.replay_turns.specs.Connected.{Connected}
use Rattle.replay_turns.specs.Entries.{all_linked, beside, AreEntries}
use Rattle.replay_turns.proofs.Lookups.{link-is}
use Rattle.replay_turns.proofs.Joined.{entries_joined, linked_joined}
use Rattle.replay_turns.proofs.connections.Connections.open.Goals as goal

pub invariant_of-self-2 : goal.invariant_of-self-2
invariant_of-self-2 c =
    let t = c.self.inside.links in
    let u = c.add.new.self in
    let es = c.self.inside.entries.items in
    let f : Entry = record { number = c.args.number; port = c.args.port; id = c.in-Ok.id } in
    let items = c.push_reserved.ensures.items ∙ ap (λ (xs : List Entry). xs ++ f ∷ []) c.in_ok-reserve.ensures.items in
    subst (λ (xs : List Entry). AreEntries u.table.conns xs) (sym items)
    (entries_joined t.table.conns u.table.conns t.links u.links f _ c.new.result c.in-Ok.ensures.joins c.in-Ok.ensures.unheld
    (link-is u.links c.in-Ok.id c.new.result c.in-Ok.ensures.link)
    (λ x held. ap (λ (o : Option LinkInMemory). unwrap_or o fresh_link) (c.in-Ok.ensures.others x held))
    es c.self.invariant)

pub returns-clause-opened : goal.returns-clause-opened
returns-clause-opened c =
    let t = c.self.inside.links in
    let u = c.add.new.self in
    let es = c.self.inside.entries.items in
    let f : Entry = record { number = c.args.number; port = c.args.port; id = c.in-Ok.id } in
    let conn : Conn = conns.Live (fresh (secret_of t.table.secrets c.args.port) c.args.port) in
    let items = c.push_reserved.ensures.items ∙ ap (λ (xs : List Entry). xs ++ f ∷ []) c.in_ok-reserve.ensures.items in
    let conns_are = ap (all_linked u.table.conns u.links) items
    ∙ linked_joined t.table.conns u.table.conns t.links u.links f conn c.new.result c.in-Ok.ensures.joins c.in-Ok.ensures.unheld
    (link-is u.links c.in-Ok.id c.new.result c.in-Ok.ensures.link)
    (λ x held. ap (λ (o : Option LinkInMemory). unwrap_or o fresh_link) (c.in-Ok.ensures.others x held))
    es c.self.invariant
    ∙ ap (λ (l : LinkInMemory). all_linked t.table.conns t.links es ++ beside conn l f ∷ []) c.new.ensures in
    let rest = c.in-Ok.ensures.counted in
    subst (λ (v : Connected). record { schema = u.table.schema; secrets = u.table.secrets; conns = all_linked u.table.conns u.links c.push_reserved.new.self.items } ≡ record v { conns = v.conns ++ opened v.secrets c.args.number c.args.port ∷ [] }) c.self.view_is
    (ap (λ (x : Table). record { schema = x.schema; secrets = x.secrets; conns = all_linked u.table.conns u.links c.push_reserved.new.self.items }) rest
    ∙ ap (λ (ls : List Linked). record { schema = t.table.schema; secrets = t.table.secrets; conns = ls }) conns_are)

pub returns-clause-schema : goal.returns-clause-schema
returns-clause-schema c = ap (λ (x : Table). x.schema) c.in-Ok.ensures.counted ∙ ap (λ (v : Connected). v.schema) c.self.view_is
