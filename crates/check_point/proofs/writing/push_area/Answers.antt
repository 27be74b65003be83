use Rattle.std.proofs.Common.{◌≡◌, ℕ, ◌-◌, ◌++◌, List, [], ◌∷◌, length, ap, refl, rules, ◌∙◌, arith, length-append}
use Rattle.std.specs.Int.{w64, to_be_bytes}
use Rattle.table_rows.specs.Database.{database_of}
use Rattle.check_point.specs.Area.{area_of}
use Rattle.check_point.proofs.Patched.{patched}
use Rattle.check_point.proofs.writing.push_area.Goals as goal

pub returns-clause-bytes : goal.returns-clause-bytes
returns-clause-bytes c =
    let old = c.args.out.now.items in
    let number = to_be_bytes w64 c.args.records in
    let zeros : List ℕ = 0 ∷ 0 ∷ 0 ∷ 0 ∷ [] in
    let area = area_of (database_of c.args.tables.now) in
    let first = c.extend_from_slice.new.self.items in
    let second = c.extend_from_slice-2.new.self.items in
    let at : c.len-place.result ≡ length first = search rules in
    let all : c.len.result ≡ length c.push_tables.new.out.items = search rules in
    let len = c.len.result - c.len-place.result - 4 in
    let long : len ≡ length area = omega (arith, all, at, ap length c.in_ok-push_tables.ensures.bytes, length-append second area, ap length c.in_ok-extend_from_slice-2.ensures.items, length-append first zeros) in
    patched old number zeros area first second _ _ _ c.len-place.result len (c.in_ok-extend_from_slice.ensures.items ∙ ap (λ bytes. old ++ bytes) c.to_be_bytes.ensures) at c.in_ok-extend_from_slice-2.ensures.items refl c.in_ok-push_tables.ensures.bytes long c.set_four.ensures c.in_ok-push.ensures.items
