-- A word that begins no string of hexadecimal digits.
use Rattle.std.proofs.Common.{◌≡◌, ℕ, ◌+◌, Bool, true, false, List, drop, take, ap, sym, ◌∙◌, arith}
use Rattle.std.specs.Prelude.{if◌then◌else◌}
use Rattle.std.specs.List.{prefix_len}
use Rattle.sql_parse.specs.declared.token_kinds.TokenKind.{TokenKind}
use Rattle.sql_parse.specs.declared.token_kinds.TokenKind.TheVariants.{Hex}
use Rattle.sql_parse.specs.Strings.{hex_closing}
use Rattle.sql_parse.specs.Lex.{is_word_byte, begins_hex, keyword, of_len, word_at}

pub plain_word : (z : List ℕ) (n : ℕ) (kind : TokenKind) → begins_hex z ≡ false → n ≡ 0 + prefix_len is_word_byte z → kind ≡ keyword (take n z) → (kind, n) ≡ word_at z
plain_word z n kind plain is word =
    let end : n ≡ prefix_len is_word_byte z = omega (arith, is) in
    ap (λ (k : TokenKind). (k, n)) word ∙ ap (λ (m : ℕ). (keyword (take m z), m)) end
    ∙ ap (λ (b : Bool). if b then of_len Hex (hex_closing 2 (drop 2 z)) else (keyword (take (prefix_len is_word_byte z) z), prefix_len is_word_byte z)) (sym plain)
