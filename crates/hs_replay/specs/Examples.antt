-- The first script that a reader meets, and what it prints. The byte 1 stands before a letter that means a tab (I) or a line feed (J).
use Rattle.std.specs.Prelude.{ℕ, List, ◌∷◌, ◌++◌, codes}

-- A table of people: a number `id`, a text `name` of 32 bytes at most that may be NULL, and a number `n`.
abbrev pub people_line : List ℕ
people_line =
    codes "table\ttest\tt\tc\tid\tint\tnot\t" ++ 0 ∷ codes "\tc\tname\tbytes:32\tnull\t" ++ 0 ∷ codes "\tc\tn\tint\tnot\t0"
    ++ codes "\ti\tPRIMARY\tprimary\tid\ti\tby_n\tindex\tn\ti\tby_name\tunique\tname\n"

-- A peer opens an index, inserts a row and finds it.
abbrev pub peer_line : List ℕ
peer_line =
    codes "bytes\t1\tP" ++ 1 ∷ codes "I1" ++ 1 ∷ codes "Itest" ++ 1 ∷ codes "It" ++ 1 ∷ codes "IPRIMARY" ++ 1 ∷ codes "Iid,name,n" ++ 1 ∷ codes "J1"
    ++ 1 ∷ codes "I+" ++ 1 ∷ codes "I3" ++ 1 ∷ codes "I1" ++ 1 ∷ codes "Iann" ++ 1 ∷ codes "I5" ++ 1 ∷ codes "J1"
    ++ 1 ∷ codes "I=" ++ 1 ∷ codes "I1" ++ 1 ∷ codes "I1" ++ 1 ∷ codes "J\n"

-- The table, a connection on the writing port, and what its peer sends.
abbrev pub before_a_turn : List ℕ
before_a_turn = people_line ++ codes "open\t1\tw\n" ++ peer_line

-- Then one turn.
abbrev pub first_script : List ℕ
first_script = before_a_turn ++ codes "turn\tw\t1\n"

-- The connection is sent three replies, and the last one has the row.
abbrev pub first_text : List ℕ
first_text =
    codes "sent\t1\t0" ++ 1 ∷ codes "I1" ++ 1 ∷ codes "J0" ++ 1 ∷ codes "I1" ++ 1 ∷ codes "J0"
    ++ 1 ∷ codes "I3" ++ 1 ∷ codes "I1" ++ 1 ∷ codes "Iann" ++ 1 ∷ codes "I5" ++ 1 ∷ codes "J\n"
