-- Readings that go from the left: what stands behind the token of a fault has no part in it.
use Rattle.std.proofs.Common.{◌≡◌, ◌∙◌, ℕ, zero, suc, ◌+◌, ◌<◌, ◌≤◌, Bool, true, false, cond, leb, List, [], ◌∷◌, length, take, Option, Some, None, Ok, Err, refl, sym, ap, arith, inl, inr}
use Rattle.std.specs.Prelude.{Result, slice_get}
use Rattle.std.specs.Option.{is_none}
use Rattle.std.proofs.lemmas.Bool.{cases_lt, lt-leb, le-leb}
use Rattle.hs_token.specs.declared.tokens.Token.{Token}
use Rattle.hs_token.specs.declared.tokens.Token.TheVariants as tokens
use Rattle.hs_schema.specs.declared.faults.SchemaRule.{SchemaRule}
use Rattle.hs_schema.specs.Reading.{◌>>=◌, Breach, broken, text_in, known}

-- lines with the same tokens at the first places
abbrev pub Agree : ℕ → List Token → List Token → Type 0
Agree m line other = (k : ℕ) → k < m → slice_get line k ≡ slice_get other k

-- a fault that comes before the line's end comes from this place on, and in each line with the same tokens up to it
pub record FailsLeft {A : Type 0} (from : ℕ) (read : List Token → Result A Breach) : Type 0 where
  pub later : (line : List Token) (b : Breach) → read line ≡ Err b → b.token < length line → from ≤ b.token
  pub alike : (line other : List Token) (b : Breach) → read line ≡ Err b → b.token < length line → Agree (b.token + 1) line other → read other ≡ Err b

-- a value that was read up to a place, from this one on, is read in each line with the same tokens up to it
pub record ReadsLeft {A : Type 0} (from : ℕ) (end : A → ℕ) (read : List Token → Result A Breach) : Type 0 where
  pub later : (line : List Token) (x : A) → read line ≡ Ok x → from ≤ end x
  pub alike : (line other : List Token) (x : A) → read line ≡ Ok x → Agree (end x) line other → read other ≡ Ok x

less : (m n : ℕ) (line other : List Token) → m ≤ n → Agree n line other → Agree m line other
less m n line other le agree = λ k lt. agree k (omega arith)

pub fails_from : {A : Type 0} (lo hi : ℕ) (read : List Token → Result A Breach) → lo ≤ hi → FailsLeft hi read → FailsLeft lo read
fails_from lo hi read le is = record { later = λ line b e lt. omega (arith, is.later line b e lt); alike = is.alike }

pub reads_from : {A : Type 0} (lo hi : ℕ) (end : A → ℕ) (read : List Token → Result A Breach) → lo ≤ hi → ReadsLeft hi end read → ReadsLeft lo end read
reads_from lo hi end read le is = record { later = λ line x e. omega (arith, is.later line x e); alike = is.alike }

pub bind_fails : {A B : Type 0} (lo : ℕ) (mid : A → ℕ) (end : A → ℕ) (read : List Token → Result A Breach) (more : A → List Token → Result B Breach) → FailsLeft lo read → ReadsLeft lo end read → ((x : A) → FailsLeft (mid x) (more x)) → ((x : A) → end x ≤ mid x + 1) → ((x : A) → lo ≤ mid x) → FailsLeft lo (λ line. read line >>= λ x. more x line)
bind_fails {A} {B} lo mid end read more fails reads rest near after = record {
  later = λ line b e lt. go_later line b (read line) refl e lt;
  alike = λ line other b e lt agree. go_alike line other b (read line) refl e lt agree;
} where
  go_later : (line : List Token) (b : Breach) (r : Result A Breach) → read line ≡ r → (r >>= λ x. more x line) ≡ Err b → b.token < length line → lo ≤ b.token
  go_later line b (Ok x) is e lt = omega (arith, (rest x).later line b e lt, after x)
  go_later line b (Err c) is e lt = fails.later line b (is ∙ cc) lt

  go_alike : (line other : List Token) (b : Breach) (r : Result A Breach) → read line ≡ r → (r >>= λ x. more x line) ≡ Err b → b.token < length line → Agree (b.token + 1) line other → (read other >>= λ x. more x other) ≡ Err b
  go_alike line other b (Ok x) is e lt agree =
      let le : end x ≤ b.token + 1 = omega (arith, (rest x).later line b e lt, near x) in
      let same : read other ≡ Ok x = reads.alike line other x is (less (end x) (b.token + 1) line other le agree) in
      rw same ((rest x).alike line other b e lt agree)
  go_alike line other b (Err c) is e lt agree =
      let one : read line ≡ Err b = is ∙ cc in
      let same : read other ≡ Err b = fails.alike line other b one lt agree in
      rw same refl

pub bind_reads : {A B : Type 0} (lo : ℕ) (mid : A → ℕ) (end : B → ℕ) (read : List Token → Result A Breach) (more : A → List Token → Result B Breach) → ReadsLeft lo mid read → ((x : A) → ReadsLeft (mid x) end (more x)) → ReadsLeft lo end (λ line. read line >>= λ x. more x line)
bind_reads {A} {B} lo mid end read more reads rest = record {
  later = λ line y e. go_later line y (read line) refl e;
  alike = λ line other y e agree. go_alike line other y (read line) refl e agree;
} where
  go_later : (line : List Token) (y : B) (r : Result A Breach) → read line ≡ r → (r >>= λ x. more x line) ≡ Ok y → lo ≤ end y
  go_later line y (Ok x) is e = omega (arith, (rest x).later line y e, reads.later line x is)
  go_later line y (Err c) is e = absurd cc

  go_alike : (line other : List Token) (y : B) (r : Result A Breach) → read line ≡ r → (r >>= λ x. more x line) ≡ Ok y → Agree (end y) line other → (read other >>= λ x. more x other) ≡ Ok y
  go_alike line other y (Ok x) is e agree =
      let same : read other ≡ Ok x = reads.alike line other x is (less (mid x) (end y) line other ((rest x).later line y e) agree) in
      rw same ((rest x).alike line other y e agree)
  go_alike line other y (Err c) is e agree = absurd cc

-- the last step, whose faults are at the line's end
pub bind_last : {A B : Type 0} (lo : ℕ) (read : List Token → Result A Breach) (more : A → List Token → Result B Breach) → FailsLeft lo read → ((x : A) (line : List Token) (b : Breach) → more x line ≡ Err b → b.token ≡ length line) → FailsLeft lo (λ line. read line >>= λ x. more x line)
bind_last {A} {B} lo read more fails ends = record {
  later = λ line b e lt. fails.later line b (go line b (read line) refl e lt) lt;
  alike = λ line other b e lt agree.
      let same : read other ≡ Err b = fails.alike line other b (go line b (read line) refl e lt) lt agree in
      rw same refl;
} where
  go : (line : List Token) (b : Breach) (r : Result A Breach) → read line ≡ r → (r >>= λ x. more x line) ≡ Err b → b.token < length line → read line ≡ Err b
  go line b (Ok x) is e lt = absurd (omega (arith, ends x line b e))
  go line b (Err c) is e lt = is ∙ cc

-- faults at one place
abbrev pub At : {A : Type 0} → ℕ → Result A Breach → Type 0
At place r = (b : Breach) → r ≡ Err b → b.token ≡ place

pub at_ok : {A : Type 0} (place : ℕ) (x : A) → (b : Breach) → (let r : Result A Breach = Ok x in r) ≡ Err b → b.token ≡ place
at_ok place x b e = absurd cc

pub at_broken : {A : Type 0} (rule : SchemaRule) (place : ℕ) → (b : Breach) → (let r : Result A Breach = broken rule place in r) ≡ Err b → b.token ≡ place
at_broken rule place b e =
    let is : record { rule = rule; token = place } ≡ b = cc in
    ap (λ (b : Breach). b.token) (sym is)

pub at_cond : {A : Type 0} (place : ℕ) (c : Bool) (r s : Result A Breach) → At place r → At place s → At place (cond c r s)
at_cond place true r s a b = a
at_cond place false r s a b = b

pub at_bind : {A B : Type 0} (place : ℕ) (r : Result A Breach) (f : A → Result B Breach) → At place r → ((x : A) → At place (f x)) → At place (r >>= f)
at_bind place (Ok x) f a each = each x
at_bind place (Err c) f a each = λ b e. a b cc

pub at_known : {A : Type 0} (place : ℕ) (o : Option A) → At place (known place o)
at_known place None = at_broken _ place
at_known place (Some x) = at_ok place x

pub at_text : (place : ℕ) (o : Option Token) → At place (text_in place o)
at_text place None = at_broken _ place
at_text place (Some tokens.Null) = at_broken _ place
at_text place (Some (tokens.Text text)) = at_ok place text

-- what one token decides, or none
pub one_fails : {A : Type 0} (place : ℕ) (tell : Option Token → Result A Breach) → ((o : Option Token) → At place (tell o)) → FailsLeft place (λ line. tell (slice_get line place))
one_fails place tell is = record {
  later = λ line b e lt. omega (arith, is (slice_get line place) b e);
  alike = λ line other b e lt agree.
      let here : place < b.token + 1 = omega (arith, is (slice_get line place) b e) in
      ap tell (sym (agree place here)) ∙ e;
}

pub one_reads : {A : Type 0} (lo place : ℕ) (tell : Option Token → Result A Breach) → lo ≤ place + 1 → ReadsLeft lo (λ x. place + 1) (λ line. tell (slice_get line place))
one_reads lo place tell le = record {
  later = λ line x e. le;
  alike = λ line other x e agree. ap tell (sym (agree place (omega arith))) ∙ e;
}

pub none_fails : {A : Type 0} (place : ℕ) (r : Result A Breach) → At place r → FailsLeft place (λ line. r)
none_fails place r is = record {
  later = λ line b e lt. omega (arith, is b e);
  alike = λ line other b e lt agree. e;
}

pub none_reads : {A : Type 0} (lo : ℕ) (end : A → ℕ) (r : Result A Breach) → ((x : A) → r ≡ Ok x → lo ≤ end x) → ReadsLeft lo end (λ line. r)
none_reads lo end r is = record { later = λ line x e. is x e; alike = λ line other x e agree. e }

-- a choice by one token
pub choice_fails : {A : Type 0} (place : ℕ) (test : Option Token → Bool) (taken passed : List Token → Result A Breach) → FailsLeft place taken → FailsLeft place passed → FailsLeft place (λ line. cond (test (slice_get line place)) (taken line) (passed line))
choice_fails {A} place test taken passed y n = record {
  later = λ line b e lt. go_later line b (test (slice_get line place)) e lt;
  alike = λ line other b e lt agree. go line other b (test (slice_get line place)) refl e lt agree;
} where
  go_later : (line : List Token) (b : Breach) (c : Bool) → cond c (taken line) (passed line) ≡ Err b → b.token < length line → place ≤ b.token
  go_later line b true e lt = y.later line b e lt
  go_later line b false e lt = n.later line b e lt

  same : (line other : List Token) (b : Breach) (c : Bool) → place ≤ b.token → test (slice_get line place) ≡ c → Agree (b.token + 1) line other → test (slice_get other place) ≡ c
  same line other b c le is agree = ap test (sym (agree place (omega arith))) ∙ is

  go : (line other : List Token) (b : Breach) (c : Bool) → test (slice_get line place) ≡ c → cond c (taken line) (passed line) ≡ Err b → b.token < length line → Agree (b.token + 1) line other → cond (test (slice_get other place)) (taken other) (passed other) ≡ Err b
  go line other b true is e lt agree = rw (same line other b true (y.later line b e lt) is agree) (y.alike line other b e lt agree)
  go line other b false is e lt agree = rw (same line other b false (n.later line b e lt) is agree) (n.alike line other b e lt agree)

pub choice_reads : {A : Type 0} (place : ℕ) (end : A → ℕ) (test : Option Token → Bool) (taken passed : List Token → Result A Breach) → ReadsLeft (place + 1) end taken → ReadsLeft (place + 1) end passed → ReadsLeft (place + 1) end (λ line. cond (test (slice_get line place)) (taken line) (passed line))
choice_reads {A} place end test taken passed y n = record {
  later = λ line x e. go_later line x (test (slice_get line place)) e;
  alike = λ line other x e agree. go line other x (test (slice_get line place)) refl e agree;
} where
  go_later : (line : List Token) (x : A) (c : Bool) → cond c (taken line) (passed line) ≡ Ok x → place + 1 ≤ end x
  go_later line x true e = y.later line x e
  go_later line x false e = n.later line x e

  same : (line other : List Token) (x : A) (c : Bool) → place + 1 ≤ end x → test (slice_get line place) ≡ c → Agree (end x) line other → test (slice_get other place) ≡ c
  same line other x c le is agree = ap test (sym (agree place (omega arith))) ∙ is

  go : (line other : List Token) (x : A) (c : Bool) → test (slice_get line place) ≡ c → cond c (taken line) (passed line) ≡ Ok x → Agree (end x) line other → cond (test (slice_get other place)) (taken other) (passed other) ≡ Ok x
  go line other x true is e agree = rw (same line other x true (y.later line x e) is agree) (y.alike line other x e agree)
  go line other x false is e agree = rw (same line other x false (n.later line x e) is agree) (n.alike line other x e agree)

-- the end of a line, as its tokens tell it
past : (line : List Token) (place : ℕ) → length line ≤ place → is_none (slice_get line place) ≡ true
past [] place le = refl
past (t ∷ ts) zero le = absurd (omega arith)
past (t ∷ ts) (suc place) le = past ts place (omega arith)

within : (line : List Token) (place : ℕ) → place < length line → is_none (slice_get line place) ≡ false
within [] place lt = absurd (omega arith)
within (t ∷ ts) zero lt = refl
within (t ∷ ts) (suc place) lt = within ts place (omega arith)

pub end_is : (line : List Token) (place : ℕ) → leb (length line) place ≡ is_none (slice_get line place)
end_is line place =
    elim (cases_lt place (length line)) [
      | inl lt ↦ lt-leb (length line) place lt ∙ sym (within line place lt)
      | inr le ↦ le-leb (length line) place le ∙ sym (past line place le)
    ]

pub fails_same : {A : Type 0} (lo : ℕ) (read like : List Token → Result A Breach) → ((line : List Token) → read line ≡ like line) → FailsLeft lo like → FailsLeft lo read
fails_same lo read like is fails = record {
  later = λ line b e lt. fails.later line b (sym (is line) ∙ e) lt;
  alike = λ line other b e lt agree. is other ∙ fails.alike line other b (sym (is line) ∙ e) lt agree;
}

pub reads_same : {A : Type 0} (lo : ℕ) (end : A → ℕ) (read like : List Token → Result A Breach) → ((line : List Token) → read line ≡ like line) → ReadsLeft lo end like → ReadsLeft lo end read
reads_same lo end read like is reads = record {
  later = λ line x e. reads.later line x (sym (is line) ∙ e);
  alike = λ line other x e agree. is other ∙ reads.alike line other x (sym (is line) ∙ e) agree;
}

-- lines that begin alike
pub agree_taken : (m : ℕ) (line other : List Token) → take m line ≡ take m other → Agree m line other
agree_taken m line other e = λ k lt. sym (get_taken m k line lt) ∙ (ap (λ ts. slice_get ts k) e ∙ get_taken m k other lt) where
  get_taken : (m k : ℕ) (line : List Token) → k < m → slice_get (take m line) k ≡ slice_get line k
  get_taken zero k line lt = absurd (omega arith)
  get_taken (suc m) k [] lt = refl
  get_taken (suc m) zero (t ∷ ts) lt = refl
  get_taken (suc m) (suc k) (t ∷ ts) lt = get_taken m k ts (omega arith)
