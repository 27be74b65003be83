-- What each status says, by how the run ended.
use Rattle.std.proofs.Common.{◌≡◌, ◌∙◌, ℕ, true, List, [], ◌++◌, Option, Some, None, is_some, refl, sym, ap, subst}
use Rattle.std.specs.Prelude.{IfSome, IsTrue, MatchOption}
use Rattle.std.specs.Io.KnownBytes.{append_known, prepend_known}
use Rattle.hs_outside.specs.Streams.{Giver, Taker}
use Rattle.hs_replay.specs.declared.ends.Flaw.{Flaw}
use Rattle.hs_replay.specs.declared.ends.Flaw.TheVariants.{NoEvent, BadTable}
use Rattle.hs_replay.specs.Script.{script_text, bad_line_of}
use Rattle.hs_replay.specs.Ends.{IsWhole, flaw_status, is_status, status_of}

-- a bad line ends with 3 or with 4
pub flaw_told : (flaw : Flaw) (n : ℕ) → n ≡ flaw_status flaw → IsTrue (is_status n)
flaw_told NoEvent n is = rw is refl
flaw_told (BadTable rule token) n is = rw is refl

pub no_other : (flaw : Flaw) (n k : ℕ) → n ≡ flaw_status flaw → n ≡ k → (k ≡ 3 → ⊥) → (k ≡ 4 → ⊥) → ⊥
no_other NoEvent n k is same three four = four (sym same ∙ is)
no_other (BadTable rule token) n k is same three four = three (sym same ∙ is)

-- where there is one, what is said of it
pub there : {X P : Type 0} (Q : Type 0) (o : Option X) → MatchOption o Q (λ x. P) → is_some o ≡ true → P
there Q None both some = cc
there Q (Some x) both some = both

-- a script that tells its bytes is these bytes
all_is : (left : Option (List ℕ)) (bytes all : List ℕ) → IfSome left (λ b. b ≡ all) → left ≡ Some bytes → bytes ≡ all
all_is left bytes all whole is = subst (λ (o : Option (List ℕ)). IfSome o (λ b. b ≡ all)) is whole

-- and none of them is left
none_left_of : (before after : Option (List ℕ)) (bytes gave : List ℕ) → before ≡ prepend_known gave after → before ≡ Some bytes → IfSome after (λ b. b ≡ []) → after ≡ Some []
none_left_of before None bytes gave given is none = absurd (no_bytes (sym is ∙ given)) where
  no_bytes : Some bytes ≡ None → ⊥
  no_bytes e = cc
none_left_of before (Some left) bytes gave given is none = ap Some none

module _ (script ended : Giver) (before now : Taker) (whole : IsWhole script ended before now) (bytes : List ℕ) (told : script.left ≡ Some bytes) where
  pub whole_status : 0 ≡ status_of (bad_line_of bytes)
  whole_status = sym (ap status_of (ap bad_line_of (all_is script.left bytes whole.bytes whole.all told) ∙ whole.none_bad))

  pub whole_left : ended.left ≡ Some []
  whole_left = none_left_of script.left ended.left bytes whole.bytes whole.gave told whole.none_left

  pub whole_taken : (taken : List ℕ) → before.taken ≡ Some taken → now.taken ≡ Some (taken ++ script_text bytes)
  whole_taken taken was =
      whole.text ∙ ap (λ (o : Option (List ℕ)). append_known o (script_text whole.bytes)) was
      ∙ ap (λ (b : List ℕ). Some (taken ++ script_text b)) (sym (all_is script.left bytes whole.bytes whole.all told))
