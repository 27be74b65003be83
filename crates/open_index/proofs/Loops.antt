-- Reading a list one item after the other.
use Rattle.std.proofs.Common.{◌≡◌, ◌∙◌, ℕ, zero, suc, ◌-◌, ◌+◌, ◌<◌, List, [], ◌∷◌, ◌++◌, Some, None, Result, Ok, Err, refl, sym, ap, append_assoc, append-nil, ◌≤◌, arith}
use Rattle.hs_token.specs.declared.tokens.Token.{Token}
use Rattle.request_types.specs.declared.filters.FilterSpec.{FilterSpec}
use Rattle.request_types.specs.declared.codes.Code.{Code}
use Rattle.request_types.specs.declared.faults.Fault.{Fault}
use Rattle.request_types.specs.declared.faults.Fault.TheVariants.{Refused, NoMemory}
use Rattle.open_index.specs.declared.handles.OpenColumn.{OpenColumn}
use Rattle.request_types.specs.Refusal.{◌>>=◌, Fails}
use Rattle.open_index.specs.Find.{next_filter, then_filters, filters_at}

-- What was read so far, and what is read of the rest.
abbrev pub with_front : {A : Type 0} → List A → Result (List A) Code → Result (List A) Code
with_front front read = read >>= λ more. Ok (front ++ more)

-- The same, where tokens are left behind the last item.
abbrev pub with_items : {A : Type 0} → List A → Result (List A × List Token) Code → Result (List A × List Token) Code
with_items front read = read >>= λ more. Ok (front ++ more.0, more.1)

-- One item fewer may follow.
one_fewer : (len i : ℕ) → i < len → len - i ≡ suc (len - (i + 1))
one_fewer len i h = omega arith

items_more : {A : Type 0} (front : List A) (x : A) (r : Result (List A × List Token) Code) →
    with_items front (r >>= λ xs. Ok (x ∷ xs.0, xs.1)) ≡ with_items (front ++ x ∷ []) r
items_more front x (Ok xs) = ap (λ (ys : _). Ok (ys, xs.1)) (sym (append_assoc front (x ∷ []) xs.0))
items_more front x (Err code) = refl

-- A filter was read, and those behind it are left.
filters_more : (n : ℕ) (front : List FilterSpec) (columns : List OpenColumn) (ts : List Token) (f : FilterSpec × List Token) →
    next_filter columns ts ≡ Ok (Some f) → with_items front (filters_at (suc n) columns ts) ≡ with_items (front ++ f.0 ∷ []) (filters_at n columns f.1)
unfolding filters_at
filters_more n front columns ts f is =
    ap (λ r. with_items front (r >>= then_filters (filters_at n columns) ts)) is ∙ items_more front f.0 (filters_at n columns f.1)

-- No filter is left.
filters_done : (n : ℕ) (columns : List OpenColumn) (ts : List Token) → next_filter columns ts ≡ Ok None → filters_at n columns ts ≡ Ok ([], ts)
unfolding filters_at
filters_done zero columns ts is = refl
filters_done (suc n) columns ts is = ap (λ r. r >>= then_filters (filters_at n columns) ts) is

-- The next filter is refused.
filters_refused : (n : ℕ) (front : List FilterSpec) (columns : List OpenColumn) (ts : List Token) (code : Code) →
    next_filter columns ts ≡ Err code → with_items front (filters_at (suc n) columns ts) ≡ Err code
unfolding filters_at
filters_refused n front columns ts code is = ap (λ r. with_items front (r >>= then_filters (filters_at n columns) ts)) is

-- The loop goes on.
pub goes_on : (len i : ℕ) (front : List FilterSpec) (columns : List OpenColumn) (ts : List Token) (f : FilterSpec × List Token) (all : Result (List FilterSpec × List Token) Code) →
    i < len → next_filter columns ts ≡ Ok (Some f) → with_items front (filters_at (len - i) columns ts) ≡ all →
    with_items (front ++ f.0 ∷ []) (filters_at (len - (i + 1)) columns f.1) ≡ all
goes_on len i front columns ts f all lt is so =
    sym (filters_more (len - (i + 1)) front columns ts f is) ∙ (ap (λ n. with_items front (filters_at n columns ts)) (sym (one_fewer len i lt)) ∙ so)

-- The loop ends with a fault.
pub ends : (fault : Fault) (len i : ℕ) (front : List FilterSpec) (columns : List OpenColumn) (ts : List Token) (all : Result (List FilterSpec × List Token) Code) →
    i < len → Fails fault (next_filter columns ts) → with_items front (filters_at (len - i) columns ts) ≡ all → Fails fault all
ends (Refused code) len i front columns ts all lt is so =
    sym so ∙ (ap (λ n. with_items front (filters_at n columns ts)) (one_fewer len i lt) ∙ filters_refused (len - (i + 1)) front columns ts code is)
ends NoMemory len i front columns ts all lt is so = tt

-- Where no filter is read any more, what was read so far is all.
are_all : (front : List FilterSpec) (ts : List Token) (read all : Result (List FilterSpec × List Token) Code) →
    read ≡ Ok ([], ts) → with_items front read ≡ all → all ≡ Ok (front, ts)
are_all front ts read all is so = sym so ∙ (ap (with_items front) is ∙ ap (λ (xs : List FilterSpec). Ok (xs, ts)) (append-nil front))

-- The loop ends because no filter follows.
pub is_done : (n : ℕ) (front : List FilterSpec) (columns : List OpenColumn) (ts : List Token) (all : Result (List FilterSpec × List Token) Code) →
    next_filter columns ts ≡ Ok None → with_items front (filters_at n columns ts) ≡ all → all ≡ Ok (front, ts)
is_done n front columns ts all is so = are_all front ts (filters_at n columns ts) all (filters_done n columns ts is) so

-- The loop ends because it has counted all tokens.
pub is_counted : (len i : ℕ) (front : List FilterSpec) (columns : List OpenColumn) (ts : List Token) (all : Result (List FilterSpec × List Token) Code) →
    len ≤ i → with_items front (filters_at (len - i) columns ts) ≡ all → all ≡ Ok (front, ts)
unfolding filters_at
is_counted len i front columns ts all le so =
    let none : len - i ≡ 0 = omega arith in
    are_all front ts (filters_at (len - i) columns ts) all (ap (λ n. filters_at n columns ts) none) so
