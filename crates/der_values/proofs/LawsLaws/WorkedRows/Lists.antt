-- Worked rows of list parsers: the item parser of the rows reads an INTEGER of fewer than 128 octets, and counts its calls.
use Rattle.std.proofs.Common.{◌≡◌, ◌≢◌, ℕ, ◌+◌, ◌-◌, ◌<◌, List, [], ◌∷◌, ◌++◌, length, Ok, Err, Bor, refl, ap, lit<, lit≤, arith}
use Rattle.der_base.specs.declared.error.Err.TheVariants.{Incomplete, Error, Failure}
use Rattle.der_base.specs.declared.error.Error.{Error as BerError}
use Rattle.der_base.specs.declared.error.Error.TheVariants.{BerTypeError, NomError}
use Rattle.der_base.specs.declared.error.ErrorKind.{ErrorKind}
use Rattle.der_base.specs.declared.error.ErrorKind.TheVariants.{Eof, Many0}
use Rattle.der_base.specs.declared.error.Needed.TheVariants.{Size}
use Rattle.der_base.specs.ListSteps.{no_call, one_more, LastCall, at_end, left_over, refused, stuck, ListSteps}
use Rattle.der_base.specs.Containers.{Answered}
use Rattle.der_values.proofs.LawsLaws.Containers.ListStepsLaws.{nothing_taken}

-- what the parser of the rows promises
data Integers (n : ℕ) (p : Bor (List ℕ)) : Answered (List ℕ) BerError → ℕ → Type 0 where
  whole : {r : Bor (List ℕ)} (w : List ℕ) → p.now ≡ 2 ∷ length w ∷ w ++ r.now → Integers n p (Ok (r, w)) (n + 1)
  short : (m : ℕ) (w : List ℕ) → p.now ≡ 2 ∷ m ∷ w → length w < m → Integers n p (Err (Incomplete (Size (m - length w)))) (n + 1)
  empty : p.now ≡ [] → Integers n p (Err (Incomplete (Size 1))) (n + 1)
  other : (t : ℕ) (w : List ℕ) → p.now ≡ t ∷ w → t ≢ 2 → Integers n p (Err (Error BerTypeError)) (n + 1)

-- one that leaves all that it is given, or more
data Stays (n : ℕ) (p : Bor (List ℕ)) : Answered (List ℕ) BerError → ℕ → Type 0 where
  stays : {r : Bor (List ℕ)} → Stays n p (Ok (r, [])) (n + 1)

abbrev kind : Bor (List ℕ) → ErrorKind → BerError → Type 0
kind i k e = e ≡ NomError k

-- octets behind a reference; where they lie doesn't count
abbrev at : List ℕ → Bor (List ℕ)
at w = record { ref_ptr = (0, 0); now = w }

-- 02 01 01 02 01 02: two values, after three calls
two_integers : ListSteps Integers kind (2 ∷ 1 ∷ 1 ∷ 2 ∷ 1 ∷ 2 ∷ []) 0 (Ok ((1 ∷ []) ∷ (2 ∷ []) ∷ [])) 3
two_integers = record {
  values = (1 ∷ []) ∷ (2 ∷ []) ∷ [];
  spellings = (2 ∷ 1 ∷ 1 ∷ []) ∷ (2 ∷ 1 ∷ 2 ∷ []) ∷ [];
  between = 2;
  left = [];
  calls = one_more {p = at (2 ∷ 1 ∷ 2 ∷ [])} {r = at []} (one_more {p = at (2 ∷ 1 ∷ 1 ∷ 2 ∷ 1 ∷ 2 ∷ [])} {r = at (2 ∷ 1 ∷ 2 ∷ [])} no_call (whole (1 ∷ []) refl) refl (lit< tt))
      (whole (2 ∷ []) refl) refl (lit< tt);
  last = at_end {p = at []} (empty refl) refl refl;
}

-- 02 03 01 00 01 02 03 01: octets are left
bytes_left : ListSteps Integers kind (2 ∷ 3 ∷ 1 ∷ 0 ∷ 1 ∷ 2 ∷ 3 ∷ 1 ∷ []) 0 (Err (Error (NomError Eof))) 2
bytes_left = record {
  values = (1 ∷ 0 ∷ 1 ∷ []) ∷ [];
  spellings = (2 ∷ 3 ∷ 1 ∷ 0 ∷ 1 ∷ []) ∷ [];
  between = 1;
  left = 2 ∷ 3 ∷ 1 ∷ [];
  calls = one_more {p = at (2 ∷ 3 ∷ 1 ∷ 0 ∷ 1 ∷ 2 ∷ 3 ∷ 1 ∷ [])} {r = at (2 ∷ 3 ∷ 1 ∷ [])} no_call (whole (1 ∷ 0 ∷ 1 ∷ []) refl) refl (lit< tt);
  last = left_over {p = at (2 ∷ 3 ∷ 1 ∷ [])} (short 3 (1 ∷ []) refl (lit< tt)) refl (lit≤ tt) refl;
}

-- 01 01 ff: the Error of the parser is a Failure of the list
wrong_type_fails : ListSteps Integers kind (1 ∷ 1 ∷ 255 ∷ []) 0 (Err (Failure BerTypeError)) 1
wrong_type_fails = record {
  values = [];
  spellings = [];
  between = 0;
  left = 1 ∷ 1 ∷ 255 ∷ [];
  calls = no_call;
  last = refused {p = at (1 ∷ 1 ∷ 255 ∷ [])} (other 1 (1 ∷ 255 ∷ []) refl (λ e. let z : 1 ≡ 2 = e in omega (arith, z))) refl;
}

-- no octets: one call, and no values
no_values : ListSteps Integers kind [] 0 (Ok []) 1
no_values = record { values = []; spellings = []; between = 0; left = []; calls = no_call; last = at_end {p = at []} (empty refl) refl refl }

-- a parser that gives its input back, on no octets, and one whose rest is longer than its input
given_back : ListSteps Stays kind [] 0 (Err (Error (NomError Many0))) 1
given_back = record { values = []; spellings = []; between = 0; left = []; calls = no_call; last = stuck {p = at []} {r = at []} stays refl (lit≤ tt) refl }

longer_rest : ListSteps Stays kind (5 ∷ 0 ∷ []) 0 (Err (Error (NomError Many0))) 1
longer_rest = record { values = []; spellings = []; between = 0; left = 5 ∷ 0 ∷ []; calls = no_call; last = stuck {p = at (5 ∷ 0 ∷ [])} {r = at (0x30 ∷ 2 ∷ 5 ∷ 0 ∷ [])} stays refl (lit≤ tt) refl }

-- 02 01 01 is not the list of no values: octets may not be dropped
last_takes_all : (j : ℕ) (w : List ℕ) → w ≡ j ∷ [] → length w ≡ 0 → ⊥
last_takes_all j w e l = omega (arith, l, ap length e)

ends_with_nothing : {F O E : Type 0} {step : F → Bor (List ℕ) → Answered O E → F → Type 0} {kinds : Bor (List ℕ) → ErrorKind → E → Type 0} {f g : F} {j : List ℕ} {vs us : List O}
    → LastCall step kinds f j vs (Ok us) g → (length j ≡ 0) × (vs ≡ us)
ends_with_nothing (at_end s q l) = (l, refl)

not_dropped : (n : ℕ) → ListSteps Integers kind (2 ∷ 1 ∷ 1 ∷ []) 0 (Ok []) n → ⊥
not_dropped n s =
    let q = ends_with_nothing s.last in
    let z = nothing_taken Integers s.calls q.1 in
    omega (arith, ap length z.0, q.0)
