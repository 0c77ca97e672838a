-- Where contents end.
use Rattle.std.proofs.Common.{◌≡◌, ℕ, ◌≤◌, true, Option, Some, None, refl, sym, subst, arith}
use Rattle.std.specs.Prelude.{IsSomeAnd}
use Rattle.der_elements.specs.Ends.{end_from, ends_at_marker, EndsWithin, IsWithin, limit_of, overrun}

pub within_later : (n m : ℕ) (e : Option ℕ) → m ≤ n → IsWithin n e → IsWithin m e
within_later n m (Some k) h w = omega (arith, h, w)
within_later n m None h w = tt

pub within_around : (n : ℕ) (e f : Option ℕ) → IsWithin n e → EndsWithin e f → IsWithin n f
within_around n e None w h = tt
within_around n e (Some k) w (m, q, le) = let z : n ≤ m = subst (λ o. IsWithin n o) q w in omega (arith, z, le)

pub limit_within : (n l : ℕ) (e : Option ℕ) → n ≤ limit_of l e → IsWithin n e
limit_within n l (Some k) h = omega (arith, h)
limit_within n l None h = tt

pub limit_least : (n l : ℕ) (e : Option ℕ) → n ≤ l → IsWithin n e → n ≤ limit_of l e
limit_least n l (Some k) h w = omega (arith, h, w)
limit_least n l None h w = h

pub limit_size : (l : ℕ) (e : Option ℕ) → limit_of l e ≤ l
limit_size l (Some k) = omega arith
limit_size l None = omega arith

pub no_overrun : (n : ℕ) (e : Option ℕ) → IsWithin n e → overrun n e ≡ 0
no_overrun n (Some k) h = omega (arith, h)
no_overrun n None h = refl

-- an indefinite length is limited by that around it
pub same_end : (p : ℕ) (e l : Option ℕ) → ends_at_marker l ≡ true → end_from p e l ≡ e
same_end p e (Some n) q = absurd (cc)
same_end p e None q = refl

-- an end that is reached
pub reached : (n l : ℕ) (e : Option ℕ) → IsSomeAnd e (λ m. m ≤ n) → IsWithin n e → e ≡ Some n
reached n l (Some m) h w = let z : m ≡ n = omega (arith, h, w) in cc
reached n l None h w = absurd h

pub is_reached : (n : ℕ) (e : Option ℕ) → e ≡ Some n → IsSomeAnd e (λ m. m ≤ n)
is_reached n e q = let z : n ≤ n = omega arith in subst (λ o. IsSomeAnd o (λ m. m ≤ n)) (sym q) z
