-- Octets behind how many there are, and lists of these.
use Rattle.std.proofs.Common.{◌≡◌, ◌≢◌, ℕ, ◌+◌, ◌*◌, ◌<◌, List, [], ◌∷◌, ◌++◌, length, take, drop, Option, Some, None, Ok, Err, Bor, sym, ap, subst, ◌∙◌, arith, length-append}
use Rattle.std.specs.Prelude.{MatchOption}
use Rattle.std.specs.List.{IsSplitAt}
use Rattle.std.proofs.lemmas.List.{drop_at, nil_from_length, take_at, take-append-drop}
use Rattle.der_base.specs.declared.error.Error.{Error as BerError}
use Rattle.der_base.specs.declared.rules.Rules.TheVariants.{Der}
use Rattle.der_cursor.specs.declared.cursor.Cursor.{Cursor}
use Rattle.der_cursor.specs.declared.error.ReadError.{ReadError}
use Rattle.der_cursor.specs.Cursors.{octets_left}
use Rattle.der_cursor.specs.Formats.{Each, Never, ReadsContent}
use Rattle.der_extensions.specs.declared.timestamps.SignedCertificateTimestamps.{SignedCertificateTimestamps}
use Rattle.der_extensions.specs.Lists.{BeginsWith, BeginsWithNone, IsListOf, TakesOctets}
use Rattle.der_extensions.specs.WebExtensions.{TimestampList, Vector, timestamps_octets}
use Rattle.der_extensions.proofs.ListLaws.{begins, more}

-- octets that begin with two others are the same
module _ (high low : ℕ) (w : List ℕ) (h l : ℕ) (x : List ℕ) (e : high ∷ low ∷ w ≡ h ∷ l ∷ x) where
  one_high : high ≡ h
  one_high = cc

  one_low : low ≡ l
  one_low = cc

  one_rest : w ≡ x
  one_rest = cc

-- as many octets as are counted
pub vector_found : (high low : ℕ) (w v rest : List ℕ) → high * 256 + low ≢ 0 → IsSplitAt w (high * 256 + low) v rest → BeginsWith Vector (high ∷ low ∷ w) v rest
unfolding Vector
vector_found high low w v rest some s =
    let n = high * 256 + low in
    let cut : w ≡ v ++ rest = sym (take-append-drop n w) ∙ ap (λ x. x ++ drop n w) (sym s.1) ∙ ap (λ x. v ++ x) (sym s.2) in record {
      found = (high, low, ap (λ x. high ∷ low ∷ x) cut, s.3, λ e. some (sym s.3 ∙ ap length e));
      only = λ u k z.
          let same : w ≡ u ++ k = one_rest high low w z.0 z.1 (u ++ k) z.2 in
          let counted : length u ≡ n = omega (arith, z.3, one_high high low w z.0 z.1 (u ++ k) z.2, one_low high low w z.0 z.1 (u ++ k) z.2) in
          (s.1 ∙ ap (take n) same ∙ take_at u k n counted, s.2 ∙ ap (drop n) same ∙ drop_at u k n counted);
    }

-- there are fewer
pub too_short : (i : List ℕ) → length i < 2 → BeginsWithNone Vector i
unfolding Vector
too_short i s v rest z = omega (arith, s, ap length z.2)

pub none_counted : (high low : ℕ) (w : List ℕ) → high * 256 + low ≡ 0 → BeginsWithNone Vector (high ∷ low ∷ w)
unfolding Vector
none_counted high low w q v rest z =
    z.4 (nil_from_length v (omega (arith, q, z.3, one_high high low w z.0 z.1 (v ++ rest) z.2, one_low high low w z.0 z.1 (v ++ rest) z.2)))

pub cut_short : (high low : ℕ) (w : List ℕ) → length w < high * 256 + low → BeginsWithNone Vector (high ∷ low ∷ w)
unfolding Vector
cut_short high low w s v rest z =
    omega (
      arith,
      s,
      z.3,
      one_high high low w z.0 z.1 (v ++ rest) z.2,
      one_low high low w z.0 z.1 (v ++ rest) z.2,
      ap length (one_rest high low w z.0 z.1 (v ++ rest) z.2),
      length-append v rest,
    )

pub vector_takes : TakesOctets Vector
unfolding Vector
vector_takes r i v rest z = omega (arith, ap length z.2, length-append v rest)

-- what is left is a list exactly where all is one
pub record Goes (all left : List ℕ) : Type 0 where
  pub back : IsListOf Vector Der left → IsListOf Vector Der all
  pub only : IsListOf Vector Der all → IsListOf Vector Der left

pub goes_start : {all : List ℕ} → Goes all all
goes_start = record { back = λ z. z; only = λ z. z }

pub goes_on : {all left v rest : List ℕ} → Goes all left → left ≢ [] → BeginsWith Vector left v rest → Goes all rest
goes_on {left = left} {v = v} {rest = rest} g n b = record {
  back = λ z. g.back (more Vector Der left rest v b.found z);
  only = λ z. let y = begins Vector Der left n (g.only z) in subst (λ w. IsListOf Vector Der w) (sym (b.only y.0 y.1 y.2).1) y.3;
}

pub goes_less : {left v rest : List ℕ} → BeginsWith Vector left v rest → length rest < length left
goes_less {left = left} {v = v} {rest = rest} b = vector_takes Der left v rest b.found

pub none_next : {all left : List ℕ} → Goes all left → left ≢ [] → BeginsWithNone Vector left → ¬ IsListOf Vector Der all
none_next {left = left} g n miss z = let y = begins Vector Der left n (g.only z) in miss y.0 y.1 y.2

pub all_read : {all left : List ℕ} → Goes all left → left ≡ [] → IsListOf Vector Der all
unfolding Each
all_read g q = g.back ([], q)

-- the octets behind the number of them, or none
pub vector_split : {i : List ℕ} (high low n : ℕ) (w : List ℕ) (r : Option (Bor (List ℕ) × Bor (List ℕ))) → i ≡ high ∷ low ∷ w → n ≡ high * 256 + low → n ≢ 0
    → MatchOption r (length w < n) (λ p. IsSplitAt w n p.0.now p.1.now) → MatchOption r (BeginsWithNone Vector i) (λ x. BeginsWith Vector i x.0.now x.1.now)
vector_split high low n w None e q some h = subst (λ x. BeginsWithNone Vector x) (sym e) (cut_short high low w (omega (arith, q, h)))
vector_split high low n w (Some p) e q some h =
    subst (λ x. BeginsWith Vector x p.0.now p.1.now) (sym e) (vector_found high low w p.0.now p.1.now (λ z. some (q ∙ z)) (subst (λ k. IsSplitAt w k p.0.now p.1.now) q h))

-- the content octets of a list of timestamps
module _ (c : Cursor) {w : List ℕ} (same : w ≡ octets_left c) where
  pub content_read : {x : SignedCertificateTimestamps} → BeginsWith Vector w (timestamps_octets x) [] → IsListOf Vector Der (timestamps_octets x)
      → ReadsContent {E = ReadError BerError} TimestampList timestamps_octets Never c (Ok x)
  unfolding TimestampList
  content_read {x = x} b l fresh =
      let at = subst (λ u. BeginsWith Vector u (timestamps_octets x) []) same b in
      record { found = (at.found, l); only = λ v z. (at.only v [] z.0).0 }

  pub no_vector : {e : ReadError BerError} → ((v : List ℕ) → ¬ Vector Der w v []) → ReadsContent {T = SignedCertificateTimestamps} TimestampList timestamps_octets Never c (Err e)
  unfolding TimestampList
  no_vector n fresh = record { found = tt; only = λ v z. subst (λ u. ¬ Vector Der u v []) same (n v) z.0 }

  pub no_list : {e : ReadError BerError} {v : List ℕ} → BeginsWith Vector w v [] → ¬ IsListOf Vector Der v
      → ReadsContent {T = SignedCertificateTimestamps} TimestampList timestamps_octets Never c (Err e)
  unfolding TimestampList
  no_list {v = v} b n fresh =
      let at = subst (λ u. BeginsWith Vector u v []) same b in
      record { found = tt; only = λ u z. n (subst (λ y. IsListOf Vector Der y) (sym (at.only u [] z.0).0) z.1) }
