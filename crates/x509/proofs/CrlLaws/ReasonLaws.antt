-- Reasons: their numbers, and the reason of an extension.
use Rattle.std.proofs.Common.{◌≡◌, ◌≢◌, ℕ, Option, Some, None, List, Ok, Err, refl, sym, ap, subst, ◌∙◌}
use Rattle.std.specs.Prelude.{◌==◌, if◌then◌else◌}
use Rattle.der_base.specs.declared.error.Error.{Error as BerError}
use Rattle.der_cursor.specs.declared.cursor.Cursor.{Cursor}
use Rattle.der_cursor.specs.declared.error.ReadError.{ReadError}
use Rattle.der_cursor.specs.Cursors.{rules_of}
use Rattle.der_cursor.specs.Formats.{Format, Never, Required, ReadsField, ReadsWhole}
use Rattle.x509.specs.Certificates.{ExtensionValue, extension}
use Rattle.x509.specs.Formats.{spells}
use Rattle.x509.specs.Lists.{BeginsWithNone}
use Rattle.x509.proofs.FormatLaws.{shows_one}
use Rattle.x509.proofs.CertificateLaws.{extension_exact}
use Rattle.x509.specs.declared.crl.reason.Reason.{Reason}
use Rattle.x509.specs.declared.crl.reason.Reason.TheVariants.{Unspecified, KeyCompromise, CaCompromise, AffiliationChanged, Superseded, CessationOfOperation, CertificateHold, RemoveFromCrl, PrivilegeWithdrawn, AaCompromise}
use Rattle.x509.specs.Crl.Reasons.{number_of, NamedValues, IsFirstReason, IsReasonOf, absent, here, later}

-- no two reasons have one number
reason_with : ℕ → Option Reason
reason_with n =
    if n == 0 then Some Unspecified else if n == 1 then Some KeyCompromise else if n == 2 then Some CaCompromise else if n == 3 then Some AffiliationChanged
    else if n == 4 then Some Superseded else if n == 5 then Some CessationOfOperation else if n == 6 then Some CertificateHold else if n == 8 then Some RemoveFromCrl
    else if n == 9 then Some PrivilegeWithdrawn else if n == 10 then Some AaCompromise else None

with_its_number : (v : Reason) → reason_with (number_of v) ≡ Some v
unfolding reason_with
with_its_number Unspecified = refl
with_its_number KeyCompromise = refl
with_its_number CaCompromise = refl
with_its_number AffiliationChanged = refl
with_its_number Superseded = refl
with_its_number CessationOfOperation = refl
with_its_number CertificateHold = refl
with_its_number RemoveFromCrl = refl
with_its_number PrivilegeWithdrawn = refl
with_its_number AaCompromise = refl

pub same_number : (v w : Reason) → number_of w ≡ number_of v → v ≡ w
same_number v w e = let q : Some v ≡ Some w = sym (with_its_number v) ∙ ap reason_with (sym e) ∙ with_its_number w in cc

-- values that have names
module _ {V W : Type 0} (value : W → V) (T : Format V) {X Y E : Type 0} {view : X → V} {name : Y → W} {May : E → Type 0} {old : Cursor} where
  pub name_read : {new : Cursor} {x : X} {y : Y} → value (name y) ≡ view x → ((w : W) → value w ≡ view x → name y ≡ w) → ReadsField {E = E} (Required T) view May old (Ok x) new
      → ReadsField (Required (NamedValues value T)) name May old (Ok y) new
  unfolding Required
  name_read e same h fresh = let r = h fresh in record {
    found = let z = r.found.0 in ((z.0, subst (λ u. T.content (rules_of old) z.0 u) (sym e) z.1, z.2), r.found.1);
    only = λ w rest z. let q = r.only (value w) rest (z.0, z.1, z.2) in (same w (sym q.0), q.1);
  }

  pub name_stops : {new after : Cursor} {e : E} → ReadsField (Required T) view May old (Err e) new → ReadsField (Required (NamedValues value T)) name May old (Err e) after
  unfolding Required
  name_stops h fresh = let r = h fresh in record { found = tt; only = λ w rest z. r.only (value w) rest (z.0, z.1, z.2) }

  pub no_name : {new after : Cursor} {x : X} {e : E} → ((w : W) → value w ≢ view x) → ReadsField {E = E} (Required T) view May old (Ok x) new
      → ReadsField (Required (NamedValues value T)) name May old (Err e) after
  unfolding Required
  no_name other h fresh = let r = h fresh in record {
    found = tt;
    only = λ w rest z. absurd (other w (sym (r.only (value w) rest (z.0, z.1, z.2)).0));
  }

-- octets begin with one extension at most
one_extension : (i : List ℕ) (x y : ExtensionValue) (r q : List ℕ) → spells extension i x r → spells extension i y q → (x ≡ y) × (r ≡ q)
one_extension i x y r q s t = (shows_one extension extension_exact).one_value i x y r q s t

-- the extensions that are left have the first reason that all have
pub record FirstFrom (left all : List ℕ) : Type 0 where
  pub back : (v : Option Reason) → IsFirstReason left v → IsFirstReason all v
  pub only : (v : Option Reason) → IsFirstReason all v → IsFirstReason left v

all_left : {i : List ℕ} → FirstFrom i i
all_left = record { back = λ v h. h; only = λ v h. h }

pub started : {left all : List ℕ} → left ≡ all → FirstFrom left all
started {left = left} e = subst (λ z. FirstFrom left z) e all_left

-- at the extension x of those that are left
module _ {left rest all : List ℕ} {x : ExtensionValue} (f : FirstFrom left all) (s : spells extension left x rest) where
  -- it has no reason
  passed_to : IsReasonOf x None → (v : Option Reason) → IsFirstReason left v → IsFirstReason rest v
  passed_to n v (absent b) = absurd (b x rest s)
  passed_to n v (here {rest = r} {x = y} t h) = absurd ((subst (λ z. IsReasonOf z None) (one_extension left x y rest r s t).0 n) h.0)
  passed_to n v (later {rest = r} {x = y} t m h) = subst (λ z. IsFirstReason z v) (sym (one_extension left x y rest r s t).1) h

  passed_none : ReadsWhole (IsReasonOf x) (λ v. v) (Never {E = ReadError BerError}) (Ok None) → FirstFrom rest all
  passed_none k = record { back = λ v h. f.back v (later s k.found h); only = λ v h. passed_to k.found v (f.only v h) }

  pub passed : {o : Option Reason} → ReadsWhole (IsReasonOf x) (λ v. v) (Never {E = ReadError BerError}) (Ok o) → o ≡ None → FirstFrom rest all
  passed k e = passed_none (subst (λ z. ReadsWhole (IsReasonOf x) (λ v. v) (Never {E = ReadError BerError}) (Ok z)) e k)

  -- it has one
  has_to : (v : Reason) → ((w : Option Reason) → IsReasonOf x w → Some v ≡ w) → (w : Option Reason) → IsFirstReason left w → Some v ≡ w
  has_to v k w (absent b) = absurd (b x rest s)
  has_to v k w (here {rest = r} {x = y} {v = u} t h) = k (Some u) (subst (λ z. IsReasonOf z (Some u)) (sym (one_extension left x y rest r s t).0) h)
  has_to v k w (later {rest = r} {x = y} t m h) = let q : Some v ≡ None = k None (subst (λ z. IsReasonOf z None) (sym (one_extension left x y rest r s t).0) m) in absurd (let e : ⊥ = cc in e)

  has_some : (v : Reason) → ReadsWhole (IsReasonOf x) (λ v. v) (Never {E = ReadError BerError}) (Ok (Some v)) → ReadsWhole (IsFirstReason all) (λ v. v) (Never {E = ReadError BerError}) (Ok (Some v))
  has_some v k = record { found = f.back (Some v) (here s k.found); only = λ w z. has_to v k.only w (f.only w z) }

  pub has_reason : {v : Reason} {o : Option Reason} → ReadsWhole (IsReasonOf x) (λ v. v) (Never {E = ReadError BerError}) (Ok o) → o ≡ Some v → ReadsWhole (IsFirstReason all) (λ v. v) (Never {E = ReadError BerError}) (Ok (Some v))
  has_reason {v} k e = has_some v (subst (λ z. ReadsWhole (IsReasonOf x) (λ v. v) (Never {E = ReadError BerError}) (Ok z)) e k)

  -- it is refused
  refused_to : ((w : Option Reason) → IsReasonOf x w → ⊥) → (w : Option Reason) → IsFirstReason left w → ⊥
  refused_to k w (absent b) = b x rest s
  refused_to k w (here {rest = r} {x = y} {v = u} t h) = k (Some u) (subst (λ z. IsReasonOf z (Some u)) (sym (one_extension left x y rest r s t).0) h)
  refused_to k w (later {rest = r} {x = y} t m h) = k None (subst (λ z. IsReasonOf z None) (sym (one_extension left x y rest r s t).0) m)

  pub reason_refused : {e : ReadError BerError} → ReadsWhole (IsReasonOf x) (λ v. v) Never (Err e) → ReadsWhole (IsFirstReason all) (λ v. v) Never (Err e)
  reason_refused k = record { found = tt; only = λ w z. refused_to k.only w (f.only w z) }

-- none is left
none_to : {left : List ℕ} → BeginsWithNone extension left → (w : Option Reason) → IsFirstReason left w → None ≡ w
none_to b w (absent c) = refl
none_to b w (here {rest = r} {x = y} t h) = absurd (b y r t)
none_to b w (later {rest = r} {x = y} t m h) = absurd (b y r t)

pub no_reason : {left all : List ℕ} → FirstFrom left all → BeginsWithNone extension left → ReadsWhole (IsFirstReason all) (λ v. v) (Never {E = ReadError BerError}) (Ok None)
no_reason f b = record { found = f.back None (absent b); only = λ w z. none_to b w (f.only w z) }
