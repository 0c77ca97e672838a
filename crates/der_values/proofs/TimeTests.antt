-- A time of which no test holds, or the first that does.
use Rattle.std.proofs.Common.{◌≡◌, ℕ, Bool, true, false, List, Result, Ok, Err, MatchResult, refl, sym, inl, inr, subst}
use Rattle.std.specs.Prelude.{◌==◌}
use Rattle.std.proofs.lemmas.Bool.{false≢true}
use Rattle.std.proofs.lemmas.Bool.Decides.{Decides-eqb}
use Rattle.der_base.specs.declared.error.Error.{Error as BerError}
use Rattle.der_base.specs.declared.rules.Rules.TheVariants.{Ber, Der}
use Rattle.der_base.specs.declared.time.ASN1DateTime.{ASN1DateTime}
use Rattle.der_base.specs.Encoding.{content_octets}
use Rattle.der_base.specs.Leaf.{is_time, IsDerLeaf}
use Rattle.der_base.specs.LeafRefusal.{IsFirstRefusal, NoneHolds, time_tests}
use Rattle.der_base.specs.Refusal.{Refusal, refusal}
use Rattle.der_base.specs.Time.{IsTimeText, time_text}
use Rattle.der_base.specs.Tree.{time}
use Rattle.der_base.proofs.Leaves.Always.{or_cases}
use Rattle.der_base.proofs.Times.DerTimes.{time_passes}
use Rattle.der_values.specs.Kinds.{Decodes, leaf_tests, moments, times_by}

-- by BER
pub ber_time : (t : ℕ) (w : List ℕ) (x : ASN1DateTime) → IsTimeText t w x → NoneHolds (leaf_tests Ber t w)
ber_time t w x (inl h) = rw h.0 ((λ e. false≢true e), ((λ n. n x (inl (refl, h.1))), tt))
ber_time t w x (inr h) = rw h.0 ((λ e. false≢true e), ((λ n. n x (inr (refl, h.1))), tt))

-- by DER
der_written : (t : ℕ) (x : ASN1DateTime) → IsDerLeaf t (time t x) → NoneHolds (leaf_tests Der t (time_text t x))
der_written t x h =
    let n = time_passes t x h.0.2 h.1.0 h.1.1 in
    elim h.0.2 [ inl a ↦ rw a.0 (rw a.0 at n) | inr a ↦ rw a.0 (rw a.0 at n) ]

pub der_time : (t : ℕ) (w : List ℕ) (x : ASN1DateTime) → IsDerLeaf t (time t x) → w ≡ content_octets (time t x) → NoneHolds (leaf_tests Der t w) × IsTimeText t w x
der_time t w x h e = (subst (λ v. NoneHolds (leaf_tests Der t v)) (sym e) (der_written t x h), subst (λ v. IsTimeText t v x) (sym e) h.0.2)

der_refused : (t : ℕ) (w : List ℕ) (e : Refusal) → is_time t ≡ true → IsFirstRefusal (time_tests t w) e → IsFirstRefusal (leaf_tests Der t w) e
der_refused t w e h =
    or_cases (t == 23) (t == 24) (IsFirstRefusal (time_tests t w) e → IsFirstRefusal (leaf_tests Der t w) e) h
    (λ k. subst (λ n. IsFirstRefusal (time_tests n w) e → IsFirstRefusal (leaf_tests Der n w) e) (sym ((Decides-eqb t 23).0 k)) (λ r. r))
    (λ k. subst (λ n. IsFirstRefusal (time_tests n w) e → IsFirstRefusal (leaf_tests Der n w) e) (sym ((Decides-eqb t 24).0 k)) (λ r. r))

-- what is read by DER
pub der_moment : (t : ℕ) (w : List ℕ) (r : Result ASN1DateTime BerError) → is_time t ≡ true
    → MatchResult r (λ x. IsDerLeaf t (time t x) × (w ≡ content_octets (time t x))) (λ e. IsFirstRefusal (time_tests t w) (refusal e))
    → Decodes (λ v. v) (moments Der t) w r
der_moment t w (Ok x) h m = der_time t w x m.0 m.1
der_moment t w (Err e) h m = der_refused t w (refusal e) h m

pub ber_refused : (whole : Bool) (t : ℕ) (w : List ℕ) (f : BerError) → IsFirstRefusal (leaf_tests Ber t w) (refusal f) → Decodes {T = ASN1DateTime} (λ v. v) (times_by whole Ber t) w (Err f)
ber_refused true t w f h = h
ber_refused false t w f h = h
