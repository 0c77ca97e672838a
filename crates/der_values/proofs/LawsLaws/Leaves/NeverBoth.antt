-- Octets that are a content are not refused.
use Rattle.std.proofs.Common.{◌≡◌, ℕ, Bool, true, false, List, [], ◌∷◌, ◌<◌, ◌≤◌, refl, ap, arith, ◌^◌, ◌==◌, pos, ◌≢◌, Some, inl, inr, length}
use Rattle.std.proofs.lemmas.Int.{ints}
use Rattle.std.proofs.lemmas.Bool.Decides.{Decides-eqb}
use Rattle.der_base.specs.Octets.{integer_value, shortest_integer}
use Rattle.der_base.specs.Encoding.{content_octets}
use Rattle.der_base.specs.declared.time.ASN1DateTime.{ASN1DateTime}
use Rattle.der_base.specs.Text.{is_text_type}
use Rattle.der_base.specs.declared.time.ASN1TimeZone.TheVariants.{Z}
use Rattle.der_base.specs.Time.{IsTimeText, time_text}
use Rattle.der_base.specs.Tree.{Content, end_of_content, boolean, integer, bit_string, string, null, enumerated, object_identifier, relative_oid, time, sequence, set, absent, present, tagged, unknown}
use Rattle.der_base.specs.Leaf.{is_list, IsStringOf, IsLeafContent, IsDerLeaf, HasZeroUnusedBits, IsMinimalInteger}
use Rattle.der_base.specs.LeafRefusal.{BerLeafRefuses, integer_tests, bit_string_tests, ber_tests, der_tests, DerLeafRefuses}
use Rattle.der_base.specs.Refusal.{Refusal}
use Rattle.der_base.proofs.Octets.Shortest.{minimal_shortest}
use Rattle.der_base.proofs.Leaves.Always.{each_string}
use Rattle.der_base.proofs.Leaves.Refusals.{NoneHolds, none_refuses}
use Rattle.der_base.proofs.Leaves.Decided.{never}
use Rattle.der_base.proofs.Times.DerTimes.{time_passes}

primitive : (p : Bool) → p ≡ false → ¬ (p ≡ true)
primitive p e h = cc

no_time_tests : (p : Bool) (k : ℕ) (w : List ℕ) (d : ASN1DateTime) → p ≡ false → IsTimeText k w d → NoneHolds (ber_tests p k w)
no_time_tests p k w d q (inl h) = rw h.0 (primitive p q, ((λ no. no d (inl (refl, h.1))), tt))
no_time_tests p k w d q (inr h) = rw h.0 (primitive p q, ((λ no. no d (inr (refl, h.1))), tt))

string_passes : (p : Bool) (k : ℕ) (w : List ℕ) → IsStringOf p k w → NoneHolds (ber_tests p k w)
string_passes p k w (inl e) = rw e tt
string_passes p k w (inr (inl h)) = rw h.0 (primitive p h.1, tt)
string_passes p k w (inr (inr (inl h))) = rw h.0 (primitive p h.1, ((λ q. omega (arith, h.2)), ((λ q. q h.3), tt)))
string_passes p k w (inr (inr (inr h))) = rw h.0 (primitive p h.1, ((λ q. q h.2), tt))

-- the tests of BER on a content
pub ber_passes : (p : Bool) (t : ℕ) (w : List ℕ) (x : Content) → IsLeafContent p t w x → NoneHolds (ber_tests p t w)
ber_passes p t w end_of_content h = rw h tt
ber_passes p t w (boolean v) h = rw h.0 (primitive p h.1, ((λ k. k (ap length h.3)), tt))
ber_passes p t w (integer v) h = rw h.0 tt
ber_passes p t w (bit_string u v) h = rw h.0 ((λ k. cc), (primitive p h.1, tt))
ber_passes p t w (string k v) h = rw (h.0, h.2) (string_passes p k v h.1)
ber_passes p t w null h = rw h tt
ber_passes p t w (object_identifier r v) h = rw h.0 (primitive p h.1, tt)
ber_passes p t w (enumerated n) h = rw (h.0, h.3) (primitive p h.1, ((λ k. omega (arith, ints)), ((λ k. omega (arith, ints)), tt)))
ber_passes p t w (relative_oid r v) h = rw h.0 (primitive p h.1, tt)
ber_passes p t w (time k d) h = rw h.0 (no_time_tests p k w d h.1 h.2)
ber_passes p t w (sequence l) h = absurd h
ber_passes p t w (set l) h = absurd h
ber_passes p t w absent h = absurd h
ber_passes p t w (present o) h = absurd h
ber_passes p t w (tagged c k o) h = absurd h
ber_passes p t w (unknown c q k v) h = absurd h

-- a minimal INTEGER passes its three tests
pub minimal_passes : (w : List ℕ) → IsMinimalInteger w → NoneHolds (integer_tests w)
minimal_passes [] m = absurd m
minimal_passes (a ∷ []) m = ((λ q. cc), ((λ q. cc), ((λ q. cc), tt)))
minimal_passes (a ∷ b ∷ w) m = (
  (λ q. cc),
  (
    (λ q. let ea : a ≡ 0 = cc (q.2) in let eb : b ≡ q.0 = cc (q.2) in let f : 128 ≤ b = m.0 ea in omega arith),
    (
      (λ q. let ea : a ≡ 255 = cc (q.2) in let eb : b ≡ q.0 = cc (q.2) in let f : b < 128 = m.1 ea in omega arith),
      tt,
    ),
  ),
)

bit_string_passes : (u : ℕ) (w : List ℕ) → HasZeroUnusedBits u w → NoneHolds (bit_string_tests (u ∷ w))
bit_string_passes u w h = (
  (λ q. cc),
  (
    (λ q. let eu : u ≡ q.0 = cc (q.2) in let few : u ≤ 7 = few_bits u w h in omega arith),
    ((λ q. let eu : u ≡ q.0 = cc (q.2) in let ew : w ≡ q.1 = cc (q.2) in q.3 (rw (← eu, ← ew) h)), tt),
  ),
)
  where
    few_bits : (u : ℕ) (w : List ℕ) → HasZeroUnusedBits u w → u ≤ 7
    few_bits u [] h = omega arith
    few_bits u (b ∷ w) h = h.0

not_primitive : ¬ (false ≡ true)
not_primitive h = cc

-- no number is one of a text and of a list
pub text_no_list : (k : ℕ) → is_text_type k ≡ true → is_list k ≡ false
text_no_list k h = at (k == 16) refl (k == 17) refl
  where
    at : (b : Bool) → (k == 16) ≡ b → (c : Bool) → (k == 17) ≡ c → is_list k ≡ false
    at true e c f = absurd (never (let e' : k ≡ 16 = (Decides-eqb k 16).0 e in rw e' at h))
    at false e true f = absurd (never (let f' : k ≡ 17 = (Decides-eqb k 17).0 f in rw f' at h))
    at false e false f = rw (e, f) refl

-- the tests of DER on what is written for a time
written_time_passes : (k : ℕ) (t : ASN1DateTime) → IsTimeText k (time_text k t) t → t.tz ≡ Z → t.nanosecond ≢ Some 0 → NoneHolds (der_tests false k (time_text k t))
written_time_passes k t (inl h) z nano = rw h.0 (not_primitive, time_passes 23 t (inl (refl, rw h.0 at h.1)) z nano)
written_time_passes k t (inr h) z nano = rw h.0 (not_primitive, time_passes 24 t (inr (refl, rw h.0 at h.1)) z nano)

-- the tests of DER on what is written for a content
pub der_passes : (t : ℕ) (x : Content) → IsDerLeaf t x → NoneHolds (der_tests false t (content_octets x))
der_passes t end_of_content h = rw h.0 (not_primitive, ((λ q. q refl), tt))
der_passes t (boolean true) h = rw h.0.0 (not_primitive, ((λ q. q refl), ((λ q. q.1 refl), tt)))
der_passes t (boolean false) h = rw h.0.0 (not_primitive, ((λ q. q refl), ((λ q. q.0 refl), tt)))
der_passes t (integer v) h = rw h.0.0 (not_primitive, minimal_passes v h.1)
der_passes t (bit_string u v) h = rw h.0.0 (not_primitive, bit_string_passes u v h.1)
der_passes t (string k v) h =
    rw h.0.0 (each_string (λ k. NoneHolds (ber_tests false k v) → NoneHolds (der_tests false k v)) false k v h.0.1
    (λ n. (not_primitive, tt)) (λ n. (not_primitive, tt)) (λ n. (not_primitive, n)) (λ s n. rw (text_no_list k s, s) (not_primitive, rw s at n))
    (string_passes false k v h.0.1))
der_passes t null h = rw h.0 (not_primitive, ((λ q. q refl), tt))
der_passes t (object_identifier r v) h = rw h.0.0 (not_primitive, tt)
der_passes t (enumerated k) h = rw h.0.0 (
    let i : NoneHolds (integer_tests (shortest_integer k)) = minimal_passes (shortest_integer k) (minimal_shortest k) in
    let e : integer_value (shortest_integer k) ≡ pos k = h.0.3 in
    let few : k < 2 ^ 64 = h.0.2 in
    (not_primitive, (i.0, (i.1.0, (i.1.1.0, (rw e (λ q. omega (arith, ints)), (rw e (λ q. omega (arith, ints)), tt)))))))
der_passes t (relative_oid r v) h = rw h.0.0 (not_primitive, tt)
der_passes t (time k d) h = rw h.0.0 (written_time_passes k d h.0.2 h.1.0 h.1.1)
der_passes t (sequence l) h = absurd h.0
der_passes t (set l) h = absurd h.0
der_passes t absent h = absurd h.0
der_passes t (present o) h = absurd h.0
der_passes t (tagged c k o) h = absurd h.0
der_passes t (unknown c q k v) h = absurd h.0

-- octets with a content are not refused
pub never_both_ber : (p : Bool) (t : ℕ) (w : List ℕ) (x : Content) (e : Refusal) → IsLeafContent p t w x → ¬ BerLeafRefuses p t w e
never_both_ber p t w x e h r = none_refuses (ber_tests p t w) e (ber_passes p t w x h) r

-- what is written for a content is not refused
pub never_both_der : (t : ℕ) (x : Content) (e : Refusal) → IsDerLeaf t x → ¬ DerLeafRefuses false t (content_octets x) e
never_both_der t x e h r = none_refuses (der_tests false t (content_octets x)) e (der_passes t x h) r.1
