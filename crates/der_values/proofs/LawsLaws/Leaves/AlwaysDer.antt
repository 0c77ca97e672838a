-- Octets of a type that has contents are what is written for a content or are refused, by DER.
use Rattle.std.proofs.Common.{◌≡◌, ◌≢◌, ℕ, Bool, true, false, List, [], ◌∷◌, ◌%◌, ◌^◌, ◌<◌, ◌≤◌, ◌⊎◌, refl, sym, ap, subst, ◌∙◌, arith, ◌==◌, ◌||◌, not, inl, inr, length, All}
use Rattle.der_base.specs.declared.error.DerConstraint.TheVariants.{Constructed}
use Rattle.der_base.specs.declared.time.ASN1DateTime.{ASN1DateTime}
use Rattle.der_base.specs.Octets.{number}
use Rattle.der_base.specs.Encoding.{content_octets}
use Rattle.der_base.specs.Text.{is_text_type}
use Rattle.der_base.specs.Time.{IsTimeText, time_text}
use Rattle.der_base.specs.Tree.{Content, end_of_content, boolean, integer, bit_string, string, null, enumerated, object_identifier, relative_oid, time, sequence, set, absent, present, tagged, unknown}
use Rattle.der_base.specs.Leaf.{is_list, is_time, is_mapped, IsLeafContent, IsStrict, IsDerLeaf, HasZeroUnusedBits, IsMinimalInteger}
use Rattle.der_base.specs.LeafRefusal.{Test, choose, ber_tests, integer_tests, bit_string_tests, range_tests, der_primitive_tests, der_tests, DerLeafRefuses}
use Rattle.der_base.specs.Refusal.{Refusal, der_constraint}
use Rattle.der_base.proofs.Leaves.Decided.{Decided, never, sure, decided_like, decided_and, decided_not, decided_true}
use Rattle.der_base.proofs.Leaves.Decided.{decided_false, decided_equal, decided_below, decided_at_most, decided_empty}
use Rattle.der_base.proofs.Leaves.Decided.{decided_list}
use Rattle.der_base.proofs.AllByRecursion.{Each, each_from_all}
use Rattle.der_base.proofs.Leaves.Refusals.{AllDecided, NoneHolds, first_or_none, none_refused, row_decided, decided_append, none_of_front}
use Rattle.der_base.proofs.Octets.Shortest.{IsOctet, shortest_of_value}
use Rattle.der_base.proofs.Times.TimesDecided.{time_tests_decided}
use Rattle.der_base.proofs.Times.TimesWritten.{time_is_written}
use Rattle.der_base.proofs.Leaves.Always.{ber_decided, range_decided, each_mapped, each_string, passed_content}

decided_front : (P : ℕ → List ℕ → Type 0) (w : List ℕ) → ((b : ℕ) (v : List ℕ) → Decided (P b v)) → Decided ((b : ℕ) × (v : List ℕ) × (w ≡ b ∷ v) × P b v)
decided_front P [] d = inr (λ q. let e = q.2 in cc)
decided_front P (b ∷ v) d = decided_like (P b v) _ (λ h. (b, v, refl, h)) (λ (c, u, e, h). let k : c ≡ b = cc in let l : u ≡ v = cc in subst (λ x. P x v) k (subst (P c) l h)) (d b v)

decided_two : (a : ℕ) (P : ℕ → Type 0) (w : List ℕ) → ((b : ℕ) → Decided (P b)) → Decided ((b : ℕ) × (v : List ℕ) × (w ≡ a ∷ b ∷ v) × P b)
decided_two a P [] d = inr (λ q. let e = q.2 in cc)
decided_two a P (c ∷ []) d = inr (λ q. let e = q.2 in cc)
decided_two a P (c ∷ b ∷ w) d =
    decided_like ((c ≡ a) × P b) _ (λ h. (b, w, ap (λ x. x ∷ b ∷ w) h.0, h.1)) (λ (x, v, e, h). let k : x ≡ b = cc in ((cc), subst P k h)) (decided_and _ _ (decided_equal c a) (d b))

pub integer_decided : (w : List ℕ) → AllDecided (integer_tests w)
integer_decided w = (decided_empty w, (decided_two 0 (λ a. a < 128) w (λ b. decided_below b 128), (decided_two 255 (λ a. 128 ≤ a) w (λ b. decided_at_most 128 b), tt)))

decided_unused : (u : ℕ) (w : List ℕ) → Decided (HasZeroUnusedBits u w)
decided_unused u [] = decided_equal u 0
decided_unused u (b ∷ w) = decided_and _ _ (decided_at_most u 7) (decided_equal (number (b ∷ w) % 2 ^ u) 0)

bits_decided : (w : List ℕ) → AllDecided (bit_string_tests w)
bits_decided w = (decided_empty w, (decided_front (λ u v. 7 < u) w (λ u v. decided_below 7 u), (decided_front (λ u v. ¬ HasZeroUnusedBits u v) w (λ u v. decided_not _ (decided_unused u v)), tt)))

-- the tests of DER
pub der_decided : (p : Bool) (t : ℕ) (w : List ℕ) → AllDecided (der_tests p t w)
der_decided p t w =
    row_decided (is_list t) _ _ (λ b. (decided_false p, tt)) (
      decided_true p,
      (
          row_decided (is_text_type t || t == 30) _ _ (λ b. ber_decided false t w) (
          row_decided (is_time t) _ _ (λ b. time_tests_decided t w) (
          row_decided (t == 0 || t == 5) _ _ (λ b. (decided_not _ (decided_empty w), tt)) (
          row_decided (t == 1) _ _ (λ b. (decided_not _ (decided_equal (length w) 1), (decided_and _ _ (decided_not _ (decided_list w (0 ∷ []))) (decided_not _ (decided_list w (255 ∷ []))), tt))) (
          row_decided (t == 2) _ _ (λ b. integer_decided w) (
          row_decided (t == 3) _ _ (λ b. bits_decided w) (
          row_decided (t == 10) _ _ (λ b. decided_append (integer_tests w) (range_tests w) (integer_decided w) (range_decided w)) tt))))))),
    )

not_constructed : ¬ (false ≡ true)
not_constructed h = never h

-- what passes the tests of DER passes those of BER
passes_ber : (t : ℕ) (w : List ℕ) → is_mapped t ≡ true → is_list t ≡ false → NoneHolds (der_primitive_tests t w) → NoneHolds (ber_tests false t w)
passes_ber t w mapped no_list = each_mapped (λ t. NoneHolds (der_primitive_tests t w) → NoneHolds (ber_tests false t w)) t mapped no_list (
  (λ n. tt),
  (
    (λ n. (not_constructed, (n.0, tt))),
    (
      (λ n. tt),
      (
        (λ n. (n.0, (not_constructed, tt))),
        (
          (λ n. tt),
          (
            (λ n. tt),
            (
              (λ n. (not_constructed, tt)),
              (
                (λ n. (not_constructed, (n.1.1.1.0, (n.1.1.1.1.0, tt)))),
                (
                  (λ n. (not_constructed, tt)),
                  (
                    (λ n. (not_constructed, tt)),
                    (
                      (λ n. n),
                      tt,
                    ),
                  ),
                ),
              ),
            ),
          ),
        ),
      ),
    ),
  ),
)
    (λ k n. let m = rw k at n in rw k m)
    (λ n. (not_constructed, (n.1.0, tt)))
    (λ n. (not_constructed, (n.1.0, tt)))

-- an INTEGER that passes the three tests is minimal
passed_minimal : (w : List ℕ) → NoneHolds (integer_tests w) → IsMinimalInteger w
passed_minimal [] n = absurd (n.0 refl)
passed_minimal (a ∷ []) n = tt
passed_minimal (a ∷ b ∷ w) n = (
  (λ e. sure _ (decided_at_most 128 b) (λ h. n.1.0 (b, w, ap (λ c. c ∷ b ∷ w) e, omega arith))),
  (λ e. sure _ (decided_below b 128) (λ h. n.1.1.0 (b, w, ap (λ c. c ∷ b ∷ w) e, omega arith))),
)

boolean_octets : (b : ℕ) → ¬ ((b ∷ [] ≢ 0 ∷ []) × (b ∷ [] ≢ 255 ∷ [])) → b ∷ [] ≡ content_octets (boolean (not (b == 0)))
boolean_octets b n = elim (decided_equal b 0) [
  | inl e ↦ rw e refl
  | inr no_zero ↦ elim (decided_equal b 255) [ inl e ↦ rw e refl | inr k ↦ absurd (n ((λ q. no_zero (cc)), (λ q. k (cc)))) ]
]

-- the two that are to be shown: the octets are those that are written, and the content is strict
abbrev IsWritten : List ℕ → Content → Type 0
IsWritten w x = (w ≡ content_octets x) × IsStrict x

is_none : (w : List ℕ) → ¬ (w ≢ []) → w ≡ []
is_none w n = sure _ (decided_empty w) n

time_written : (k : ℕ) (w : List ℕ) (d : ASN1DateTime) → IsTimeText k w d → NoneHolds (der_tests false k w) → IsWritten w (time k d)
time_written k w d (inl h) n = let m = time_is_written 23 w d (inl (refl, h.1)) (rw h.0 at n).1 in (m.written ∙ ap (λ k. time_text k d) (sym h.0), (m.zone, m.fraction))
time_written k w d (inr h) n = let m = time_is_written 24 w d (inr (refl, h.1)) (rw h.0 at n).1 in (m.written ∙ ap (λ k. time_text k d) (sym h.0), (m.zone, m.fraction))

-- octets that pass the tests of DER are those that are written for their content
pub passed_written : (t : ℕ) (w : List ℕ) (x : Content) → Each IsOctet w → IsLeafContent false t w x → NoneHolds (der_tests false t w) → IsWritten w x
passed_written t w end_of_content a h n = (is_none w (rw h at n).1.0, tt)
passed_written t w (boolean v) a h n = rw (h.4, h.3) (boolean_octets h.2 (rw (h.0, h.3) at n).1.1.0, tt)
passed_written t w (integer v) a h n = (h.1, passed_minimal v (rw (h.0, h.1) at n).1)
passed_written t w (bit_string u v) a h n = (h.2, sure _ (decided_unused u v) (λ k. (rw h.0 at n).1.1.1.0 (u, v, h.2, k)))
passed_written t w (string k v) a h n = (h.2, tt)
passed_written t w null a h n = (is_none w (rw h at n).1.0, tt)
passed_written t w (object_identifier q v) a h n = (h.3, tt)
passed_written t w (enumerated k) a h n = (shortest_of_value w k a (passed_minimal w (none_of_front (integer_tests w) (range_tests w) (rw h.0 at n).1)) h.3, tt)
passed_written t w (relative_oid q v) a h n = (h.3, tt)
passed_written t w (time k d) a h n = time_written k w d h.2 (rw h.0 at n)
passed_written t w (sequence l) a h n = absurd h
passed_written t w (set l) a h n = absurd h
passed_written t w absent a h n = absurd h
passed_written t w (present o) a h n = absurd h
passed_written t w (tagged c k o) a h n = absurd h
passed_written t w (unknown c q k v) a h n = absurd h

or_right : (a b : Bool) → b ≡ true → (a || b) ≡ true
or_right true b e = refl
or_right false b e = e

or_left : (a b : Bool) → a ≡ true → (a || b) ≡ true
or_left a b e = rw e refl

-- the type of a content has contents
pub leaf_mapped : (p : Bool) (t : ℕ) (w : List ℕ) (x : Content) → IsLeafContent p t w x → is_mapped t ≡ true
leaf_mapped p t w end_of_content h = rw h refl
leaf_mapped p t w (boolean v) h = rw h.0 refl
leaf_mapped p t w (integer v) h = rw h.0 refl
leaf_mapped p t w (bit_string u v) h = rw h.0 refl
leaf_mapped p t w (string k v) h = rw h.0 (each_string (λ k. is_mapped k ≡ true) p k v h.1 refl refl refl (λ s. or_left _ _ (or_left _ _ (or_right _ _ s))))
leaf_mapped p t w null h = rw h refl
leaf_mapped p t w (object_identifier q v) h = rw h.0 refl
leaf_mapped p t w (enumerated k) h = rw h.0 refl
leaf_mapped p t w (relative_oid q v) h = rw h.0 refl
leaf_mapped p t w (time k d) (e, q, inl h) = rw (e, h.0) refl
leaf_mapped p t w (time k d) (e, q, inr h) = rw (e, h.0) refl
leaf_mapped p t w _ h = absurd h

-- a content whose octets DER does not refuse is a DER leaf, and the octets are those that are written
pub accepted_written : (t : ℕ) (w : List ℕ) (x : Content) → All IsOctet w → IsLeafContent false t w x → ((e : Refusal) → ¬ DerLeafRefuses false t w e) → IsDerLeaf t x × (w ≡ content_octets x)
accepted_written t w x octets h r =
    let k : IsWritten w x = passed_written t w x (each_from_all IsOctet w octets) h (none_refused (der_tests false t w) (der_decided false t w) (λ e f. r e (leaf_mapped false t w x h, f))) in
    ((subst (λ w. IsLeafContent false t w x) k.0 h, k.1), k.0)

-- the constructed form of a type that is no list is refused
pub constructed_refused : (t : ℕ) (w : List ℕ) → is_mapped t ≡ true → is_list t ≡ false → DerLeafRefuses true t w (der_constraint Constructed)
constructed_refused t w mapped no_list = (mapped, rw no_list (inl (refl, refl)))

primitive_part : (b : Bool) (ts us : List Test) (u : Test) → b ≡ false → NoneHolds (choose b ts (u ∷ us)) → NoneHolds us
primitive_part true ts us u e n = absurd (never (sym e))
primitive_part false ts us u e n = n.1

-- octets of a type that has contents are written for one, in a primitive element, or refused
pub always_der : (p : Bool) (t : ℕ) (w : List ℕ) → All IsOctet w → is_mapped t ≡ true → is_list t ≡ false
    → ((x : Content) × (p ≡ false) × IsDerLeaf t x × (w ≡ content_octets x)) ⊎ ((e : Refusal) × DerLeafRefuses p t w e)
always_der true t w octets mapped no_list = inr (der_constraint Constructed, constructed_refused t w mapped no_list)
always_der false t w octets mapped no_list = elim (first_or_none (der_tests false t w) (der_decided false t w)) [
  | inl r ↦ inr (r.0, (mapped, r.1))
  | inr n ↦ (let h = passed_content false t w mapped no_list (passes_ber t w mapped no_list (primitive_part (is_list t) _ (der_primitive_tests t w) _ no_list n)) in
      let k : IsWritten w h.0 = passed_written t w h.0 (each_from_all IsOctet w octets) h.1 n in
      inl (h.0, refl, (subst (λ w. IsLeafContent false t w h.0) k.0 h.1, k.1), k.0))
]
