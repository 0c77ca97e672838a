-- Octets of a type that has contents are a content or are refused, by BER.
use Rattle.std.proofs.Common.{◌≡◌, ℕ, Bool, true, false, List, [], ◌∷◌, ◌-◌, ◌^◌, ◌%◌, ◌<◌, refl, sym, subst, ◌∙◌, arith, pos, negsuc, ◌==◌, ◌||◌, not, inl, inr, length, ◌⊎◌}
use Rattle.std.specs.Prelude.{◌<ℤ◌, ℤ}
use Rattle.std.proofs.lemmas.Int.{ints}
use Rattle.std.proofs.lemmas.Bool.Decides.{Decides-eqb}
use Rattle.der_base.specs.declared.time.ASN1DateTime.{ASN1DateTime}
use Rattle.der_base.specs.Octets.{integer_value}
use Rattle.der_base.specs.Text.{is_text_type, is_utf8_type, is_one_of, is_numeric, is_printable, is_ia5, is_visible, IsTextOf}
use Rattle.der_base.specs.Time.{IsTimeText}
use Rattle.der_base.specs.Tree.{Content, end_of_content, boolean, integer, bit_string, string, null, enumerated, object_identifier, relative_oid, time}
use Rattle.der_base.specs.Leaf.{is_list, is_time, is_mapped, IsStringOf, IsLeafContent}
use Rattle.der_base.specs.LeafRefusal.{ber_tests, range_tests, BerLeafRefuses, IsNotTime}
use Rattle.der_base.specs.Refusal.{Refusal}
use Rattle.der_base.proofs.Leaves.Decided.{Decided, never, sure, decided_like, decided_and, decided_not, decided_when}
use Rattle.der_base.proofs.Leaves.Decided.{decided_true, decided_false, decided_equal, decided_less, decided_empty}
use Rattle.der_base.proofs.Leaves.Decided.{decided_all, decided_utf8}
use Rattle.der_base.proofs.Leaves.Refusals.{AllDecided, NoneHolds, first_or_none, row_decided}
use Rattle.der_base.proofs.Times.TimesDecided.{decided_time}

pub decided_text : (t : ℕ) (w : List ℕ) → Decided (IsTextOf t w)
decided_text t w = decided_like _ (IsTextOf t w) (λ q. (q.0, q.1.0, q.1.1.0, q.1.1.1.0, q.1.1.1.1)) (λ q. (q.0, (q.1, (q.2, (q.3, q.4)))))
    (decided_and _ _ (decided_when _ _ (decided_equal t 18) (decided_all is_numeric w))
    (decided_and _ _ (decided_when _ _ (decided_equal t 19) (decided_all is_printable w))
    (decided_and _ _ (decided_when _ _ (decided_equal t 22) (decided_all is_ia5 w))
    (decided_and _ _ (decided_when _ _ (decided_equal t 26) (decided_all is_visible w))
    (decided_when _ _ (decided_true (is_utf8_type t)) (decided_utf8 w))))))

pub decided_not_time : (k : ℕ) (w : List ℕ) → Decided (IsNotTime k w)
decided_not_time k w = decided_like (¬ ((t : ASN1DateTime) × IsTimeText k w t)) (IsNotTime k w) (λ n t h. n (t, h)) (λ n (t, h). n t h) (decided_not _ (decided_time k w))

pub range_decided : (w : List ℕ) → AllDecided (range_tests w)
range_decided w = (decided_less _ _, (decided_less _ _, tt))

-- the tests of BER
pub ber_decided : (p : Bool) (t : ℕ) (w : List ℕ) → AllDecided (ber_tests p t w)
ber_decided p t w =
    row_decided (is_text_type t) _ _ (λ b. (decided_true p, (decided_not _ (decided_text t w), tt))) (
    row_decided (is_time t) _ _ (λ b. (decided_true p, (decided_not_time t w, tt))) (
    row_decided (is_list t) _ _ (λ b. (decided_false p, tt)) (
    row_decided (t == 1) _ _ (λ b. (decided_true p, (decided_not _ (decided_equal (length w) 1), tt))) (
    row_decided (t == 3) _ _ (λ b. (decided_empty w, (decided_true p, tt))) (
    row_decided (t == 6 || t == 13) _ _ (λ b. (decided_true p, tt)) (
    row_decided (t == 10) _ _ (λ b. (decided_true p, range_decided w)) (
    row_decided (t == 28) _ _ (λ b. (decided_true p, tt)) (
    row_decided (t == 30) _ _ (λ b. (decided_true p, (decided_equal (length w % 2) 1, (decided_not _ (decided_false _), tt)))) tt))))))))

be_false : (b : Bool) → ¬ (b ≡ true) → b ≡ false
be_false true n = absurd (n refl)
be_false false n = refl

-- some content
abbrev HasContent : Bool → ℕ → List ℕ → Type 0
HasContent p t w = (x : Content) × IsLeafContent p t w x

boolean_content : (p : Bool) (w : List ℕ) → p ≡ false → length w ≡ 1 → HasContent p 1 w
boolean_content p [] q e = absurd (omega arith)
boolean_content p (b ∷ []) q e = (boolean (not (b == 0)), (refl, q, b, refl, refl))
boolean_content p (b ∷ c ∷ w) q e = absurd (omega arith)

bits_content : (p : Bool) (w : List ℕ) → p ≡ false → ¬ (w ≡ []) → HasContent p 3 w
bits_content p [] q n = absurd (n refl)
bits_content p (u ∷ v) q n = (bit_string u v, (refl, q, refl))

natural : (z : ℤ) → ¬ (z <ℤ pos 0) → ¬ (pos (2 ^ 64 - 1) <ℤ z) → (n : ℕ) × (n < 2 ^ 64) × (z ≡ pos n)
natural (pos n) low high = (n, grind (arith, ints), refl)
natural (negsuc n) low high = absurd (grind (arith, ints))

even : (n : ℕ) → ¬ (n % 2 ≡ 1) → n % 2 ≡ 0
even n h = grind arith

time_content : (p : Bool) (k : ℕ) (w : List ℕ) → p ≡ false → ¬ IsNotTime k w → HasContent p k w
time_content p k w q n = let h = sure _ (decided_time k w) (λ m. n (λ t h. m (t, h))) in (time k h.0, (refl, q, h.1))

pub or_cases : (a b : Bool) (P : Type 0) → (a || b) ≡ true → (a ≡ true → P) → (b ≡ true → P) → P
or_cases true b P h f g = f refl
or_cases false b P h f g = g h

abbrev Holds : (ℕ → Type 0) → List ℕ → Type 0
Holds P [] = Unit {0}
Holds P (n ∷ ns) = P n × Holds P ns

at_one_of : (P : ℕ → Type 0) (ns : List ℕ) (t : ℕ) → Holds P ns → is_one_of ns t ≡ true → P t
at_one_of P [] t each h = absurd (never h)
at_one_of P (n ∷ ns) t each h = or_cases (n == t) (is_one_of ns t) (P t) h (λ e. subst P ((Decides-eqb n t).0 e) each.0) (λ k. at_one_of P ns t each.1 k)

-- each type that has contents, but for lists
pub each_mapped : (P : ℕ → Type 0) (t : ℕ) → is_mapped t ≡ true → is_list t ≡ false
    → Holds P (0 ∷ 1 ∷ 2 ∷ 3 ∷ 4 ∷ 5 ∷ 6 ∷ 10 ∷ 13 ∷ 28 ∷ 30 ∷ []) → (is_text_type t ≡ true → P t) → P 23 → P 24 → P t
each_mapped P t mapped no_list others texts utc generalized = or_cases _ (is_list t) (P t) mapped
    (λ m. or_cases _ (is_time t) (P t) m
    (λ k. or_cases _ (is_text_type t) (P t) k (λ h. at_one_of P (0 ∷ 1 ∷ 2 ∷ 3 ∷ 4 ∷ 5 ∷ 6 ∷ 10 ∷ 13 ∷ 28 ∷ 30 ∷ []) t others h) texts)
    (λ h. or_cases (t == 23) (t == 24) (P t) h (λ e. subst P (sym ((Decides-eqb t 23).0 e)) utc) (λ e. subst P (sym ((Decides-eqb t 24).0 e)) generalized)))
    (λ h. absurd (never (sym no_list ∙ h)))

-- each type of strings
pub each_string : (P : ℕ → Type 0) (p : Bool) (k : ℕ) (w : List ℕ) → IsStringOf p k w → P 4 → P 28 → P 30 → (is_text_type k ≡ true → P k) → P k
each_string P p k w (inl e) octets universal bmp text = subst P (sym e) octets
each_string P p k w (inr (inl h)) octets universal bmp text = subst P (sym h.0) universal
each_string P p k w (inr (inr (inl h))) octets universal bmp text = subst P (sym h.0) bmp
each_string P p k w (inr (inr (inr h))) octets universal bmp text = text h.0

-- octets that pass the tests of BER
pub passed_content : (p : Bool) (t : ℕ) (w : List ℕ) → is_mapped t ≡ true → is_list t ≡ false → NoneHolds (ber_tests p t w) → HasContent p t w
passed_content p t w mapped no_list = each_mapped (λ t. NoneHolds (ber_tests p t w) → HasContent p t w) t mapped no_list (
  (λ n. (end_of_content, refl)),
  (
    (λ n. boolean_content p w (be_false p n.0) (sure _ (decided_equal (length w) 1) n.1.0)),
    (
      (λ n. (integer w, (refl, refl))),
      (
        (λ n. bits_content p w (be_false p n.1.0) n.0),
        (
          (λ n. (string 4 w, (refl, inl refl, refl))),
          (
            (λ n. (null, refl)),
            (
              (λ n. (object_identifier false w, (refl, be_false p n.0, refl, refl))),
              (
                (λ n. let m = natural (integer_value w) n.1.0 n.1.1.0 in (enumerated m.0, (refl, be_false p n.0, m.1, m.2))),
                (
                  (λ n. (relative_oid true w, (refl, be_false p n.0, refl, refl))),
                  (
                    (λ n. (string 28 w, (refl, inr (inl (refl, be_false p n.0)), refl))),
                    (
                      (λ n. (string 30 w, (refl, inr (inr (inl (refl, be_false p n.0, even (length w) n.1.0, sure _ (decided_false _) n.1.1.0))), refl))),
                      tt,
                    ),
                  ),
                ),
              ),
            ),
          ),
        ),
      ),
    ),
  ),
)
    (λ k n. let m = rw k at n in (string t w, (refl, inr (inr (inr (k, be_false p m.0, sure _ (decided_text t w) m.1.0))), refl)))
    (λ n. time_content p 23 w (be_false p n.0) n.1.0)
    (λ n. time_content p 24 w (be_false p n.0) n.1.0)

-- octets of a type that has contents are a content, or refused
pub always_ber : (p : Bool) (t : ℕ) (w : List ℕ) → is_mapped t ≡ true → is_list t ≡ false → ((x : Content) × IsLeafContent p t w x) ⊎ ((e : Refusal) × BerLeafRefuses p t w e)
always_ber p t w mapped no_list = elim (first_or_none (ber_tests p t w) (ber_decided p t w)) [ inl r ↦ inr r | inr n ↦ inl (passed_content p t w mapped no_list n) ]
