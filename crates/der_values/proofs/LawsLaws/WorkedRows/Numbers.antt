-- Worked rows of numbers. Each is computed by tests that answer true or false, which are shown to agree with the tables.
use Rattle.std.proofs.Common.{◌≡◌, ◌⊎◌, ℕ, ◌+◌, ◌-◌, ◌*◌, ◌<◌, ◌≤◌, Bool, true, false, ◌==◌, ◌||◌, List, [], ◌∷◌, ◌++◌}
use Rattle.std.proofs.Common.{length, refl, sym, subst, lit<, lit≤, pos, negsuc, inl, inr, Result, Ok, Err, ℤ, T, arith}
use Rattle.std.proofs.Common.{ltb→lt, ltb-false, nat_lt, not, Some, if◌then◌else◌}
use Rattle.std.specs.Prelude.{◌<ℤ◌, int_lt}
use Rattle.std.proofs.lemmas.Bool.Decides.{Decides-eqb}
use Rattle.der_base.specs.declared.error.DerConstraint.TheVariants.{Constructed, IntegerEmpty, IntegerLeadingZeroes, IntegerLeadingFF}
use Rattle.der_base.specs.LeafRefusal.{Test, IsFirstRefusal, NoneHolds, integer_tests}
use Rattle.der_base.specs.Numbers.{NumberType, signed, unsigned, least, greatest, number_of_content, number_tests}
use Rattle.der_base.specs.Numbers.{sign_tests, fits_tests, ber_reader_tests, der_reader_tests, NumberRefuses}
use Rattle.der_base.specs.Numbers.{BeginsWithBerNumber, BeginsWithDerNumber, BerNumberRefuses, DerNumberRefuses}
use Rattle.der_base.specs.declared.header.Class.{Class}
use Rattle.der_base.specs.declared.header.Class.TheVariants.{Universal, ContextSpecific}
use Rattle.der_base.specs.Octets.{integer_value, bits_value, identifier, shortest_length, leading_bits, class_number}
use Rattle.der_base.specs.Refusal.{Refusal, wrong_type, wrong_value, invalid_length, integer_too_large, integer_negative, construct_unexpected, unexpected_tag, der_constraint}
use Rattle.der_values.proofs.LawsLaws.Octets.ShortIdentifiers.{short_identifier}
use Rattle.der_base.specs.Tree.{Content, integer, enumerated, bit_string, boolean, string, sequence, no_nodes}

less_true : (a b : ℤ) → int_lt a b ≡ true → a <ℤ b
less_true a b q = record { lt = subst T (sym q) tt }

less_false : (a b : ℤ) → int_lt a b ≡ false → ¬ (a <ℤ b)
less_false a b q h = subst T q h.lt

-- a case is a test that is answered, and the refusal where it holds
abbrev Cases : Type 0
Cases = List (Bool × Refusal)

data Agree : Cases → List Test → Type 1 where
  no_cases : Agree [] []
  case : {b : Bool} {P : Type 0} {e : Refusal} {cs : Cases} {ts : List Test} → (b ≡ true → P) → (b ≡ false → ¬ P) → Agree cs ts → Agree ((b, e) ∷ cs) (record { holds = P; tells = e } ∷ ts)

answer : Cases → ℤ → Result ℤ Refusal
answer [] v = Ok v
answer ((true, e) ∷ cs) v = Err e
answer ((false, e) ∷ cs) v = answer cs v

-- where the cases agree with the tests, their answer is that of the tests
refused : {cs : Cases} {ts : List Test} (v : ℤ) (e : Refusal) → Agree cs ts → answer cs v ≡ Err e → IsFirstRefusal ts e
unfolding answer
refused v e no_cases q = cc
refused v e (case {b = true} f g a) q = inl (f refl, cc)
refused v e (case {b = false} f g a) q = inr (g refl, refused v e a q)

passed : {cs : Cases} {ts : List Test} (v u : ℤ) → Agree cs ts → answer cs v ≡ Ok u → NoneHolds ts
unfolding answer
passed v u no_cases q = tt
passed v u (case {b = true} f g a) q = cc
passed v u (case {b = false} f g a) q = (g refl, passed v u a q)

both : {cs ds : Cases} {ts us : List Test} → Agree cs ts → Agree ds us → Agree (cs ++ ds) (ts ++ us)
both no_cases b = b
both (case f g a) b = case f g (both a b)

fits_cases : NumberType → ℤ → Cases
fits_cases k v = (int_lt v (least k) || int_lt (greatest k) v, integer_too_large) ∷ []

or_true : (a b : Bool) → (a || b) ≡ true → (a ≡ true) ⊎ (b ≡ true)
or_true true b q = inl refl
or_true false b q = inr q

or_false : (a b : Bool) → (a || b) ≡ false → (a ≡ false) × (b ≡ false)
or_false true b q = cc
or_false false b q = (refl, q)

fits_agree : (k : NumberType) (v : ℤ) → Agree (fits_cases k v) (fits_tests k v)
unfolding fits_cases
fits_agree k v = case (λ q. elim (or_true _ _ q) [ inl h ↦ inl (less_true _ _ h) | inr h ↦ inr (less_true _ _ h) ])
    (λ q h. elim h [ inl l ↦ less_false _ _ (or_false _ _ q).0 l | inr l ↦ less_false _ _ (or_false _ _ q).1 l ]) no_cases

sign_cases : NumberType → List ℕ → Cases
sign_cases (signed bits) w = []
sign_cases (unsigned bits) w = (int_lt (integer_value w) (pos 0), integer_negative) ∷ []

sign_agree : (k : NumberType) (w : List ℕ) → Agree (sign_cases k w) (sign_tests k w)
unfolding sign_cases
sign_agree (signed bits) w = no_cases
sign_agree (unsigned bits) w = case (less_true _ _) (less_false _ _) no_cases

below_true : (a b : ℕ) → nat_lt a b ≡ true → a < b
below_true a b q = ltb→lt a b (subst T (sym q) tt)

below_false : (a b : ℕ) → nat_lt a b ≡ false → ¬ (a < b)
below_false a b q h = let z : b ≤ a = ltb-false a b q in omega arith

number_cases : NumberType → Content → Cases
number_cases k (integer w) = sign_cases k w ++ fits_cases k (integer_value w)
number_cases (unsigned bits) (enumerated n) = fits_cases (unsigned bits) (pos n)
number_cases (unsigned bits) (bit_string u w) = (nat_lt (8 * length w) u, invalid_length) ∷ (nat_lt 64 (8 * length w - u), integer_too_large) ∷ fits_cases (unsigned bits) (pos (bits_value u w))
number_cases (unsigned bits) _ = (true, wrong_type) ∷ []
number_cases (signed bits) _ = (true, wrong_value) ∷ []

number_agree : (k : NumberType) (x : Content) → Agree (number_cases k x) (number_tests k x)
unfolding number_cases
number_agree k (integer w) = both (sign_agree k w) (fits_agree k (integer_value w))
number_agree (unsigned bits) (enumerated n) = fits_agree (unsigned bits) (pos n)
number_agree (unsigned bits) (bit_string u w) = case (below_true _ _) (below_false _ _) (case (below_true _ _) (below_false _ _) (fits_agree (unsigned bits) (pos (bits_value u w))))
number_agree (unsigned bits) _ = case (λ q. tt) (λ q. cc) no_cases
number_agree (signed bits) _ = case (λ q. tt) (λ q. cc) no_cases

number_answer : NumberType → Content → Result ℤ Refusal
number_answer k x = answer (number_cases k x) (number_of_content x)

-- first two octets, the first of them a and the second so
abbrev two_octets : ℕ → (ℕ → Bool) → List ℕ → Bool
two_octets a f [] = false
two_octets a f (b ∷ []) = false
two_octets a f (b ∷ c ∷ w) = if b == a then f c else false

two_true : (a : ℕ) (f : ℕ → Bool) (w : List ℕ) → two_octets a f w ≡ true → (b : ℕ) × (v : List ℕ) × (w ≡ a ∷ b ∷ v) × (f b ≡ true)
two_true a f [] q = cc
two_true a f (b ∷ []) q = cc
two_true a f (b ∷ c ∷ w) q = go (b == a) refl q
  where
    go : (x : Bool) → (b == a) ≡ x → (if x then f c else false) ≡ true → (d : ℕ) × (v : List ℕ) × (b ∷ c ∷ w ≡ a ∷ d ∷ v) × (f d ≡ true)
    go true e q = let z : b ≡ a = (Decides-eqb b a).0 e in (c, w, cc, q)
    go false e q = cc

two_false : (a : ℕ) (f : ℕ → Bool) (b : ℕ) (v : List ℕ) → two_octets a f (a ∷ b ∷ v) ≡ false → f b ≡ false
two_false a f b v q = go (a == a) ((Decides-eqb a a).1 refl) q
  where
    go : (x : Bool) → x ≡ true → (if x then f b else false) ≡ false → f b ≡ false
    go true e q = q
    go false e q = cc

is_empty : List ℕ → Bool
is_empty [] = true
is_empty (b ∷ w) = false

form_cases : List ℕ → Cases
form_cases w =
    (is_empty w, der_constraint IntegerEmpty) ∷ (two_octets 0 (λ b. nat_lt b 128) w, der_constraint IntegerLeadingZeroes)
    ∷ (two_octets 255 (λ b. not (nat_lt b 128)) w, der_constraint IntegerLeadingFF) ∷ []

not_true : (b : Bool) → not b ≡ true → b ≡ false
not_true true q = cc
not_true false q = refl

not_false : (b : Bool) → not b ≡ false → b ≡ true
not_false true q = refl
not_false false q = cc

empty_true : (w : List ℕ) → is_empty w ≡ true → w ≡ []
unfolding is_empty
empty_true [] q = refl
empty_true (b ∷ w) q = cc

empty_false : (w : List ℕ) → is_empty w ≡ false → ¬ (w ≡ [])
unfolding is_empty
empty_false [] q e = cc
empty_false (b ∷ w) q e = cc

form_agree : (w : List ℕ) → Agree (form_cases w) (integer_tests w)
unfolding form_cases
form_agree w = case (empty_true w) (empty_false w)
    (case (λ q. let (b, v, e, h) = two_true 0 _ w q in (b, v, e, below_true b 128 h))
    (λ q (b, v, e, h). below_false b 128 (two_false 0 (λ b. nat_lt b 128) b v (subst (λ z. two_octets 0 (λ b. nat_lt b 128) z ≡ false) e q)) h)
    (case (λ q. let (b, v, e, h) = two_true 255 _ w q in (b, v, e, ltb-false b 128 (not_true _ h)))
    (λ q (b, v, e, h). let z : b < 128 = below_true b 128 (not_false _ (two_false 255 (λ b. not (nat_lt b 128)) b v (subst (λ z. two_octets 255 (λ b. not (nat_lt b 128)) z ≡ false) e q))) in
    omega arith)
    no_cases))

other_cases : Refusal → Bool → ℕ → Cases → Cases
other_cases e p t cs = (not (t == 2), unexpected_tag (Some 2) t) ∷ (p, e) ∷ cs

ber_cases : NumberType → Bool → ℕ → List ℕ → Cases
ber_cases k p t w = other_cases construct_unexpected p t (number_cases k (integer w))

der_cases : NumberType → Bool → ℕ → List ℕ → Cases
der_cases k p t w = other_cases (der_constraint Constructed) p t (sign_cases k w ++ (form_cases w ++ fits_cases k (integer_value w)))

not_true_of : (b : Bool) → b ≡ false → ¬ (b ≡ true)
not_true_of true q h = cc
not_true_of false q h = cc

ber_agree : (k : NumberType) (p : Bool) (t : ℕ) (w : List ℕ) → Agree (ber_cases k p t w) (ber_reader_tests k p t w)
unfolding ber_cases other_cases
ber_agree k p t w = case (λ q e. not_true_of _ (not_true _ q) ((Decides-eqb t 2).1 e)) (λ q n. n ((Decides-eqb t 2).0 (not_false _ q)))
    (case (λ q. q) (not_true_of p) (number_agree k (integer w)))

der_agree : (k : NumberType) (p : Bool) (t : ℕ) (w : List ℕ) → Agree (der_cases k p t w) (der_reader_tests k p t w)
unfolding der_cases other_cases
der_agree k p t w = case (λ q e. not_true_of _ (not_true _ q) ((Decides-eqb t 2).1 e)) (λ q n. n ((Decides-eqb t 2).0 (not_false _ q)))
    (case (λ q. q) (not_true_of p) (both (sign_agree k w) (both (form_agree w) (fits_agree k (integer_value w)))))

ber_answer : NumberType → Bool → ℕ → List ℕ → Result ℤ Refusal
ber_answer k p t w = answer (ber_cases k p t w) (integer_value w)

der_answer : NumberType → Bool → ℕ → List ℕ → Result ℤ Refusal
der_answer k p t w = answer (der_cases k p t w) (integer_value w)

-- so what is computed is the answer of the tables
the_value : (cs : Cases) (v u : ℤ) → answer cs v ≡ Ok u → u ≡ v
unfolding answer
the_value [] v u q = cc
the_value ((true, e) ∷ cs) v u q = cc
the_value ((false, e) ∷ cs) v u q = the_value cs v u q

the_number : (k : NumberType) (x : Content) (v : ℤ) → number_answer k x ≡ Ok v → NoneHolds (number_tests k x) × (v ≡ number_of_content x)
unfolding number_answer
the_number k x v q = (passed (number_of_content x) v (number_agree k x) q, the_value (number_cases k x) (number_of_content x) v q)

the_refusal : (k : NumberType) (x : Content) (e : Refusal) → number_answer k x ≡ Err e → NumberRefuses k x e
unfolding number_answer
the_refusal k x e q = refused (number_of_content x) e (number_agree k x) q

-- signed numbers: any padding, the value decides
too_large_by_one : number_answer (signed 64) (integer (0x00 ∷ 0x80 ∷ 0x00 ∷ 0x00 ∷ 0x00 ∷ 0x00 ∷ 0x00 ∷ 0x00 ∷ 0x00 ∷ [])) ≡ Err integer_too_large
unfolding number_answer number_cases fits_cases sign_cases answer
too_large_by_one = refl

padded_with_ff : number_answer (signed 64) (integer (0xff ∷ 0xff ∷ 0xff ∷ 0xff ∷ 0xff ∷ 0xff ∷ 0xff ∷ 0xff ∷ 0xff ∷ 0x7f ∷ [])) ≡ Ok (negsuc 128)
unfolding number_answer number_cases fits_cases sign_cases answer
padded_with_ff = refl

no_octets : number_answer (signed 64) (integer []) ≡ Ok (pos 0)
unfolding number_answer number_cases fits_cases sign_cases answer
no_octets = refl

least_octet : number_answer (signed 64) (integer (0x80 ∷ [])) ≡ Ok (negsuc 127)
unfolding number_answer number_cases fits_cases sign_cases answer
least_octet = refl

least_of_64 : number_answer (signed 64) (integer (0x80 ∷ 0x00 ∷ 0x00 ∷ 0x00 ∷ 0x00 ∷ 0x00 ∷ 0x00 ∷ 0x00 ∷ [])) ≡ Ok (negsuc 9223372036854775807)
unfolding number_answer number_cases fits_cases sign_cases answer
least_of_64 = refl

below_least_of_64 : number_answer (signed 64) (integer (0xff ∷ 0x7f ∷ 0xff ∷ 0xff ∷ 0xff ∷ 0xff ∷ 0xff ∷ 0xff ∷ 0xff ∷ [])) ≡ Err integer_too_large
unfolding number_answer number_cases fits_cases sign_cases answer
below_least_of_64 = refl

least_of_32 : number_answer (signed 32) (integer (0x80 ∷ 0x00 ∷ 0x00 ∷ 0x00 ∷ [])) ≡ Ok (negsuc 2147483647)
unfolding number_answer number_cases fits_cases sign_cases answer
least_of_32 = refl

above_32 : number_answer (signed 32) (integer (0x00 ∷ 0x80 ∷ 0x00 ∷ 0x00 ∷ 0x00 ∷ [])) ≡ Err integer_too_large
unfolding number_answer number_cases fits_cases sign_cases answer
above_32 = refl

below_32 : number_answer (signed 32) (integer (0xff ∷ 0x7f ∷ 0xff ∷ 0xff ∷ 0xff ∷ [])) ≡ Err integer_too_large
unfolding number_answer number_cases fits_cases sign_cases answer
below_32 = refl

greatest_of_32 : number_answer (signed 32) (integer (0x00 ∷ 0x7f ∷ 0xff ∷ 0xff ∷ 0xff ∷ [])) ≡ Ok (pos 2147483647)
unfolding number_answer number_cases fits_cases sign_cases answer
greatest_of_32 = refl

-- of an INTEGER alone
signed_of_enum : number_answer (signed 64) (enumerated 1) ≡ Err wrong_value
unfolding number_answer number_cases fits_cases sign_cases answer
signed_of_enum = refl

signed_of_bits : number_answer (signed 32) (bit_string 0 (0x05 ∷ [])) ≡ Err wrong_value
unfolding number_answer number_cases fits_cases sign_cases answer
signed_of_bits = refl

signed_of_boolean : number_answer (signed 64) (boolean true) ≡ Err wrong_value
unfolding number_answer number_cases fits_cases sign_cases answer
signed_of_boolean = refl

-- unsigned numbers
greatest_of_64 : number_answer (unsigned 64) (integer (0x00 ∷ 0xff ∷ 0xff ∷ 0xff ∷ 0xff ∷ 0xff ∷ 0xff ∷ 0xff ∷ 0xff ∷ [])) ≡ Ok (pos 18446744073709551615)
unfolding number_answer number_cases fits_cases sign_cases answer
greatest_of_64 = refl

above_64 : number_answer (unsigned 64) (integer (0x01 ∷ 0x00 ∷ 0x00 ∷ 0x00 ∷ 0x00 ∷ 0x00 ∷ 0x00 ∷ 0x00 ∷ 0x00 ∷ [])) ≡ Err integer_too_large
unfolding number_answer number_cases fits_cases sign_cases answer
above_64 = refl

negative : number_answer (unsigned 64) (integer (0xff ∷ [])) ≡ Err integer_negative
unfolding number_answer number_cases fits_cases sign_cases answer
negative = refl

negative_comes_first : number_answer (unsigned 32) (integer (0x80 ∷ 0x00 ∷ 0x00 ∷ 0x00 ∷ 0x00 ∷ 0x00 ∷ 0x00 ∷ 0x00 ∷ 0x00 ∷ 0x00 ∷ [])) ≡ Err integer_negative
unfolding number_answer number_cases fits_cases sign_cases answer
negative_comes_first = refl

unsigned_of_none : number_answer (unsigned 64) (integer []) ≡ Ok (pos 0)
unfolding number_answer number_cases fits_cases sign_cases answer
unsigned_of_none = refl

padded_with_zeros : number_answer (unsigned 32) (integer (0x00 ∷ 0x00 ∷ 0x00 ∷ 0x00 ∷ 0x00 ∷ 0x00 ∷ 0x00 ∷ 0x00 ∷ 0x05 ∷ [])) ≡ Ok (pos 5)
unfolding number_answer number_cases fits_cases sign_cases answer
padded_with_zeros = refl

above_u32 : number_answer (unsigned 32) (integer (0x01 ∷ 0x00 ∷ 0x00 ∷ 0x00 ∷ 0x00 ∷ [])) ≡ Err integer_too_large
unfolding number_answer number_cases fits_cases sign_cases answer
above_u32 = refl

-- an ENUMERATED, by its number
enum_fits : number_answer (unsigned 64) (enumerated 18446744073709551615) ≡ Ok (pos 18446744073709551615)
unfolding number_answer number_cases fits_cases sign_cases answer
enum_fits = refl

enum_above_32 : number_answer (unsigned 32) (enumerated 4294967296) ≡ Err integer_too_large
unfolding number_answer number_cases fits_cases sign_cases answer
enum_above_32 = refl

enum_of_32 : number_answer (unsigned 32) (enumerated 4294967295) ≡ Ok (pos 4294967295)
unfolding number_answer number_cases fits_cases sign_cases answer
enum_of_32 = refl

-- a BIT STRING, by its used bits
used_bits : number_answer (unsigned 64) (bit_string 8 (0x0d ∷ 0x71 ∷ 0x82 ∷ [])) ≡ Ok (pos 3441)
unfolding number_answer number_cases fits_cases sign_cases answer
used_bits = refl

used_bits_of_long : number_answer (unsigned 64) (bit_string 130 (0x0d ∷ 0x71 ∷ 0x82 ∷ 0x0e ∷ 0x73 ∷ 0x72 ∷ 0x76 ∷ 0x6e ∷ 0x67 ∷ 0x6e ∷ 0x62 ∷ 0x6c ∷ 0x6e ∷ 0x2d ∷ 0x65 ∷ 0x78 ∷ 0x30 ∷ 0x31 ∷ [])) ≡ Ok
    (pos 860)
unfolding number_answer number_cases fits_cases sign_cases answer
used_bits_of_long = refl

too_many_used : number_answer (unsigned 64) (bit_string 0 (0x0d ∷ 0x71 ∷ 0x82 ∷ 0x0e ∷ 0x73 ∷ 0x72 ∷ 0x76 ∷ 0x6e ∷ 0x67 ∷ 0x6e ∷ 0x62 ∷ 0x6c ∷ 0x6e ∷ 0x2d ∷ 0x65 ∷ 0x78 ∷ 0x30 ∷ 0x31
    ∷ [])) ≡ Err integer_too_large
unfolding number_answer number_cases fits_cases sign_cases answer
too_many_used = refl

last_six_unused : number_answer (unsigned 64) (bit_string 6 (0x6e ∷ 0x5d ∷ 0xe0 ∷ [])) ≡ Ok (pos 113015)
unfolding number_answer number_cases fits_cases sign_cases answer
last_six_unused = refl

more_unused_than_bits : number_answer (unsigned 64) (bit_string 3 []) ≡ Err invalid_length
unfolding number_answer number_cases fits_cases sign_cases answer
more_unused_than_bits = refl

nine_of_eight : number_answer (unsigned 64) (bit_string 9 (0xff ∷ [])) ≡ Err invalid_length
unfolding number_answer number_cases fits_cases sign_cases answer
nine_of_eight = refl

all_unused : number_answer (unsigned 64) (bit_string 8 (0xff ∷ [])) ≡ Ok (pos 0)
unfolding number_answer number_cases fits_cases sign_cases answer
all_unused = refl

sixty_four_used : number_answer (unsigned 64) (bit_string 8 (0xff ∷ 0xff ∷ 0xff ∷ 0xff ∷ 0xff ∷ 0xff ∷ 0xff ∷ 0xff ∷ 0x00 ∷ [])) ≡ Ok (pos 18446744073709551615)
unfolding number_answer number_cases fits_cases sign_cases answer
sixty_four_used = refl

sixty_five_used : number_answer (unsigned 64) (bit_string 7 (0x00 ∷ 0x00 ∷ 0x00 ∷ 0x00 ∷ 0x00 ∷ 0x00 ∷ 0x00 ∷ 0x00 ∷ 0x00 ∷ [])) ≡ Err integer_too_large
unfolding number_answer number_cases fits_cases sign_cases answer
sixty_five_used = refl

bits_above_32 : number_answer (unsigned 32) (bit_string 7 (0xff ∷ 0xff ∷ 0xff ∷ 0xff ∷ 0xff ∷ [])) ≡ Err integer_too_large
unfolding number_answer number_cases fits_cases sign_cases answer
bits_above_32 = refl

thirty_three_zeros : number_answer (unsigned 32) (bit_string 7 (0x00 ∷ 0x00 ∷ 0x00 ∷ 0x00 ∷ 0x80 ∷ [])) ≡ Ok (pos 1)
unfolding number_answer number_cases fits_cases sign_cases answer
thirty_three_zeros = refl

-- other contents
unsigned_of_boolean : number_answer (unsigned 64) (boolean true) ≡ Err wrong_type
unfolding number_answer number_cases fits_cases sign_cases answer
unsigned_of_boolean = refl

unsigned_of_octets : number_answer (unsigned 32) (string 4 (0x01 ∷ [])) ≡ Err wrong_type
unfolding number_answer number_cases fits_cases sign_cases answer
unsigned_of_octets = refl

unsigned_of_list : number_answer (unsigned 64) (sequence no_nodes) ≡ Err wrong_type
unfolding number_answer number_cases fits_cases sign_cases answer
unsigned_of_list = refl

-- the readers of BER: the tag, the constructed bit, and then the number
ber_padded : ber_answer (unsigned 32) false 2 (0x00 ∷ 0x00 ∷ 0x01 ∷ 0x23 ∷ 0x45 ∷ 0x67 ∷ []) ≡ Ok (pos 19088743)
unfolding ber_answer ber_cases other_cases number_cases form_cases is_empty fits_cases sign_cases answer
ber_padded = refl

ber_negative : ber_answer (unsigned 32) false 2 (0xff ∷ 0xff ∷ 0xff ∷ 0xff ∷ []) ≡ Err integer_negative
unfolding ber_answer ber_cases other_cases number_cases form_cases is_empty fits_cases sign_cases answer
ber_negative = refl

ber_other_tag : ber_answer (unsigned 32) false 3 (0x01 ∷ 0x00 ∷ 0x01 ∷ []) ≡ Err (unexpected_tag (Some 2) 3)
unfolding ber_answer ber_cases other_cases number_cases form_cases is_empty fits_cases sign_cases answer
ber_other_tag = refl

ber_other_tag_first : ber_answer (signed 32) true 3 [] ≡ Err (unexpected_tag (Some 2) 3)
unfolding ber_answer ber_cases other_cases number_cases form_cases is_empty fits_cases sign_cases answer
ber_other_tag_first = refl

ber_constructed : ber_answer (signed 64) true 2 (0x01 ∷ []) ≡ Err construct_unexpected
unfolding ber_answer ber_cases other_cases number_cases form_cases is_empty fits_cases sign_cases answer
ber_constructed = refl

ber_none : ber_answer (unsigned 32) false 2 [] ≡ Ok (pos 0)
unfolding ber_answer ber_cases other_cases number_cases form_cases is_empty fits_cases sign_cases answer
ber_none = refl

-- by DER the sign, the form, and then the size
der_padded : der_answer (unsigned 32) false 2 (0x00 ∷ 0x00 ∷ 0x01 ∷ 0x23 ∷ 0x45 ∷ 0x67 ∷ []) ≡ Err (der_constraint IntegerLeadingZeroes)
unfolding der_answer der_cases other_cases number_cases form_cases is_empty fits_cases sign_cases answer
der_padded = refl

der_sign_first : der_answer (unsigned 32) false 2 (0xff ∷ 0x80 ∷ []) ≡ Err integer_negative
unfolding der_answer der_cases other_cases number_cases form_cases is_empty fits_cases sign_cases answer
der_sign_first = refl

der_form : der_answer (signed 32) false 2 (0xff ∷ 0x80 ∷ []) ≡ Err (der_constraint IntegerLeadingFF)
unfolding der_answer der_cases other_cases number_cases form_cases is_empty fits_cases sign_cases answer
der_form = refl

der_none : der_answer (unsigned 32) false 2 [] ≡ Err (der_constraint IntegerEmpty)
unfolding der_answer der_cases other_cases number_cases form_cases is_empty fits_cases sign_cases answer
der_none = refl

der_form_before_size : der_answer (unsigned 64) false 2 (0x00 ∷ 0x00 ∷ 0x00 ∷ 0x00 ∷ 0x00 ∷ 0x00 ∷ 0x00 ∷ 0x00 ∷ 0x00 ∷ 0x00 ∷ 0x7f ∷ []) ≡ Err (der_constraint IntegerLeadingZeroes)
unfolding der_answer der_cases other_cases number_cases form_cases is_empty fits_cases sign_cases answer
der_form_before_size = refl

der_size : der_answer (unsigned 64) false 2 (0x01 ∷ 0x00 ∷ 0x00 ∷ 0x00 ∷ 0x00 ∷ 0x00 ∷ 0x00 ∷ 0x00 ∷ 0x00 ∷ []) ≡ Err integer_too_large
unfolding der_answer der_cases other_cases number_cases form_cases is_empty fits_cases sign_cases answer
der_size = refl

der_constructed : der_answer (signed 32) true 2 (0x01 ∷ []) ≡ Err (der_constraint Constructed)
unfolding der_answer der_cases other_cases number_cases form_cases is_empty fits_cases sign_cases answer
der_constructed = refl

der_other_tag : der_answer (signed 32) false 10 (0x01 ∷ []) ≡ Err (unexpected_tag (Some 2) 10)
unfolding der_answer der_cases other_cases number_cases form_cases is_empty fits_cases sign_cases answer
der_other_tag = refl

der_fits : der_answer (unsigned 32) false 2 (0x00 ∷ 0xff ∷ 0xff ∷ 0xff ∷ 0xff ∷ []) ≡ Ok (pos 4294967295)
unfolding der_answer der_cases other_cases number_cases form_cases is_empty fits_cases sign_cases answer
der_fits = refl

der_below : der_answer (signed 32) false 2 (0xff ∷ 0x7f ∷ 0xff ∷ 0xff ∷ 0xff ∷ []) ≡ Err integer_too_large
unfolding der_answer der_cases other_cases number_cases form_cases is_empty fits_cases sign_cases answer
der_below = refl

der_five : der_answer (signed 64) false 2 (0x05 ∷ []) ≡ Ok (pos 5)
unfolding der_answer der_cases other_cases number_cases form_cases is_empty fits_cases sign_cases answer
der_five = refl

-- whole inputs: 02 06 00 00 01 23 45 67 and 05 is a number by BER, and not by DER
abbrev padded : List ℕ
padded = 0 ∷ 0 ∷ 1 ∷ 0x23 ∷ 0x45 ∷ 0x67 ∷ []

ber_reads : BeginsWithBerNumber (unsigned 32) (2 ∷ 6 ∷ padded ++ 5 ∷ []) (pos 19088743) (5 ∷ [])
unfolding identifier answer ber_answer
ber_reads = record {
  class = Universal;
  octets = padded;
  element = (lit< tt, lit≤ tt, inl (6 ∷ [], (lit< tt, inl (lit< tt, refl, refl)), refl));
  passes = passed (integer_value padded) (pos 19088743) (ber_agree (unsigned 32) false 2 padded) ber_padded;
  value = refl;
}

der_refuses : DerNumberRefuses (unsigned 32) (2 ∷ 6 ∷ padded ++ 5 ∷ []) (der_constraint IntegerLeadingZeroes)
unfolding identifier shortest_length answer der_answer
der_refuses =
    inr (Universal, false, 2, padded, 5 ∷ [], record { octets = refl; number = lit< tt; length = lit< tt }, refused (integer_value padded) _ (der_agree (unsigned 32) false 2 padded) der_padded)

-- the class is not compared: 82 01 05 is a number
other_class : BeginsWithDerNumber (signed 64) (0x82 ∷ 1 ∷ 5 ∷ []) (pos 5) []
unfolding identifier shortest_length answer der_answer
other_class = record {
  class = ContextSpecific;
  octets = 5 ∷ [];
  element = record { octets = refl; number = lit< tt; length = lit< tt };
  passes = passed (integer_value (5 ∷ [])) (pos 5) (der_agree (signed 64) false 2 (5 ∷ [])) der_five;
  value = refl;
}

no_class : (c : Class) → ¬ (3 ≡ leading_bits c false + 2)
no_class c e = let z : 3 ≡ 64 * class_number c + 32 * 0 + 2 = e in omega arith

-- 03 03 01 00 01 begins with no number, and is refused for its tag
no_number : (v : ℤ) (rest : List ℕ) → ¬ BeginsWithDerNumber (unsigned 32) (3 ∷ 3 ∷ 1 ∷ 0 ∷ 1 ∷ []) v rest
unfolding identifier shortest_length
no_number v rest h = let q = short_identifier h.class false 2 (shortest_length (length h.octets) ++ (h.octets ++ rest)) 3 (3 ∷ 1 ∷ 0 ∷ 1 ∷ []) (sym h.element.octets) (lit< tt) in no_class h.class q.1

tag_refused : BerNumberRefuses (unsigned 32) (3 ∷ 3 ∷ 1 ∷ 0 ∷ 1 ∷ []) (unexpected_tag (Some 2) 3)
unfolding identifier answer ber_answer
tag_refused = inr (
  Universal,
  false,
  3,
  1 ∷ 0 ∷ 1 ∷ [],
  [],
  (lit< tt, lit≤ tt, inl (3 ∷ [], (lit< tt, inl (lit< tt, refl, refl)), refl)),
  refused (integer_value (1 ∷ 0 ∷ 1 ∷ [])) _ (ber_agree (unsigned 32) false 3 (1 ∷ 0 ∷ 1 ∷ [])) ber_other_tag,
)
