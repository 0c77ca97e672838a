-- Tag numbers of the long form: their groups of seven bits, and the octets that show a bad tag (X.690 8.1.2.4).
use Rattle.std.proofs.Common.{◌≡◌, ◌≢◌, ℕ, zero, suc, ◌+◌, ◌*◌, ◌/◌, ◌%◌, ◌^◌, ◌<◌, ◌≤◌, ◌⊎◌, Bool, false, List, [], ◌∷◌, ◌++◌, length, refl, sym, ap, ◌∙◌, inl, inr, ⊎_elim, arith, append_assoc, All}
use Rattle.std.proofs.lemmas.Bool.{cases_lt}
use Rattle.std.proofs.lemmas.List.{append-nil}
use Rattle.std.proofs.lemmas.List.Elements.{All-nil, All-cons}
use Rattle.der_base.specs.declared.header.Class.{Class}
use Rattle.der_base.specs.declared.header.Class.TheVariants.{Universal}
use Rattle.der_base.specs.Fault.{HasBadTag}
use Rattle.der_base.specs.Inner.Identifier.{IsCutIdentifier}
use Rattle.der_base.specs.Octets.{groups_before, groups, groups_value, leading_bits, identifier}
use Rattle.der_base.proofs.Octets.Identifiers.{head_same, identifier_short, identifier_long, identifier_same}

-- The groups of a number where another one follows: each has the high bit.
abbrev pub open_groups : ℕ → List ℕ
open_groups n = groups_before n n []

groups_fuel : (m k n : ℕ) (a b : List ℕ) → n ≤ m → n ≤ k → groups_before m n (a ++ b) ≡ groups_before k n a ++ b
groups_fuel zero zero n a b hm hk = refl
groups_fuel zero (suc k) zero a b hm hk = refl
groups_fuel zero (suc k) (suc n) a b hm hk = absurd (omega arith)
groups_fuel (suc m) zero zero a b hm hk = refl
groups_fuel (suc m) zero (suc n) a b hm hk = absurd (omega arith)
groups_fuel (suc m) (suc k) zero a b hm hk = refl
groups_fuel (suc m) (suc k) (suc n) a b hm hk = groups_fuel m k (suc n / 128) ((128 + suc n % 128) ∷ a) b (omega arith) (omega arith)

-- one more group with the high bit
open_split : (n : ℕ) → 0 < n → open_groups n ≡ open_groups (n / 128) ++ (128 + n % 128) ∷ []
open_split zero h = absurd (omega arith)
open_split (suc n) h = groups_fuel n (suc n / 128) (suc n / 128) [] ((128 + suc n % 128) ∷ []) (omega arith) (omega arith)

pub open_groups_more : (n r : ℕ) → r < 128 → 0 < n * 128 + r → open_groups (n * 128 + r) ≡ open_groups n ++ (128 + r) ∷ []
open_groups_more n r h some =
    let q : (n * 128 + r) / 128 ≡ n = omega arith in
    let l : (n * 128 + r) % 128 ≡ r = omega arith in
    open_split (n * 128 + r) some ∙ ap (λ k. open_groups k ++ (128 + (n * 128 + r) % 128) ∷ []) q ∙ ap (λ k. open_groups n ++ (128 + k) ∷ []) l

-- the last group
groups_split : (t : ℕ) → groups t ≡ open_groups (t / 128) ++ (t % 128) ∷ []
groups_split t = groups_fuel t (t / 128) (t / 128) [] ((t % 128) ∷ []) (omega arith) (omega arith)

pub groups_last : (n r : ℕ) → r < 128 → groups (n * 128 + r) ≡ open_groups n ++ r ∷ []
groups_last n r h =
    let q : (n * 128 + r) / 128 ≡ n = omega arith in
    let l : (n * 128 + r) % 128 ≡ r = omega arith in
    groups_split (n * 128 + r) ∙ ap (λ k. open_groups k ++ ((n * 128 + r) % 128) ∷ []) q ∙ ap (λ k. open_groups n ++ k ∷ []) l

-- what the groups spell
value_before : (m n : ℕ) (after : List ℕ) → n ≤ m → groups_value 0 (groups_before m n after) ≡ groups_value n after
value_before zero zero after h = refl
value_before zero (suc n) after h = absurd (omega arith)
value_before (suc m) zero after h = refl
value_before (suc m) (suc n) after h =
    let e : suc n / 128 * 128 + (128 + suc n % 128) % 128 ≡ suc n = omega arith in
    value_before m (suc n / 128) ((128 + suc n % 128) ∷ after) (omega arith) ∙ ap (λ k. groups_value k after) e

pub value_open : (n : ℕ) → groups_value 0 (open_groups n) ≡ n
value_open n = value_before n n [] (omega arith)

value_groups : (t : ℕ) → groups_value 0 (groups t) ≡ t
value_groups t = value_before t (t / 128) ((t % 128) ∷ []) (omega arith) ∙ omega arith

pub value-append : (n : ℕ) (xs ys : List ℕ) → groups_value n (xs ++ ys) ≡ groups_value (groups_value n xs) ys
value-append n [] ys = refl
value-append n (x ∷ xs) ys = value-append (n * 128 + x % 128) xs ys

value_grows : (n : ℕ) (xs : List ℕ) → n ≤ groups_value n xs
value_grows n [] = omega arith
value_grows n (x ∷ xs) = omega (arith, value_grows (n * 128 + x % 128) xs)

-- each has the high bit
open_before : (m n : ℕ) (after : List ℕ) → All (λ g. 128 ≤ g) after → All (λ g. 128 ≤ g) (groups_before m n after)
open_before zero n after h = h
open_before (suc m) zero after h = h
open_before (suc m) (suc n) after h = open_before m (suc n / 128) ((128 + suc n % 128) ∷ after) (All-cons (λ g. 128 ≤ g) (128 + suc n % 128) after (omega arith) h)

pub open_high : (n : ℕ) → All (λ g. 128 ≤ g) (open_groups n)
open_high n = open_before n n [] (All-nil (λ g. 128 ≤ g))

-- the first is no group of zeros
none_before : (m : ℕ) (after : List ℕ) → groups_before m 0 after ≡ after
none_before zero after = refl
none_before (suc m) after = refl

begins_before : (m n : ℕ) (after : List ℕ) (b : ℕ) (r : List ℕ) → n ≤ m → 0 < n → groups_before m n after ≡ b ∷ r → 128 < b
begins_before zero n after b r le some e = absurd (omega arith)
begins_before (suc m) zero after b r le some e = absurd (omega arith)
begins_before (suc m) (suc n) after b r le some e =
    ⊎_elim
    (λ low.
    let q : suc n / 128 ≡ 0 = omega arith in
    let f = head_same (sym (ap (λ k. groups_before m k ((128 + suc n % 128) ∷ after)) q ∙ none_before m ((128 + suc n % 128) ∷ after)) ∙ e) in
    omega (arith, f.0, low))
    (λ high. begins_before m (suc n / 128) ((128 + suc n % 128) ∷ after) b r (omega arith) (omega (arith, high)) e)
    (cases_lt (suc n) 128)

-- a first group that shows no bad tag
abbrev BeginsWell : List ℕ → Type 0
BeginsWell l = (b : ℕ) (r : List ℕ) → l ≡ b ∷ r → (31 ≤ b) × (b ≢ 128)

open_begins : (n : ℕ) → BeginsWell (open_groups n)
open_begins zero = λ b r e. absurd (omega (arith, ap length e))
open_begins (suc n) = λ b r e.
    let h = begins_before (suc n) (suc n) [] b r (omega arith) (omega arith) e in
    (omega (arith, h), λ z. omega (arith, h, z))

groups_begin : (t : ℕ) → 31 ≤ t → BeginsWell (groups t)
groups_begin t h = λ b r e.
    ⊎_elim
    (λ low.
    let q : t / 128 ≡ 0 = omega arith in
    let f = head_same (sym (ap (λ k. groups_before t k ((t % 128) ∷ [])) q ∙ none_before t ((t % 128) ∷ [])) ∙ e) in
    (omega (arith, f.0, low, h), λ z. omega (arith, f.0, low, z)))
    (λ high.
    let a = begins_before t (t / 128) ((t % 128) ∷ []) b r (omega arith) (omega (arith, high)) e in
    (omega (arith, a), λ z. omega (arith, a, z)))
    (cases_lt t 128)

-- the octet b behind the groups bs shows a bad tag
abbrev IsBadAt : List ℕ → ℕ → Type 0
IsBadAt bs b = ((bs ≡ []) × (b ≡ 128)) ⊎ ((bs ≡ []) × (b < 31)) ⊎ (2 ^ 32 ≤ groups_value 0 (bs ++ b ∷ []))

-- one of the groups of a number shows it only where the number is too large
bad_is_large : (gs bs y : List ℕ) (b : ℕ) → BeginsWell gs → gs ≡ bs ++ b ∷ y → IsBadAt bs b → 2 ^ 32 ≤ groups_value 0 gs
bad_is_large gs bs y b w e (inl (n, h)) = absurd ((w b y (e ∙ ap (λ l. l ++ b ∷ y) n)).1 h)
bad_is_large gs bs y b w e (inr (inl (n, h))) = absurd (omega (arith, (w b y (e ∙ ap (λ l. l ++ b ∷ y) n)).0, h))
bad_is_large gs bs y b w e (inr (inr h)) =
    let v : groups_value 0 gs ≡ groups_value (groups_value 0 (bs ++ b ∷ [])) y =
    ap (groups_value 0) (e ∙ sym (append_assoc bs (b ∷ []) y)) ∙ value-append 0 (bs ++ b ∷ []) y in
    omega (arith, h, v, value_grows (groups_value 0 (bs ++ b ∷ [])) y)

-- octets with the high bit, and one more, lie within the groups that they begin with
within : (xs bs rest r : List ℕ) (s b : ℕ) → All (λ g. 128 ≤ g) bs → s < 128 → xs ++ s ∷ rest ≡ bs ++ b ∷ r → (y : List ℕ) × (xs ++ s ∷ [] ≡ bs ++ b ∷ y)
within [] [] rest r s b h low e = ([], cc)
within [] (g ∷ bs) rest r s b h low e = absurd (omega (arith, (head_same e).0, low, h 0 0 (omega arith)))
within (x ∷ xs) [] rest r s b h low e = (xs ++ s ∷ [], cc)
within (x ∷ xs) (g ∷ bs) rest r s b h low e =
    let q = head_same e in
    let w = within xs bs rest r s b (λ k d l. h (suc k) d (omega (arith, l))) low q.1 in
    (w.0, cc)

-- Identifier octets show a bad tag only where their number is too large,
bad_tag_is_large : (i : List ℕ) (c : Class) (p : Bool) (t : ℕ) (rest : List ℕ) → i ≡ identifier c p t ++ rest → HasBadTag i → 2 ^ 32 ≤ t
bad_tag_is_large i c p t rest e (a, b, bs, r, f, m, h, k) =
    ⊎_elim
    (λ low.
    let q = head_same (sym (ap (λ l. l ++ rest) (identifier_short c p t low)) ∙ sym e ∙ f) in
    absurd (omega (arith, q.0, m, low)))
    (λ high.
    let q = head_same (sym (ap (λ l. l ++ rest) (identifier_long c p t high)) ∙ sym e ∙ f) in
    let o = open_groups (t / 128) in
    let w = within o bs rest r (t % 128) b h (omega arith) (sym (append_assoc o ((t % 128) ∷ []) rest) ∙ ap (λ l. l ++ rest) (sym (groups_split t)) ∙ q.1) in
    omega (arith, value_groups t, bad_is_large (groups t) bs w.0 b (groups_begin t high) (groups_split t ∙ w.1) k))
    (cases_lt t 31)

pub bad_tag_no_identifier : (i : List ℕ) (c : Class) (p : Bool) (t : ℕ) (rest : List ℕ) → t < 2 ^ 32 → i ≡ identifier c p t ++ rest → HasBadTag i → ⊥
bad_tag_no_identifier i c p t rest h e b = omega (arith, h, bad_tag_is_large i c p t rest e b)

-- identifier octets that are cut are no whole ones
pub cut_no_identifier : (i : List ℕ) (c : Class) (p : Bool) (t : ℕ) (rest : List ℕ) → i ≡ identifier c p t ++ rest → IsCutIdentifier i → ⊥
cut_no_identifier i c p t rest e x =
    let q = identifier_same c x.class p x.constructed t x.number (rest ++ x.missing) [] (sym (append_assoc (identifier c p t) rest x.missing) ∙ ap (λ l. l ++ x.missing) (sym e) ∙ x.octets
    ∙ sym (append-nil (identifier x.class x.constructed x.number))) in
    x.some (nil_tail rest x.missing q.3)
  where
    nil_tail : (xs ys : List ℕ) → xs ++ ys ≡ [] → ys ≡ []
    nil_tail [] ys f = f
    nil_tail (y ∷ xs) ys f = absurd (omega (arith, ap length f))

-- the same behind any first octet of the long form
pub bad_tag_behind : (a x : ℕ) (s : List ℕ) → x % 32 ≡ 31 → HasBadTag (a ∷ s) → HasBadTag (x ∷ s)
bad_tag_behind a x s m (a', b, bs, r, e, m', h, k) = (x, b, bs, r, ap (λ l. x ∷ l) (head_same e).1, m, h, k)

pub cut_behind : (c : Class) (p : Bool) (s : List ℕ) → IsCutIdentifier (31 ∷ s) → IsCutIdentifier ((leading_bits c p + 31) ∷ s)
cut_behind c p s x =
    ⊎_elim
    (λ low. absurd (omega (arith, (head_same (x.octets ∙ identifier_short x.class x.constructed x.number low)).0, low)))
    (λ high. record {
      class = c;
      constructed = p;
      number = x.number;
      missing = x.missing;
      some = x.some;
      octets = ap (λ l. (leading_bits c p + 31) ∷ l) (head_same (x.octets ∙ identifier_long x.class x.constructed x.number high)).1 ∙ sym (identifier_long c p x.number high);
      no_bad_tag = λ b. x.no_bad_tag (bad_tag_behind (leading_bits c p + 31) 31 s refl b);
    })
    (cases_lt x.number 31)

-- where no octet is left
pub cut_empty : IsCutIdentifier []
cut_empty = record {
  class = Universal;
  constructed = false;
  number = 0;
  missing = 0 ∷ [];
  some = λ e. omega (arith, ap length e);
  octets = sym (identifier_short Universal false 0 (omega arith));
  no_bad_tag = λ b. omega (arith, ap length b.4);
}

-- where the last group is missing
pub cut_open : (n : ℕ) (s : List ℕ) → s ≡ open_groups n → n < 2 ^ 32 → IsCutIdentifier (31 ∷ s)
cut_open n s e h = record {
  class = Universal;
  constructed = false;
  number = n * 128 + 31;
  missing = 31 ∷ [];
  some = λ z. omega (arith, ap length z);
  octets = ap (λ l. 31 ∷ l ++ 31 ∷ []) e ∙ ap (λ l. 31 ∷ l) (sym (groups_last n 31 (omega arith))) ∙ sym (identifier_long Universal false (n * 128 + 31) (omega arith));
  no_bad_tag = λ b. omega (arith, h, value_open n, bad_is_large (open_groups n) b.2 b.3 b.1 (open_begins n) (sym e ∙ (head_same b.4).1) b.7);
}
