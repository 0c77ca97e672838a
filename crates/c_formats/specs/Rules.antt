-- The rules of RFC 5280 by their numbers, and those that a certificate or a list of revoked certificates breaks.
use Rattle.std.specs.Prelude.{◌≡◌, ℕ, ◌+◌, ◌-◌, ◌⊎◌, nat_lt, if◌then◌else◌, Option, List, [], ◌∷◌, ◌++◌, length}
use Rattle.std.specs.Prelude.{slice_get}
use Rattle.der_elements.specs.Check.Overlay.{overlay}
use Rattle.x509.specs.declared.certificate.Certificate.{Certificate}
use Rattle.x509.specs.declared.crl.list.CertificateList.{CertificateList}
use Rattle.x509.specs.Certificates.{certificate_of}
use Rattle.x509.specs.Crl.Lists.{certificate_list_of}
use Rattle.x509_rules.specs.declared.certificate.TheConstants.{MUST_RULES, SHOULD_RULES}
use Rattle.x509_rules.specs.declared.crl.revoked.TheConstants.{MUST_LIST_RULES, SHOULD_LIST_RULES}
use Rattle.x509_rules.specs.Crl.ListRules.{BreaksList}
use Rattle.x509_rules.specs.Rules.{Breaks}

-- the number is the first of some iff its rule is broken; the others follow
abbrev pub IsNumbered : Type 0 → ℕ → List ℕ → List ℕ → Type 0
IsNumbered IsBroken n numbers others =
    (IsBroken × (numbers ≡ n ∷ others)) ⊎ ((¬ IsBroken) × (numbers ≡ others))

-- Rules are numbered from `n` on. These are the numbers of those that are broken, in order.
unfoldable pub AreBroken : {R : Type 0} → (R → Type 0) → ℕ → List R → List ℕ → Type 0
AreBroken IsBroken n [] numbers = numbers ≡ []
AreBroken IsBroken n (r ∷ rs) numbers =
    (others : List ℕ) × IsNumbered (IsBroken r) n numbers others × AreBroken IsBroken (n + 1) rs others

-- the numbers are written over the caller's, as far as there is room, and counted, room or not
abbrev pub PutsBroken : {R : Type 0} → (R → Type 0) → ℕ → List R → List ℕ → List ℕ × ℕ → Type 0
PutsBroken IsBroken n rules old new = (numbers : List ℕ) × AreBroken IsBroken n rules numbers
    × (new.0 ≡ overlay old 0 numbers) × (new.1 ≡ length numbers)

-- The rules of certificates are numbered from 1 on, and those of lists from 1001 on: those with MUST, and then those
-- with SHOULD.
abbrev pub HasBroken : List ℕ → Certificate → List ℕ × ℕ → Type 0
HasBroken old c new =
    PutsBroken (λ r. Breaks r (certificate_of c)) 1 (MUST_RULES.now ++ SHOULD_RULES.now) old new

abbrev pub ListHasBroken : List ℕ → CertificateList → List ℕ × ℕ → Type 0
ListHasBroken old l new =
    PutsBroken (λ r. BreaksList r (certificate_list_of l)) 1001 (MUST_LIST_RULES.now ++ SHOULD_LIST_RULES.now) old new

-- the item of a list, or of the one that follows it
abbrev pub item : {T : Type 0} → List T → List T → ℕ → Option T
item items others index = slice_get (items ++ others) index

-- 1 for the index of an item, 2 for one of the list that follows it, 0 for any other
abbrev pub kind : {T : Type 0} → List T → List T → ℕ → ℕ
kind items others index = if nat_lt index (length items) then 1
    else if nat_lt index (length items + length others) then 2
    else 0

-- 1 for the number of a rule with MUST, 2 for one with SHOULD, 0 for any other
abbrev pub rule_kind : ℕ → ℕ
rule_kind n = if nat_lt n 1 then 0
    else if nat_lt n 1001 then kind MUST_RULES.now SHOULD_RULES.now (n - 1)
    else kind MUST_LIST_RULES.now SHOULD_LIST_RULES.now (n - 1001)
