-- Statements of the laws in `src/laws.rt`: SETs and SEQUENCEs that are walked without a look into them are the relative
-- names, attributes and extensions that were read; and the octets that are signed say what was read.
use Rattle.std.specs.Prelude.{◌≡◌, ℕ, ◌⊎◌, ◌↔◌, List, [], ◌++◌, length}
use Rattle.der_base.specs.Octets.{identifier, shortest_length}
use Rattle.der_base.specs.SetOfOrder.{Descends}
use Rattle.der_cursor.specs.Elements.{Element}
use Rattle.x509.specs.declared.rules.Rule.TheVariants.{OrderedAttributes, DistinctExtensions}
use Rattle.x509.specs.Certificates.{Attribute, Signed, attribute, extension, name, relative_name, tbs_certificate}
use Rattle.x509.specs.Certificates.{whole_certificate}
use Rattle.x509.specs.Formats.{list_of, set, spells, with_octets}
use Rattle.x509.specs.Lists.{BeginsWithNone, Somewhere}
use Rattle.x509.specs.Rules.{Breaks, HasMoreThan, IsDer, NameBreaksDer}

-- the octets are relative names, one after another, and nothing else
abbrev pub AreRelativeNames : List ℕ → Type 0
AreRelativeNames i = spells (list_of relative_name) i tt []

-- those of a name are
abbrev pub NamesHaveThem : Type 0
NamesHaveThem = (i w rest : List ℕ) → spells name i w rest → AreRelativeNames w

-- each SET that an iterator over them gives is the next relative name
abbrev pub SetsAreRelativeNames : Type 0
SetsAreRelativeNames = (i w rest : List ℕ) → AreRelativeNames i → spells set i w rest
    → spells relative_name i w rest × AreRelativeNames rest

-- and it gives all of them
abbrev pub NoneIsLeft : Type 0
NoneIsLeft = (i : List ℕ) → AreRelativeNames i → BeginsWithNone set i → i ≡ []

-- an attribute of the relative name with this content is greater than the next one (X.690 11.6)
abbrev pub IsUnordered : List ℕ → Type 0
IsUnordered w = Somewhere (with_octets attribute) (λ a rest. (b : List ℕ × Attribute) × (after : List ℕ)
    × spells (with_octets attribute) rest b after × Descends a.0 b.0) w

-- of a certificate that was read, the rule is broken by the attributes of a relative name of the issuer or the subject
abbrev pub OrderIsOfAttributes : Type 0
OrderIsOfAttributes = (i : List ℕ) (c : Signed) → spells whole_certificate i c [] → Breaks OrderedAttributes c
    ↔ let t = c.tbs_certificate in
    Somewhere relative_name (λ w _. IsUnordered w) t.issuer ⊎ Somewhere relative_name (λ w _. IsUnordered w) t.subject

-- and by two extensions with one identifier, or more than 512
abbrev pub RepetitionIsOfIdentifiers : Type 0
RepetitionIsOfIdentifiers = (i : List ℕ) (c : Signed) → spells whole_certificate i c [] → Breaks DistinctExtensions c
    ↔ let t = c.tbs_certificate in HasMoreThan 512 t.extensions
    ⊎ Somewhere extension (λ x rest. Somewhere extension (λ y _. x.identifier ≡ y.identifier) rest) t.extensions

-- the octets of an element by DER (X.690 8.1.1, 10.1)
abbrev pub encoding_of : Element → List ℕ
encoding_of e = identifier e.0 e.1 e.2 ++ shortest_length (length e.3) ++ e.3

-- an attribute of the relative name with this content has a value that isn't in DER
abbrev pub HasOtherValue : List ℕ → Type 0
HasOtherValue w = Somewhere attribute (λ a _. ¬ IsDer (encoding_of a.value)) w

-- of a name that was read, the values of attributes are asked
abbrev pub ValuesAreOfAttributes : Type 0
ValuesAreOfAttributes = (i w rest : List ℕ) → spells name i w rest
    → NameBreaksDer w ↔ Somewhere relative_name (λ v _. HasOtherValue v) w

-- the octets that are signed say what was read, and nothing else
abbrev pub SignedOctetsAreRead : Type 0
SignedOctetsAreRead = (i : List ℕ) (c : Signed) → spells whole_certificate i c []
    → spells tbs_certificate c.tbs c.tbs_certificate []
