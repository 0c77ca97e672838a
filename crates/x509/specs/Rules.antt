-- The rules of RFC 5280 that its ASN.1 doesn't say, and reading with them.
use Rattle.std.specs.Prelude.{◌≡◌, ◌≢◌, ℕ, ◌+◌, ◌<◌, ◌⊎◌, false, true, pos, ◌<ℤ◌, None, List, [], ◌∷◌, length}
use Rattle.std.specs.Prelude.{Result, MatchResult, count_by, nat_eq, slice_index_or}
use Rattle.std.specs.Cmp.Lexicographic.{pointwise}
use Rattle.der_base.specs.declared.header.Class.TheVariants.{Universal}
use Rattle.der_base.specs.declared.rules.Rules.TheVariants.{Der}
use Rattle.der_base.specs.Octets.{integer_value}
use Rattle.der_base.specs.SetOfOrder.{Descends}
use Rattle.der_elements.specs.Check.Elements.{IsElement}
use Rattle.x509.specs.declared.certificate.Certificate.{Certificate}
use Rattle.x509.specs.declared.certificate.Version.TheVariants.{V1, V3}
use Rattle.x509.specs.declared.rules.Rule.{Rule}
use Rattle.x509.specs.declared.rules.Rule.TheVariants.{SameAlgorithms, PositiveSerialNumber, ShortSerialNumber}
use Rattle.x509.specs.declared.rules.Rule.TheVariants.{NamedIssuer, OrderedAttributes, UtcTimeTo2049}
use Rattle.x509.specs.declared.rules.Rule.TheVariants.{WholeSeconds, UniqueIdVersion, ExtensionsVersion}
use Rattle.x509.specs.declared.rules.Rule.TheVariants.{DistinctExtensions, NamedSubject, DerValues}
use Rattle.x509.specs.declared.rules.StrictError.{StrictError}
use Rattle.x509.specs.declared.rules.StrictError.TheVariants.{NotRead, Broken}
use Rattle.x509.specs.declared.time.Time.{Time}
use Rattle.x509.specs.declared.time.Time.TheVariants.{Generalized, Utc}
use Rattle.x509.specs.Certificates.{Algorithm, Signed, certificate_of, extension, whole_certificate}
use Rattle.x509.specs.Formats.{Fault, FieldFault, Format, element, refuses, sequence, set, spells, start}
use Rattle.x509.specs.Formats.{with_octets}
use Rattle.x509.specs.Lists.{BeginsWithNone, Somewhere}
use Rattle.x509.specs.Readers.{field_fault}

abbrev pub IsPositive : List ℕ → Type 0
IsPositive w = pos 0 <ℤ integer_value w

-- a GeneralizedTime of a year to 2049
abbrev pub IsEarly : Time → Type 0
IsEarly (Utc t) = ⊥
IsEarly (Generalized t) = t.year < 2050

-- a GeneralizedTime with a fraction of a second; a UTCTime has none
abbrev pub HasFraction : Time → Type 0
HasFraction (Utc t) = ⊥
HasFraction (Generalized t) = t.nanosecond ≢ None

-- Lists are walked without a look into their items, which were read: `specs/Laws` says that these are the attributes
-- and the extensions.

-- the attribute with these octets is greater than the next one
abbrev pub DescendsNext : List ℕ → List ℕ → Type 0
DescendsNext a i = (b : List ℕ × List ℕ) × (rest : List ℕ) × spells (with_octets sequence) i b rest
    × Descends a b.0

-- an attribute of a relative name is greater than the next one; by DER they ascend (X.690 11.6)
abbrev pub AttributesDescend : List ℕ → Type 0
AttributesDescend i = Somewhere (with_octets sequence) (λ a rest. DescendsNext a.0 rest) i

-- those of a relative name of a name do
abbrev pub HasDescent : List ℕ → Type 0
HasDescent i = Somewhere set (λ w rest. AttributesDescend w) i

-- the identifier that the content of an attribute or an extension begins with
abbrev pub leading_identifier : Format Fault (List ℕ)
leading_identifier = element Universal false 6

-- two extensions have one identifier
abbrev pub HaveOneIdentifier : List ℕ → List ℕ → Type 0
HaveOneIdentifier x y = (w : List ℕ) × (r : List ℕ) × (q : List ℕ)
    × spells leading_identifier x w r × spells leading_identifier y w q

-- an extension has the identifier of a later one (4.2)
abbrev pub HasRepetition : List ℕ → Type 0
HasRepetition i = Somewhere sequence (λ x rest. Somewhere sequence (λ y _. HaveOneIdentifier x y) rest) i

-- the identifiers that extensions begin with, one after another from i up to rest
pub data AreIdentifiers : List ℕ → List (List ℕ) → List ℕ → Type 0 where
  at_end : {i rest : List ℕ} {ws : List (List ℕ)} → ws ≡ [] → i ≡ rest → AreIdentifiers i ws rest
  identified : {i m rest : List ℕ} {ws vs : List (List ℕ)} (x w q : List ℕ) → spells sequence i x m
      → spells leading_identifier x w q → ws ≡ w ∷ vs → AreIdentifiers m vs rest → AreIdentifiers i ws rest
  unidentified : {i m rest : List ℕ} {ws : List (List ℕ)} (x : List ℕ) → spells sequence i x m
      → BeginsWithNone leading_identifier x → AreIdentifiers m ws rest → AreIdentifiers i ws rest

-- more than n extensions begin with one
abbrev pub HasMoreThan : ℕ → List ℕ → Type 0
HasMoreThan n i = (ws : List (List ℕ)) × (rest : List ℕ) × AreIdentifiers i ws rest × (n < length ws)

-- two extensions have one identifier (4.2), or there are more than 512: the most is up to an implementation (B)
abbrev pub AreIndistinct : List ℕ → Type 0
AreIndistinct i = HasMoreThan 512 i ⊎ HasRepetition i

-- some octets are among the texts more than once
abbrev pub HasTwice : List (List ℕ) → Type 0
HasTwice ws = (w : List ℕ) × (1 < count_by (λ v. pointwise nat_eq w v) ws)

-- two that are side by side are the same octets
abbrev pub HaveEqualNeighbours : {X : Type 0} → List X → (X → List ℕ) → Type 0
HaveEqualNeighbours {X} xs text = (k : ℕ) × (d : X) × (k + 1 < length xs)
    × (text (slice_index_or xs k d) ≡ text (slice_index_or xs (k + 1) d))

-- the octets are a SEQUENCE, and it isn't empty
abbrev pub IsFilled : List ℕ → Type 0
IsFilled v = (w : List ℕ) × spells sequence v w [] × (w ≢ [])

-- an extension of the list has this identifier, is critical, and its value is such a SEQUENCE
abbrev pub HasCriticalList : List ℕ → List ℕ → Type 0
HasCriticalList identifier i =
    Somewhere extension (λ e _. (e.identifier ≡ identifier) × (e.critical ≡ true) × IsFilled e.value) i

-- the octets of the identifier of subjectAltName, 2.5.29.17, which is a SEQUENCE SIZE (1..MAX) OF names (4.2.1.6)
abbrev pub subject_alternative_name : List ℕ
subject_alternative_name = 0x55 ∷ 0x1D ∷ 0x11 ∷ []

-- one element by DER (X.690 10), with others inside to depth 50
abbrev pub IsDer : List ℕ → Type 0
IsDer i = IsElement Der 50 i

-- the parameters of the algorithm are there, and aren't one
abbrev pub ParametersBreakDer : Algorithm → Type 0
ParametersBreakDer a = (a.parameters ≢ []) × (¬ IsDer a.parameters)

-- what follows the identifier in the content of an attribute isn't: its value
abbrev pub ValueBreaksDer : List ℕ → Type 0
ValueBreaksDer w = (x : List ℕ) × (v : List ℕ) × spells leading_identifier w x v × (¬ IsDer v)

-- that of an attribute isn't
abbrev pub AttributesBreakDer : List ℕ → Type 0
AttributesBreakDer i = Somewhere sequence (λ w _. ValueBreaksDer w) i

-- that of an attribute of a relative name of a name isn't
abbrev pub NameBreaksDer : List ℕ → Type 0
NameBreaksDer i = Somewhere set (λ w _. AttributesBreakDer w) i

-- issuer and subject are the same octets
abbrev pub IsSelfIssued : Signed → Type 0
IsSelfIssued c = c.tbs_certificate.issuer ≡ c.tbs_certificate.subject

-- the certificate breaks the rule
abbrev pub Breaks : Rule → Signed → Type 0
Breaks SameAlgorithms c = c.algorithm ≢ c.tbs_certificate.signature
Breaks PositiveSerialNumber c = ¬ IsPositive c.tbs_certificate.serial_number
Breaks ShortSerialNumber c = 20 < length c.tbs_certificate.serial_number
Breaks NamedIssuer c = c.tbs_certificate.issuer ≡ []
Breaks OrderedAttributes c = let t = c.tbs_certificate in HasDescent t.issuer ⊎ HasDescent t.subject
Breaks UtcTimeTo2049 c = let v = c.tbs_certificate.validity in IsEarly v.not_before ⊎ IsEarly v.not_after
Breaks WholeSeconds c = let v = c.tbs_certificate.validity in HasFraction v.not_before ⊎ HasFraction v.not_after
Breaks UniqueIdVersion c = let t = c.tbs_certificate in
    (t.version ≡ V1) × ((t.issuer_id ≢ None) ⊎ (t.subject_id ≢ None))
Breaks ExtensionsVersion c = let t = c.tbs_certificate in (t.version ≢ V3) × (t.extensions ≢ [])
Breaks DistinctExtensions c = AreIndistinct c.tbs_certificate.extensions
Breaks NamedSubject c = let t = c.tbs_certificate in
    (t.subject ≡ []) × (¬ HasCriticalList subject_alternative_name t.extensions)
Breaks DerValues c = let t = c.tbs_certificate in ParametersBreakDer c.algorithm
    ⊎ ParametersBreakDer t.signature ⊎ ParametersBreakDer t.key_info.algorithm
    ⊎ NameBreaksDer t.issuer ⊎ NameBreaksDer t.subject

abbrev pub every_rule : List Rule
every_rule =
    SameAlgorithms ∷ PositiveSerialNumber ∷ ShortSerialNumber ∷ NamedIssuer ∷ OrderedAttributes ∷ UtcTimeTo2049
    ∷ WholeSeconds ∷ UniqueIdVersion ∷ ExtensionsVersion ∷ DistinctExtensions ∷ NamedSubject ∷ DerValues ∷ []

abbrev pub NoneBroken : List Rule → Signed → Type 0
NoneBroken [] c = Unit {0}
NoneBroken (q ∷ qs) c = (¬ Breaks q c) × NoneBroken qs c

-- r is broken, and none before it in the list
abbrev pub IsFirstBroken : List Rule → Signed → Rule → Type 0
IsFirstBroken [] c r = ⊥
IsFirstBroken (q ∷ qs) c r = (Breaks q c × (r ≡ q)) ⊎ ((¬ Breaks q c) × IsFirstBroken qs c r)

-- the octets are a certificate that breaks no rule
abbrev pub IsStrict : List ℕ → Signed → Type 0
IsStrict i c = spells whole_certificate i c [] × NoneBroken every_rule c

-- what is wrong: the octets aren't a certificate by its ASN.1, or it breaks a rule
pub data StrictFault : Type 0 where
  not_read : FieldFault → StrictFault
  broken : Rule → StrictFault

abbrev pub strict_fault : StrictError → StrictFault
strict_fault (NotRead e) = not_read (field_fault e)
strict_fault (Broken r) = broken r

-- the first thing that is wrong
abbrev pub IsFirstWrong : List ℕ → StrictFault → Type 0
IsFirstWrong i (not_read e) = refuses whole_certificate (start i) e
IsFirstWrong i (broken r) = (c : Signed) × spells whole_certificate i c [] × IsFirstBroken every_rule c r

-- A strict reader returns a certificate exactly where the octets are one that breaks no rule, with its fields; else the
-- first thing that is wrong, and that is the only one.
pub record ReadsStrictly (i : List ℕ) (result : Result Certificate StrictError) : Type 0 where
  -- what is returned is so
  pub found : MatchResult result (λ c. IsStrict i (certificate_of c)) (λ e. IsFirstWrong i (strict_fault e))
  -- what is so is returned
  pub only : (c : Signed) → IsStrict i c → MatchResult result (λ x. certificate_of x ≡ c) (λ e. ⊥)
  -- and so is what is wrong
  pub refuses : (e : StrictFault) → IsFirstWrong i e → MatchResult result (λ x. ⊥) (λ x. strict_fault x ≡ e)
