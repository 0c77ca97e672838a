-- Formats: which octets spell which value, and where octets spell none, which fault is the first. A format is made of
-- smaller ones, in the order of the fields of a type of ASN.1.
use Rattle.std.specs.Prelude.{◌≡◌, ◌≢◌, ℕ, ◌-◌, ◌⊎◌, Bool, true, false, Option, Some, None, List, [], ◌++◌, length}
use Rattle.der_base.specs.declared.header.Class.{Class}
use Rattle.der_base.specs.declared.header.Class.TheVariants.{ContextSpecific, Universal}
use Rattle.der_base.specs.declared.error.ErrorKind.TheVariants.{Eof}
use Rattle.der_base.specs.declared.error.Needed.TheVariants.{Size}
use Rattle.der_base.specs.declared.rules.Rules.TheVariants.{Der}
use Rattle.der_base.specs.LeafRefusal.{IsFirstRefusal, NoneHolds}
use Rattle.der_base.specs.Refusal.{Refusal, incomplete, parser_fault, wrong_value}
use Rattle.der_cursor.specs.Cursors.{list_end}
use Rattle.der_cursor.specs.Elements.{Element, SpellsAny, SpellsElement, ElementRefuses, ElementLacks, NoElement}
use Rattle.der_cursor.specs.Elements.{BeginsWithTag, IsNext}
use Rattle.der_values.specs.Kinds.{Kind}
use Rattle.x509.specs.declared.error.Field.{Field}

-- Where a reader is: the octets that aren't read yet, where they end in the input, and whether they are the content of
-- an element.
pub record Spot : Type 0 where
  pub octets : List ℕ
  pub end : ℕ
  pub inside : Bool

-- the number of octets of the input before them
abbrev pub place_at : Spot → ℕ
place_at s = s.end - length s.octets

-- the whole input
abbrev pub start : List ℕ → Spot
start i = record { octets = i; end = length i; inside = false }

-- the same list, where these octets are left
abbrev pub left_at : Spot → List ℕ → Spot
left_at s r = record s { octets = r }

-- the content w of an element, after which s is
abbrev pub content_at : Spot → List ℕ → Spot
content_at s w = record { octets = w; end = place_at s; inside = true }

-- what is wrong: an error by its name, or that the input is cut short, and how many octets it lacks
pub data Reason : Type 0 where
  wrong : Refusal → Reason
  lacking : ℕ → Reason
  -- none of these: no format has it
  unnamed : Reason

-- what is wrong with the element that is at this offset in the input, in the list that ends there
pub record Fault : Type 0 where
  pub offset : ℕ
  pub list_end : Option ℕ
  pub reason : Reason

abbrev pub fault_at : Spot → Reason → Fault
fault_at s x = record { offset = place_at s; list_end = list_end s.inside s.end; reason = x }

-- the field of a certificate, and what is wrong with it
abbrev pub FieldFault : Type 0
FieldFault = Field × Fault

abbrev pub wrong_at : Refusal → Spot → Fault
wrong_at e s = fault_at s (wrong e)

-- The next element is wrong. One that its list cuts short is wrong, since no further octets mend it; one that the input
-- cuts short lacks octets.
abbrev pub IsReason : (Refusal → Type 0) → Spot → Reason → Type 0
IsReason refuses s (wrong e) = refuses e
    ⊎ ((s.inside ≡ true) × (n : ℕ) × ElementLacks Der s.octets n × (e ≡ incomplete (Size n)))
IsReason refuses s (lacking n) = (s.inside ≡ false) × ElementLacks Der s.octets n
IsReason refuses s unnamed = ⊥

abbrev pub RefusesNext : (Refusal → Type 0) → Spot → Fault → Type 0
RefusesNext refuses s e = (x : Reason) × (e ≡ fault_at s x) × IsReason refuses s x

-- A format of values V, whose faults are in E.
infixl 10 ◌>>=◌
pub data Format : Type 0 → Type 0 → Type 1 where
  -- a value of one format, and after it one of the format that the value gives
  ◌>>=◌ : {E U V : Type 0} → Format E U → (U → Format E V) → Format E V
  -- this value, of no octets
  done : {E V : Type 0} → V → Format E V
  -- the content octets of an element of this class, constructed bit and number
  element : Class → Bool → ℕ → Format Fault (List ℕ)
  -- the value of a primitive element, whose content octets are of this kind
  primitive : {V : Type 0} → Class → ℕ → Kind V → Format Fault V
  -- an element of any type, with its header; its content octets may be any
  any : Format Fault Element
  -- the content octets of an element that was read are of a format
  inside : {E V : Type 0} → List ℕ → Format E V → Format E V
  -- one of two formats: the first where the octets are so
  either : {E V : Type 0} → (List ℕ → Type 0) → Format E V → Format E V → Format E V
  -- the octets that are left are so, or there is this fault
  check : {E : Type 0} → (List ℕ → Type 0) → (Spot → E) → Format E (Unit {0})
  -- the value is so, or there is this fault, at the place of its first octet
  requiring : {E V : Type 0} → (V → Type 0) → (Spot → E) → Format E V → Format E V
  -- the octets of a value, and the value
  with_octets : {E V : Type 0} → Format E V → Format E (List ℕ × V)
  -- Items one after another, to the end of the octets. Each may depend on a state, which the one before left.
  items : {E S : Type 0} → (S → Format E S) → S → Format E S
  -- the faults are those of this field
  named : {N V : Type 0} → N → Format Fault V → Format (N × Fault) V

-- items one after another: what one of them says of a state, the octets, the state after it, and the octets after it
pub data Items {S : Type 0} (Item : S → List ℕ → S → List ℕ → Type 0) : S → List ℕ → S → List ℕ → Type 0 where
  none : {a b : S} {i j : List ℕ} → a ≡ b → i ≡ j → Items Item a i b j
  more : {a b c : S} {i j k : List ℕ} → i ≢ [] → Item a i b j → Items Item b j c k → Items Item a i c k

-- i begins with octets of the value, and rest follows
abbrev pub spells : {E V : Type 0} → Format E V → List ℕ → V → List ℕ → Type 0
spells (◌>>=◌ {U = U} f k) i w rest = (v : U) × (m : List ℕ) × spells f i v m × spells (k v) m w rest
spells (done v) i w rest = (w ≡ v) × (rest ≡ i)
spells (element c p t) i w rest = SpellsElement Der c p t i (w, rest)
spells (primitive c t k) i v rest = (w : List ℕ) × NoneHolds (k.tests w) × k.means w v
    × SpellsElement Der c false t i (w, rest)
spells any i v rest = SpellsAny Der i v rest
spells (inside w f) i v rest = ((r : List ℕ) × spells f w v r) × (rest ≡ i)
spells (either P f g) i v rest = (P i × spells f i v rest) ⊎ ((¬ P i) × spells g i v rest)
spells (check P fault) i u rest = P i × (rest ≡ i)
spells (requiring P fault f) i v rest = spells f i v rest × P v
spells (with_octets f) i x rest = spells f i x.1 rest × (i ≡ x.0 ++ rest)
spells (items item a) i b rest = Items (λ s. spells (item s)) a i b rest × (rest ≡ [])
spells (named n f) i v rest = spells f i v rest

-- the octets of the spot begin with none, and e is the first fault
abbrev pub refuses : {E V : Type 0} → Format E V → Spot → E → Type 0
refuses (◌>>=◌ {U = U} f k) s e = refuses f s e
    ⊎ ((v : U) × (m : List ℕ) × spells f s.octets v m × refuses (k v) (left_at s m) e)
refuses (done v) s e = ⊥
refuses (element c p t) s e = RefusesNext (ElementRefuses Der c p t s.octets) s e
refuses (primitive c t k) s e = RefusesNext (λ x. ElementRefuses Der c false t s.octets x
    ⊎ ((v : List ℕ × List ℕ) × SpellsElement Der c false t s.octets v × IsFirstRefusal (k.tests v.0) x)) s e
refuses any s e = RefusesNext (NoElement Der s.octets) s e
refuses (inside w f) s e = refuses f (content_at s w) e
refuses (either P f g) s e = (P s.octets × refuses f s e) ⊎ ((¬ P s.octets) × refuses g s e)
refuses (check P fault) s e = (¬ P s.octets) × (e ≡ fault s)
refuses (requiring {V = V} P fault f) s e = refuses f s e
    ⊎ ((v : V) × (rest : List ℕ) × spells f s.octets v rest × (¬ P v) × (e ≡ fault s))
refuses (with_octets f) s e = refuses f s e
refuses (items {S = S} item a) s e = (b : S) × (j : List ℕ) × Items (λ x. spells (item x)) a s.octets b j × (j ≢ [])
    × refuses (item b) (left_at s j) e
refuses (named n f) s e = (x : Fault) × refuses f s x × (e ≡ (n, x))

-- a list of values, to the end of the octets
abbrev pub each : {E V : Type 0} → Format E V → Unit {0} → Format E (Unit {0})
each f u = f >>= λ v. done tt

abbrev pub list_of : {E V : Type 0} → Format E V → Format E (Unit {0})
list_of f = items (each f) tt

-- no octets are left
abbrev pub end_of_content : Format Fault (Unit {0})
end_of_content = check (λ i. i ≡ []) (wrong_at (parser_fault Eof))

-- some are
abbrev pub some_octets : Format Fault (Unit {0})
some_octets = check (λ i. i ≢ []) (wrong_at wrong_value)

abbrev pub sequence : Format Fault (List ℕ)
sequence = element Universal true 16

abbrev pub set : Format Fault (List ℕ)
set = element Universal true 17

-- an explicit tag of this number, if it is next (X.690 8.14.2); else the value that an absent one has
abbrev pub explicit_or : {V : Type 0} → V → ℕ → Format Fault V → Format Fault V
explicit_or v n f = either (BeginsWithTag n)
    (element ContextSpecific true n >>= λ w. inside w (f >>= λ v. end_of_content >>= λ u. done v)) (done v)

-- a value of a primitive type under an implicit tag of this number, if it is next (X.690 8.14.3)
abbrev pub optional_implicit : {V : Type 0} → ℕ → Kind V → Format Fault (Option V)
optional_implicit n k =
    either (IsNext ContextSpecific n) (primitive ContextSpecific n k >>= λ v. done (Some v)) (done None)
