-- Headers by the rules: what is read is spelled, and what is spelled is read.
use Rattle.std.proofs.Common.{◌≡◌, ℕ, ◌+◌, ◌^◌, ◌<◌, ◌≤◌, Bool, true, List, ◌∷◌, ◌++◌, length, Ok, Err, refl, sym, ap, subst, ◌∙◌, ⊎_elim, arith, append_assoc, length-append}
use Rattle.std.proofs.lemmas.Bool.{cases_lt}
use Rattle.std.specs.Borrow.{Bor}
use Rattle.der_base.specs.declared.error.Err.{Err as Refused}
use Rattle.der_base.specs.declared.error.Err.TheVariants.{Incomplete, Error, Failure, OutOfMemory}
use Rattle.der_base.specs.declared.error.Error.{Error as BerError}
use Rattle.der_base.specs.declared.error.Needed.TheVariants.{Unknown, Size}
use Rattle.der_base.specs.declared.header.Class.{Class}
use Rattle.der_base.specs.declared.header.Header.{Header}
use Rattle.der_base.specs.declared.header.Length.TheVariants.{Definite, Indefinite}
use Rattle.der_base.specs.Answer.{AnswersOkOr}
use Rattle.der_base.specs.Headers.{BeginsWithHeader, LeadingHeader, leading_header}
use Rattle.der_base.specs.Octets.{identifier, shortest_length}
use Rattle.der_base.proofs.Framing.FramingLists.{header_takes_two, definite_header, indefinite_header}
use Rattle.der_base.proofs.Octets.Identifiers.{identifier_octets}
use Rattle.der_base.proofs.Octets.ShortestLengths.{shortest_long, shortest_short}
use Rattle.der_base.proofs.Headers.BerHeaders.{ber_header_same, ber_header_shows_one}
use Rattle.der_base.proofs.Headers.DerHeaders.{der_header_same, der_header_shows_one}
use Rattle.der_base.specs.declared.rules.Rules.{Rules}
use Rattle.der_base.specs.declared.rules.Rules.TheVariants.{Ber, Der}
use Rattle.der_elements.specs.Check.Elements.{SpellsLengthBy}
use Rattle.der_base.specs.Rules.{AnswersHeader, SpellsHeaderBy}

-- a reader that returns an Err returns no Ok
pub no_ok : {T : Type 0} (e : Refused BerError) (P : T → Type 0) → ¬ AnswersOkOr {T = T} ⊥ (Err e) P
no_ok (Error e) P h = h
no_ok (Incomplete (Size n)) P h = h
no_ok (Incomplete Unknown) P h = h
no_ok (Failure e) P h = h
no_ok OutOfMemory P h = h

pub header_read : (r : Rules) (i : List ℕ) (x : Bor (List ℕ) × Header) → AnswersHeader r i (Ok x) → SpellsHeaderBy r i (leading_header x)
header_read Ber i x a = (ber_header_shows_one i).spelled x a.found
header_read Der i x a = (der_header_shows_one i).spelled x a.found

pub header_only : (r : Rules) (i : List ℕ) (x : Bor (List ℕ) × Header) (v : LeadingHeader) → AnswersHeader r i (Ok x) → SpellsHeaderBy r i v → leading_header x ≡ v
header_only Ber i x v a s = a.only v s
header_only Der i x v a s = a.only v s

pub header_refused : (r : Rules) (i : List ℕ) (e : Refused BerError) (v : LeadingHeader) → AnswersHeader r i (Err e) → SpellsHeaderBy r i v → ⊥
header_refused Ber i e v a s = no_ok e _ (a.only v s)
header_refused Der i e v a s = no_ok e _ (a.only v s)

same_parts : (u v : LeadingHeader) → u.class ≡ v.class → u.constructed ≡ v.constructed → u.number ≡ v.number → u.length ≡ v.length → u.rest ≡ v.rest → u ≡ v
same_parts u v e1 e2 e3 e4 e5 =
    let s : record { class = u.class; constructed = u.constructed; number = u.number; length = u.length; rest = u.rest }
    ≡ record { class = v.class; constructed = v.constructed; number = v.number; length = v.length; rest = v.rest } = cc in s

-- there is one header
pub header_same : (r : Rules) (i : List ℕ) (u v : LeadingHeader) → SpellsHeaderBy r i u → SpellsHeaderBy r i v → u ≡ v
header_same Ber i u v s h =
    let z = ber_header_same i u.rest v.rest u.class v.class u.constructed v.constructed u.number v.number u.length v.length s h in
    same_parts u v z.class z.constructed z.number z.length z.rest
header_same Der i u v s h =
    let z = der_header_same i u.rest v.rest u.class v.class u.constructed v.constructed u.number v.number s.0 h.0 s.2 h.2 in
    same_parts u v z.class z.constructed z.number (s.1 ∙ ap Definite z.length ∙ sym h.1) z.rest

-- a definite length
pub spells_definite : (r : Rules) (i : List ℕ) (c : Class) (p : Bool) (t : ℕ) (s behind : List ℕ) (n : ℕ) → t < 2 ^ 32 → SpellsLengthBy r s n → i ≡ identifier c p t ++ (s ++ behind)
    → SpellsHeaderBy r i (record { class = c; constructed = p; number = t; length = Definite n; rest = behind })
spells_definite Ber i c p t s behind n h l e = record { following = s ++ behind; octets = e; number = h; length = (s, l, refl) }
spells_definite Der i c p t s behind n h l e =
    (n, refl, record { octets = e ∙ sym (append_assoc (identifier c p t) s behind) ∙ ap (λ k. identifier c p t ++ k ++ behind) l.1; number = h; length = l.0 })

-- its octets
pub definite_spelled : (r : Rules) (i : List ℕ) (v : LeadingHeader) (n : ℕ) → SpellsHeaderBy r i v → v.length ≡ Definite n
    → (s : List ℕ) × (v.number < 2 ^ 32) × SpellsLengthBy r s n × (i ≡ identifier v.class v.constructed v.number ++ (s ++ v.rest))
definite_spelled Ber i v n h el =
    let begins = subst (λ l. BeginsWithHeader i v.class v.constructed v.number l v.rest) el h in
    let s = definite_header i v.rest v.class v.constructed v.number n begins in
    (s.0, h.number, s.1, s.2)
definite_spelled Der i v n h el =
    let e : h.0 ≡ n = (let stated = h.1 in cc) in
    let front = identifier v.class v.constructed v.number in
    (shortest_length n, h.2.number, (omega (arith, h.2.length, e), refl), h.2.octets ∙ ap (λ k. front ++ shortest_length k ++ v.rest) e ∙ append_assoc front (shortest_length n) v.rest)

-- an indefinite one
pub spells_open : (i : List ℕ) (c : Class) (t : ℕ) (behind : List ℕ) → t < 2 ^ 32 → i ≡ identifier c true t ++ 128 ∷ behind
    → SpellsHeaderBy Ber i (record { class = c; constructed = true; number = t; length = Indefinite; rest = behind })
spells_open i c t behind h e = record { following = 128 ∷ behind; octets = e; number = h; length = (refl, refl) }

-- it is BER's
pub open_spelled : (r : Rules) (i : List ℕ) (v : LeadingHeader) → SpellsHeaderBy r i v → v.length ≡ Indefinite
    → (r ≡ Ber) × (v.number < 2 ^ 32) × (i ≡ identifier v.class true v.number ++ 128 ∷ v.rest)
open_spelled Ber i v h el =
    let begins = subst (λ l. BeginsWithHeader i v.class v.constructed v.number l v.rest) el h in
    (refl, h.number, indefinite_header i v.rest v.class v.constructed v.number begins)
open_spelled Der i v h el = absurd (let stated = h.1 in cc)

-- the identifier octets
pub header_identifier : (r : Rules) (i : List ℕ) (v : LeadingHeader) → SpellsHeaderBy r i v → (s : List ℕ) × (i ≡ identifier v.class v.constructed v.number ++ s)
header_identifier Ber i v h = (h.following, h.octets)
header_identifier Der i v h = (shortest_length h.0 ++ v.rest, h.2.octets ∙ append_assoc (identifier v.class v.constructed v.number) (shortest_length h.0) v.rest)

-- it has at least two octets
length_some : (n : ℕ) → 0 < length (shortest_length n)
length_some n = ⊎_elim (λ (h : n < 128). omega (arith, ap length (shortest_short n h))) (λ h. omega (arith, ap length (shortest_long n h))) (cases_lt n 128)

pub header_shorter : (r : Rules) (i : List ℕ) (v : LeadingHeader) → SpellsHeaderBy r i v → length v.rest + 2 ≤ length i
header_shorter Ber i v h = header_takes_two i v.rest v.class v.constructed v.number v.length h
header_shorter Der i v h =
    let front = identifier v.class v.constructed v.number in
    omega (arith, ap length h.2.octets, identifier_octets v.class v.constructed v.number, length_some h.0, length-append (front ++ shortest_length h.0) v.rest, length-append front (shortest_length h.0))
