-- What an input shows by DER: an object or a cut, each in one way; and where an element is cut short.
use Rattle.std.proofs.Common.{◌≡◌, ◌≢◌, ℕ, zero, suc, ◌+◌, ◌<◌, ◌≤◌, Bool, true, false, nat_lt, if◌then◌else◌, List, [], ◌∷◌, ◌++◌, length}
use Rattle.std.proofs.Common.{refl, sym, ap, ◌∙◌, arith, length-append, inl, inr, ◌⊎◌}
use Rattle.der_base.specs.declared.header.Class.{Class}
use Rattle.der_base.specs.declared.header.Class.TheVariants.{Universal, Application, ContextSpecific, Private}
use Rattle.der_base.specs.Cut.{DerLacks}
use Rattle.der_base.specs.Headers.{BeginsWithDerHeader, DerHeaderLacks}
use Rattle.der_base.specs.Octets.{identifier, shortest_length, octets}
use Rattle.der_base.specs.Spelling.{DerSpells, max_object_size}
use Rattle.der_base.specs.Stable.{DerIsCut}
use Rattle.der_base.specs.Tree.{Node}
use Rattle.der_base.proofs.Octets.Identifiers.{identifier_octets}
use Rattle.der_values.proofs.LawsLaws.Spellings.DerFaults.{header_cut_shows_nothing, content_cut_shows_nothing}
use Rattle.der_values.proofs.LawsLaws.Spellings.DerLacking.{der_header_cut, der_content_cut, der_lacks_same}
use Rattle.der_values.proofs.LawsLaws.Spellings.DerWithinBer.{der_spelling_same, der_spelled_not_cut}

pub spelled_same : (d : ℕ) (i b b' rest rest' : List ℕ) (o o' : Node) → i ≡ b ++ rest → DerSpells b o d → i ≡ b' ++ rest' → DerSpells b' o' d → (o ≡ o') × (rest ≡ rest')
spelled_same d i b b' rest rest' o o' q s q' s' = let z = der_spelling_same b b' rest rest' o o' d d s s' (sym q ∙ q') in (z.1, z.2)

pub spelled_not_cut : (d : ℕ) (i b rest : List ℕ) (o : Node) (n : ℕ) → i ≡ b ++ rest → DerSpells b o d → DerIsCut d i n → ⊥
spelled_not_cut d i b rest o n q s k = der_spelled_not_cut i b rest o d s q k.0

pub cut_same : (d : ℕ) (i : List ℕ) (n n' : ℕ) → DerIsCut d i n → DerIsCut d i n' → n ≡ n'
cut_same d i n n' h h' = der_lacks_same i n n' h.1 h'.1

-- cuts of an element, at a depth of at least 1
pub header_cut : (d : ℕ) (i : List ℕ) (n : ℕ) → 1 ≤ d → DerHeaderLacks i n → DerIsCut d i n
header_cut zero i n h l = absurd (omega arith)
header_cut (suc d) i n h l = let q = der_header_cut i n l in (q.0, q.1, λ e r. header_cut_shows_nothing d i n e l r)

pub universal_or_not : (c : Class) → (c ≡ Universal) ⊎ (c ≢ Universal)
universal_or_not Universal = inl refl
universal_or_not Application = inr (λ e. cc)
universal_or_not ContextSpecific = inr (λ e. cc)
universal_or_not Private = inr (λ e. cc)

pub content_cut : (d : ℕ) (i rest : List ℕ) (c : Class) (p : Bool) (t m n : ℕ) → 1 ≤ d → BeginsWithDerHeader i c p t m rest → m ≤ max_object_size → length rest < m
    → (c ≡ Universal → n ≡ m) → (c ≢ Universal → length rest + n ≡ m) → DerIsCut d i n
content_cut zero i rest c p t m n h b s l u o = absurd (omega arith)
content_cut (suc d) i rest c p t m n h b s l u o =
    let q = der_content_cut i rest c p t m b l in
    (q.0, lacks (universal_or_not c), λ e r. content_cut_shows_nothing d i rest c p t m e b l s r)
  where
    lacks : (c ≡ Universal) ⊎ (c ≢ Universal) → DerLacks i n
    lacks (inl k) = rw (u k) ((der_content_cut i rest c p t m b l).1.0 k)
    lacks (inr k) = (der_content_cut i rest c p t m b l).1.1 k n (o k)

pub length_octets : (n : ℕ) → 0 < length (shortest_length n)
unfolding shortest_length
length_octets n = some_octets (nat_lt n 128)
  where
    some_octets : (b : Bool) → 0 < length (if b then n ∷ [] else (128 + length (octets n)) ∷ octets n)
    some_octets true = omega arith
    some_octets false = omega arith

-- a header takes two octets at least
pub header_shorter : (i rest : List ℕ) (c : Class) (p : Bool) (t n : ℕ) → BeginsWithDerHeader i c p t n rest → 2 + length rest ≤ length i
header_shorter i rest c p t n b =
    let a = identifier c p t in
    let s = shortest_length n in
    omega (arith, ap length b.octets, length-append (a ++ s) rest, length-append a s, identifier_octets c p t, length_octets n)
