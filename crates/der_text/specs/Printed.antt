-- Texts that are written, and the octets that they mean.
use Rattle.std.specs.Prelude.{◌≡◌, ℕ, ◌-◌, ◌<◌, ◌==◌, ◌&&◌, nat_le, not, Bool, List, [], ◌∷◌, ◌++◌, length}
use Rattle.std.specs.Prelude.{Some, Ok, MatchBool}
use Rattle.der_text.specs.declared.element.Element.{Element}
use Rattle.der_text.specs.declared.item.End.{End}
use Rattle.der_text.specs.declared.item.Form.{Form}
use Rattle.der_text.specs.declared.item.Form.TheVariants.{Long}
use Rattle.der_text.specs.Encoded.{◌>>=◌, Following, all_before, following, length_octets}
use Rattle.der_text.specs.Lexemes.{items_of}

-- what a text leaves, read to its end
abbrev pub Leaves : List ℕ → Following → Type 0
Leaves text s = (items_of text >>= λ is. all_before is (following [] [])) ≡ Ok s

-- a text has these octets, whatever follows it
pub record Means (text w : List ℕ) : Type 0 where
  pub leaves : (rest : List ℕ) (s : Following) → Leaves rest s
      → Leaves (text ++ rest) (following (w ++ s.octets) s.ends)

-- a text that has these octets is appended
pub record Puts (old new w : List ℕ) : Type 0 where
  pub text : List ℕ
  pub added : new ≡ old ++ text
  pub means : Means text w

-- a text has the length octets of a form before a content
pub record Opens (text : List ℕ) (f : Form) : Type 0 where
  pub leaves : (rest w : List ℕ) (e : End) (es : List End) (octets : List ℕ) → Leaves rest (following w (e ∷ es))
      → length_octets f (length w - e.after) ≡ Some octets → Leaves (text ++ rest) (following (octets ++ w) es)

pub record PutsOpen (old new : List ℕ) (f : Form) : Type 0 where
  pub text : List ℕ
  pub added : new ≡ old ++ text
  pub opens : Opens text f

-- the octets before a rest are appended
pub record Prints (old new octets rest : List ℕ) : Type 0 where
  pub printed : List ℕ
  pub parts : octets ≡ printed ++ rest
  pub puts : Puts old new printed

-- a text that looks so is appended
pub record Adds (old new : List ℕ) (Looks : List ℕ → Type 0) : Type 0 where
  pub text : List ℕ
  pub added : new ≡ old ++ text
  pub looks : Looks text

-- a text is appended, or none
abbrev pub MayPut : List ℕ → List ℕ → List ℕ → Bool → Type 0
MayPut old new w written = MatchBool written (Puts old new w) (new ≡ old)

-- how many octets a long form has is an octet
abbrev pub HasCount : Form → Type 0
HasCount (Long count) = count < 256
HasCount _ = Unit {0}

-- what may be in quotes: the characters that ASCII prints, without the quote
abbrev pub is_plain : ℕ → Bool
is_plain c = nat_le 32 c && nat_le c 126 && not (c == 34)

-- the parts of an element
pub record HasParts (octets : List ℕ) (x : Element) : Type 0 where
  pub whole : octets ≡ x.identifier.now ++ (x.length.now ++ (x.content.now ++ x.rest.now))
  pub some : 0 < length x.identifier.now
  pub form : length_octets x.form (length x.content.now) ≡ Some x.length.now
