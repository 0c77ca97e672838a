-- The octets of a header and of an object under a tag, as they are written (X.690 8.1, 8.14).
use Rattle.std.specs.Prelude.{ℕ, true, List, [], ◌∷◌, ◌++◌}
use Rattle.der_base.specs.declared.header.Class.{Class}
use Rattle.der_base.specs.declared.header.Header.{Header}
use Rattle.der_base.specs.declared.header.Length.{Length}
use Rattle.der_base.specs.declared.header.Length.TheVariants.{Definite, Indefinite}
use Rattle.der_base.specs.Encoding.{encoding, content_octets, element}
use Rattle.der_base.specs.Header.{class_of, is_constructed, number_of, length_of}
use Rattle.der_base.specs.Octets.{identifier, shortest_length}
use Rattle.der_base.specs.Tree.{Node, node}

-- the fewest length octets, or the octet of an indefinite length (8.1.3.6)
abbrev pub length_octets : Length → List ℕ
length_octets (Definite n) = shortest_length n
length_octets Indefinite = 128 ∷ []

-- a header with its own length
abbrev pub header_octets : Header → List ℕ
header_octets h = identifier (class_of h) (is_constructed h) (number_of h) ++ length_octets (length_of h)

-- an object under an explicit tag: an element around it (8.14.2)
abbrev pub explicit_octets : Class → ℕ → Node → List ℕ
explicit_octets c t o = element c true t (encoding o)

-- an object under an implicit tag: its own constructed bit and content octets (8.14.3)
abbrev pub implicit_octets : Class → ℕ → Node → List ℕ
implicit_octets c t (node c' p t' x) = element c p t (content_octets x)
