-- The elements of a SET OF in order are values of their format.
use Rattle.std.proofs.Common.{ℕ, List, [], ◌∷◌, All}
use Rattle.std.specs.List.{AllByRecursion, concat}
use Rattle.std.proofs.lemmas.List.Elements.{recursion_from_All}
use Rattle.std.proofs.lemmas.List.Sorted.{All-permutation}
use Rattle.der_cursor.specs.Formats.{Field, Each}
use Rattle.der_writer.specs.SetsOf.{IsInOrder}
use Rattle.der_writer.specs.Formats.Encodings.{Encodes, EncodesContent}
use Rattle.der_writer.proofs.FormatsLaws.Encoded.{none_encode, more_encode}

-- octets of some value of the field
abbrev pub EncodesOne : {V : Type 0} → Field V → List ℕ → Type 0
EncodesOne {V} F s = (v : V) × Encodes F v s

each_encodes : {V : Type 0} (F : Field V) (ts : List (List ℕ)) → AllByRecursion (EncodesOne F) ts → (vs : List V) × EncodesContent (Each F) vs (concat ts)
each_encodes F [] h = ([], none_encode F)
each_encodes F (t ∷ ts) h = let rest = each_encodes F ts h.1 in (h.0.0 ∷ rest.0, more_encode h.0.1 rest.1)

pub set_of_encodes : {V : Type 0} (F : Field V) (ss ts : List (List ℕ)) → All (EncodesOne F) ss → IsInOrder ss ts
    → (vs : List V) × EncodesContent (Each F) vs (concat ts)
set_of_encodes F ss ts h o = each_encodes F ts (recursion_from_All (EncodesOne F) ts (All-permutation (EncodesOne F) ss ts o.same h))
