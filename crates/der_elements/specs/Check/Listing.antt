-- The elements of octets in preorder, with their offsets.
use Rattle.std.specs.Prelude.{◌≡◌, ℕ, ◌+◌, Bool, true, false, List, [], ◌∷◌, ◌++◌, length, map}
use Rattle.der_base.specs.declared.header.Class.{Class}
use Rattle.der_base.specs.declared.rules.Rules.{Rules}
use Rattle.der_base.specs.Octets.{identifier}
use Rattle.der_elements.specs.declared.check.element.Element.{Element}
use Rattle.der_elements.specs.Check.Elements.{AreElements, IsElement, none, one_more, primitive, constructed, indefinite}
use Rattle.der_elements.specs.Check.Overlay.{overlay}

-- An element and those inside it. Its header begins at the offset a, and its n content octets begin at the offset o.
abbrev pub with_inside : Class → Bool → Bool → ℕ → ℕ → ℕ → ℕ → List Element → List Element
with_inside c p f t a o n inside = record {
  class = c;
  constructed = p;
  definite = f;
  number = t;
  header = a;
  content = o;
  end = o + n;
  inside = length inside;
} ∷ inside

abbrev mutual
  -- the elements of octets that begin at the offset a
  pub listed : {r : Rules} {d : ℕ} {i : List ℕ} → AreElements r d i → ℕ → List Element
  listed none a = []
  listed (one_more b rest e is more) a = listed_one is a ++ listed more (a + length b)

  -- an element at the offset a, and the elements of its content (8.1.4)
  pub listed_one : {r : Rules} {d : ℕ} {b : List ℕ} → IsElement r d b → ℕ → List Element
  listed_one (primitive c t s w ht hs e m) a =
      with_inside c false true t a (a + length (identifier c false t ++ s)) (length w) []
  listed_one (constructed c t s w ht hs e m are) a = let o = a + length (identifier c true t ++ s) in
      with_inside c true true t a o (length w) (listed are o)
  listed_one (indefinite c t w ht er e m are) a = let o = a + length (identifier c true t) + 1 in
      with_inside c true false t a o (length w) (listed are o)

-- n elements are counted, and the slots keep the first of them, as many as there is capacity for
abbrev pub KeepsList : {N : Type 0} → (Element → N) → List Element → ℕ → List N → List N → Type 0
KeepsList slot es n old new = (n ≡ length es) × (new ≡ overlay old 0 (map slot es))

-- i begins with an element, followed by rest; it is listed with those inside it
abbrev pub ListsElement : {N : Type 0} → Rules → (Element → N) → ℕ → List ℕ → List ℕ → ℕ → List N → List N → Type 0
ListsElement r slot d i rest n old new = (b : List ℕ) × (i ≡ b ++ rest) × (is : IsElement r d b)
    × KeepsList slot (listed_one is 0) n old new

-- i is elements, one after another, and they are listed with those inside them
abbrev pub ListsElements : {N : Type 0} → Rules → (Element → N) → ℕ → List ℕ → ℕ → List N → List N → Type 0
ListsElements r slot d i n old new = (are : AreElements r d i) × KeepsList slot (listed are 0) n old new
