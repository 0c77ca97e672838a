-- Nodes of an input: elements by what is inside them.
use Rattle.std.specs.Prelude.{ℕ, zero, suc, ◌+◌, ◌-◌, ◌&&◌, nat_le, List, [], ◌∷◌, length, take, drop, if◌then◌else◌}
use Rattle.der_base.specs.Spelling.{end_marker}
use Rattle.der_elements.specs.declared.check.element.Element.{Element}
use Rattle.der_parser.specs.declared.view.node.Node.{Node}
use Rattle.der_parser.specs.declared.view.nodes.Nodes.{Nodes}
use Rattle.der_parser.specs.declared.view.nodes.Preorder.{Preorder}
use Rattle.der_parser.specs.declared.view.nodes.Trees.{Trees}

-- the input that nodes are of, and their elements
abbrev pub input_of : Nodes → List ℕ
input_of v = v.input.now

abbrev pub elements_of : Nodes → List Element
elements_of v = v.elements.now

-- what a node shows: the input, its element, and the elements inside it
pub record View : Type 0 where
  pub input : List ℕ
  pub element : Element
  pub inside : List Element

abbrev pub view : Node → View
view n = record { input = n.input.now; element = n.element.now; inside = n.inside.now }

-- of an element and those that follow it, the first ones are inside it, as many as it says or as there are
abbrev pub first_view : List ℕ → Element → List Element → View
first_view i e es = record { input = i; element = e; inside = take e.inside es }

-- each element in preorder
abbrev pub preorder : List ℕ → List Element → List View
preorder i [] = []
preorder i (e ∷ es) = first_view i e es ∷ preorder i es

-- Those that are inside no other: one follows k elements, and each other one those inside the one before.
abbrev pub trees_after : ℕ → List ℕ → List Element → List View
trees_after k i [] = []
trees_after (suc k) i (e ∷ es) = trees_after k i es
trees_after zero i (e ∷ es) = first_view i e es ∷ trees_after e.inside i es

abbrev pub trees : List ℕ → List Element → List View
trees i es = trees_after 0 i es

-- what iterators have not yet given
abbrev pub preorder_left : Preorder → List View
preorder_left it = preorder (input_of it.left) (elements_of it.left)

abbrev pub trees_left : Trees → List View
trees_left it = trees (input_of it.left) (elements_of it.left)

-- the octets from a place to another, and none if one of them is outside the input
abbrev pub octets_between : List ℕ → ℕ → ℕ → List ℕ
octets_between i from to = if nat_le from to && nat_le to (length i) then take (to - from) (drop from i) else []

-- the content octets; the header, which is the identifier and length octets (X.690 8.1.2, 8.1.3)
abbrev pub content_of : View → List ℕ
content_of v = octets_between v.input v.element.content v.element.end

abbrev pub header_of : View → List ℕ
header_of v = octets_between v.input v.element.header v.element.content

-- what follows the content: the end marker of an indefinite length (8.1.5)
abbrev pub marker_of : View → List ℕ
marker_of v = if v.element.definite then [] else end_marker

-- the whole element
abbrev pub octets_of : View → List ℕ
octets_of v = octets_between v.input v.element.header (v.element.end + (if v.element.definite then 0 else 2))
