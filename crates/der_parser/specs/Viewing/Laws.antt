-- Statements of the laws in `src/laws.rt`.
use Rattle.std.specs.Prelude.{◌≡◌, ℕ, Bool, true, false, List, [], ◌∷◌, ◌++◌, length, map}
use Rattle.der_base.specs.declared.header.Class.{Class}
use Rattle.der_base.specs.declared.rules.Rules.{Rules}
use Rattle.der_base.specs.declared.rules.Rules.TheVariants.{Der}
use Rattle.der_base.specs.Octets.{identifier}
use Rattle.der_base.specs.Refusal.{Refusal}
use Rattle.der_base.specs.Spelling.{BeginsWithDer, end_marker}
use Rattle.der_base.specs.Tree.{Node, node, Content, sequence, set, Nodes, no_nodes, nodes}
use Rattle.der_elements.specs.declared.check.element.Element.{Element}
use Rattle.der_elements.specs.Check.Elements.{AreElements, IsElement, none, one_more, primitive, constructed, indefinite}
use Rattle.der_elements.specs.Check.Listing.{listed, listed_one}
use Rattle.der_parser.specs.Viewing.Views.{View, preorder, trees, octets_of, header_of, content_of, marker_of}
use Rattle.der_parser.specs.Viewing.Values.{HasContent, HasFault}

-- a content without its items, of which a value says nothing
abbrev pub without_items : Content → Content
without_items (sequence l) = sequence no_nodes
without_items (set l) = set no_nodes
without_items x = x

-- a node has one value
abbrev pub OneValue : Type 0
OneValue = (v : View) (x y : Content) → HasContent v x → HasContent v y → without_items x ≡ without_items y

-- or a fault, and not both
abbrev pub ValueOrFault : Type 0
ValueOrFault = (v : View) (x : Content) (e : Refusal) → HasContent v x → HasFault v e → ⊥

-- the element of a node has this class, form and number; its header is h, its content octets are w, and its end marker
-- is m
pub record HasParts (v : View) (c : Class) (p : Bool) (t : ℕ) (h w m : List ℕ) : Type 0 where
  pub class : v.element.class ≡ c
  pub constructed : v.element.constructed ≡ p
  pub number : v.element.number ≡ t
  pub octets : octets_of v ≡ h ++ (w ++ m)
  pub header : header_of v ≡ h
  pub content : content_of v ≡ w
  pub marker : marker_of v ≡ m

abbrev mutual
  -- a node shows an element: what it is, where its octets are, and its items (X.690 8.1.1)
  pub IsShownBy : {r : Rules} {d : ℕ} {b : List ℕ} → IsElement r d b → View → Type 0
  IsShownBy (primitive c t s w ht hs e m) v =
      HasParts v c false t (identifier c false t ++ s) w [] × (v.inside ≡ [])
  IsShownBy (constructed c t s w ht hs e m are) v =
      HasParts v c true t (identifier c true t ++ s) w [] × AreShownBy are (trees v.input v.inside)
  IsShownBy (indefinite c t w ht er e m are) v =
      HasParts v c true t (identifier c true t ++ 128 ∷ []) w end_marker × AreShownBy are (trees v.input v.inside)

  -- each element is shown by the node of its place, and there are no others
  pub AreShownBy : {r : Rules} {d : ℕ} {i : List ℕ} → AreElements r d i → List View → Type 0
  AreShownBy none vs = vs ≡ []
  AreShownBy (one_more b rest e is more) [] = ⊥
  AreShownBy (one_more b rest e is more) (v ∷ vs) = IsShownBy is v × AreShownBy more vs

-- the nodes over the elements that octets of an input are show these
abbrev pub ElementsShow : Type 0
ElementsShow = (r : Rules) (d : ℕ) (i front b behind : List ℕ) (are : AreElements r d b) → i ≡ front ++ b ++ behind
    → AreShownBy are (trees i (listed are (length front)))

-- of one element there is one
abbrev pub ElementShows : Type 0
ElementShows = (r : Rules) (d : ℕ) (i front b behind : List ℕ) (is : IsElement r d b) → i ≡ front ++ b ++ behind
    → (v : View) × (trees i (listed_one is (length front)) ≡ v ∷ []) × IsShownBy is v

abbrev mutual
  -- a node shows a tree: its class, form and number, its value, and its items
  pub ShowsTree : View → Node → Type 0
  ShowsTree v (node c p t x) = (v.element.class ≡ c) × (v.element.constructed ≡ p) × (v.element.number ≡ t)
      × ShowsContent v x

  -- a SEQUENCE and a SET have items; nothing is inside a primitive node
  pub ShowsContent : View → Content → Type 0
  ShowsContent v (sequence l) = HasContent v (sequence l) × ShowItems (trees v.input v.inside) l
  ShowsContent v (set l) = HasContent v (set l) × ShowItems (trees v.input v.inside) l
  ShowsContent v x = HasContent v x × (v.element.constructed ≡ false → v.inside ≡ [])

  -- each node shows the item of its place, and there are no others
  pub ShowItems : List View → Nodes → Type 0
  ShowItems [] no_nodes = Unit {0}
  ShowItems (v ∷ vs) (nodes o l) = ShowsTree v o × ShowItems vs l
  ShowItems _ _ = ⊥

-- An input begins with the DER encoding of a tree, and with an element by DER. They are the same octets, and the nodes
-- over the element and those inside it show the tree.
abbrev pub DerTreesShow : Type 0
DerTreesShow = (d d' : ℕ) (i rest b behind : List ℕ) (o : Node) (is : IsElement Der d' b) → BeginsWithDer d i o rest
    → i ≡ b ++ behind → (rest ≡ behind) × ShowItems (trees i (listed_one is 0)) (nodes o no_nodes)

-- a node shows one tree
abbrev pub OneTree : Type 0
OneTree = (v : View) (o o' : Node) → ShowsTree v o → ShowsTree v o' → o ≡ o'

-- The elements and their content octets determine the trees: nodes over two inputs that have the same elements, with
-- the same content octets, show the same trees.
abbrev pub OneTreeOfContents : Type 0
OneTreeOfContents = (i j : List ℕ) (es : List Element) (l l' : Nodes)
    → map content_of (preorder i es) ≡ map content_of (preorder j es)
    → ShowItems (trees i es) l → ShowItems (trees j es) l' → l ≡ l'
