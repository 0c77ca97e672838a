-- Elements and their content octets determine the trees.
use Rattle.std.proofs.Common.{◌≡◌, ◌⊎◌, ℕ, zero, suc, List, [], ◌∷◌, sym, subst, take, drop, map}
use Rattle.der_base.specs.declared.header.Class.TheVariants.{Universal}
use Rattle.der_base.specs.Leaf.{IsLeafContent}
use Rattle.der_base.specs.Spelling.{IsKept}
use Rattle.der_base.specs.Tree.{Node, node, Content, sequence, set, Nodes, no_nodes, nodes}
use Rattle.der_elements.specs.declared.check.element.Element.{Element}
use Rattle.der_parser.specs.Viewing.Laws.{OneTreeOfContents, ShowsTree, ShowsContent, ShowItems}
use Rattle.der_parser.specs.Viewing.Views.{content_of, octets_between, preorder, trees}
use Rattle.der_parser.proofs.ViewLaws.Lists.{trees_drop}
use Rattle.der_parser.proofs.ViewLaws.OneTrees.{items_once}

-- two inputs have the same octets where each element says
abbrev Same : List ℕ → List ℕ → List Element → Type 0
Same i j [] = Unit {0}
Same i j (e ∷ es) = (octets_between i e.content e.end ≡ octets_between j e.content e.end) × Same i j es

same_of_map : (i j : List ℕ) (es : List Element) → map content_of (preorder i es) ≡ map content_of (preorder j es) → Same i j es
same_of_map i j [] h = tt
same_of_map i j (e ∷ es) h = let q = both h in (q.0, same_of_map i j es q.1)
  where
    both : {A : Type 0} {x y : A} {xs ys : List A} → x ∷ xs ≡ y ∷ ys → (x ≡ y) × (xs ≡ ys)
    both h = (cc, cc)

same_take : (n : ℕ) (i j : List ℕ) (es : List Element) → Same i j es → Same i j (take n es)
same_take zero i j es h = tt
same_take (suc n) i j [] h = tt
same_take (suc n) i j (e ∷ es) h = (h.0, same_take n i j es h.1)

same_drop : (n : ℕ) (i j : List ℕ) (es : List Element) → Same i j es → Same i j (drop n es)
same_drop zero i j es h = h
same_drop (suc n) i j [] h = tt
same_drop (suc n) i j (e ∷ es) h = same_drop n i j es h.1

-- the content of a node that is no list
abbrev LeafOrKept : Element → List ℕ → Content → Type 0
LeafOrKept e w x = ((e.class ≡ Universal) × IsLeafContent e.constructed e.number w x) ⊎ IsKept e.class e.constructed e.number w x

same_content : (e : Element) (w v : List ℕ) (x : Content) → w ≡ v → LeafOrKept e v x → LeafOrKept e w x
same_content e w v x q h = subst (λ u. LeafOrKept e u x) (sym q) h

mutual
  moved_tree : (i j : List ℕ) (e : Element) (es : List Element) (o : Node) → octets_between i e.content e.end ≡ octets_between j e.content e.end → Same i j es
      → ShowsTree (record { input = j; element = e; inside = es }) o → ShowsTree (record { input = i; element = e; inside = es }) o
  moved_tree i j e es (node c p t x) h s (ec, ep, et, k) = (ec, ep, et, moved_content i j e es x h s k)

  moved_content : (i j : List ℕ) (e : Element) (es : List Element) (x : Content) → octets_between i e.content e.end ≡ octets_between j e.content e.end → Same i j es
      → ShowsContent (record { input = j; element = e; inside = es }) x → ShowsContent (record { input = i; element = e; inside = es }) x
  moved_content i j e es (sequence l) h s k = (k.0, moved_items i j es l s k.1)
  moved_content i j e es (set l) h s k = (k.0, moved_items i j es l s k.1)
  moved_content i j e es x h s k = (same_content e (octets_between i e.content e.end) (octets_between j e.content e.end) x h k.0, k.1)

  moved_items : (i j : List ℕ) (es : List Element) (l : Nodes) → Same i j es → ShowItems (trees j es) l → ShowItems (trees i es) l
  moved_items i j [] no_nodes s k = tt
  moved_items i j [] (nodes o l) s k = absurd k
  moved_items i j (e ∷ es) no_nodes s k = absurd k
  moved_items i j (e ∷ es) (nodes o l) s k = (
    moved_tree i j e (take e.inside es) o s.0 (same_take e.inside i j es s.1) k.0,
    subst (λ vs. ShowItems vs l) (sym (trees_drop e.inside i es))
        (moved_items i j (drop e.inside es) l (same_drop e.inside i j es s.1) (subst (λ vs. ShowItems vs l) (trees_drop e.inside j es) k.1)),
  )

pub one_tree_of_contents : OneTreeOfContents
one_tree_of_contents i j es l l' h k k' = items_once (trees i es) l l' k (moved_items i j es l' (same_of_map i j es h) k')
