-- What a walk visits is a tree in preorder.
use Rattle.std.proofs.Common.{◌≡◌, ℕ, suc, List, [], ◌∷◌, ◌++◌, refl, ◌∙◌, ap}
use Rattle.std.proofs.lemmas.List.{map-append}
use Rattle.der_base.specs.declared.rules.Rules.{Rules}
use Rattle.der_elements.specs.Visits.{Visited, Extras, Visits, VisitsOne, none, one_more, primitive, broken, string, constructed, indefinite}
use Rattle.der_schema.specs.Encodings.{all_seen, encoding_in, seen_in}
use Rattle.der_schema.specs.Meaning.{Encoding}
use Rattle.der_schema.specs.Opened.{Forest, no_elements, one_more as one_tree_more, Seen, seen, preorder}

pub record Trees (i : List ℕ) (k : ℕ) (vs : List Visited) : Type 0 where
  pub forest : Forest
  pub same : all_seen i vs ≡ preorder k forest

record OneTree (i : List ℕ) (k : ℕ) (vs : List Visited) : Type 0 where
  element : Encoding
  inside : Forest
  same : all_seen i vs ≡ seen k element ∷ preorder (suc k) inside

-- an element with nothing inside
leaf : (i : List ℕ) (k : ℕ) (vs : List Visited) (v : Visited) → vs ≡ v ∷ [] → v.depth ≡ k → OneTree i k vs
leaf i k vs v e ed = record {
  element = encoding_in i v;
  inside = no_elements;
  same = ap (all_seen i) e ∙ ap (λ (n : ℕ). seen n (encoding_in i v) ∷ []) ed;
}

-- an element with these inside
branch : (i : List ℕ) (k : ℕ) (vs us : List Visited) (v : Visited) → vs ≡ v ∷ us → v.depth ≡ k → Trees i (suc k) us
    → OneTree i k vs
branch i k vs us v e ed t = record {
  element = encoding_in i v;
  inside = t.forest;
  same = ap (all_seen i) e ∙ ap (λ (n : ℕ). seen n (encoding_in i v) ∷ all_seen i us) ed
      ∙ ap (λ (ws : List Seen). seen k (encoding_in i v) ∷ ws) t.same;
}

join : (i : List ℕ) (k : ℕ) (vs us ws : List Visited) → vs ≡ us ++ ws → OneTree i k us → Trees i k ws → Trees i k vs
join i k vs us ws e t u = record {
  forest = one_tree_more t.element t.inside u.forest;
  same = ap (all_seen i) e ∙ map-append (seen_in i) us ws
      ∙ ap (λ (l : List Seen). l ++ all_seen i ws) t.same
      ∙ ap (λ (l : List Seen). (seen k t.element ∷ preorder (suc k) t.inside) ++ l) u.same;
}

mutual
  pub visits_tree : {x : Extras} {r : Rules} {d k a : ℕ} {b : List ℕ} {vs : List Visited} (i : List ℕ)
      → Visits x r d k a b vs → Trees i k vs
  visits_tree i none = record { forest = no_elements; same = refl }
  visits_tree {k = k} {vs = vs} i (one_more b rest us ws ei ev one more) =
      join i k vs us ws ev (one_tree i one) (visits_tree i more)

  one_tree : {x : Extras} {r : Rules} {d k a : ℕ} {b : List ℕ} {vs : List Visited} (i : List ℕ)
      → VisitsOne x r d k a b vs → OneTree i k vs
  one_tree {k = k} {vs = vs} i (primitive c t h w is e has out ev) = leaf i k vs _ ev refl
  one_tree {k = k} {vs = vs} i (broken t h w is e keeps er it never ev) = leaf i k vs _ ev refl
  one_tree {k = k} {vs = vs} i (string s t h w u v us is e has en holds first vis ev) =
      branch i k vs us _ ev refl (visits_tree i vis)
  one_tree {k = k} {vs = vs} i (constructed c t h w us is e may vis ev) = branch i k vs us _ ev refl (visits_tree i vis)
  one_tree {k = k} {vs = vs} i (indefinite c t h w us is e may vis ev) = branch i k vs us _ ev refl (visits_tree i vis)
