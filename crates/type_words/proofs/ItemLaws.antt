-- What is said after one more element.
use Rattle.std.proofs.Common.{◌≡◌, ℕ, Option, Some, None, List, [], ◌∷◌, ◌++◌, append-nil, append_assoc, refl, sym, ap, subst, ◌∙◌}
use Rattle.std.specs.Option.{option_to_list}
use Rattle.der_base.specs.declared.rules.Rules.{Rules}
use Rattle.der_elements.specs.declared.walk.Walk.{Walk}
use Rattle.der_elements.specs.Visits.{Visited}
use Rattle.der_elements.specs.Walked.{HasVisited}
use Rattle.der_schema.specs.declared.matching.Name.{Name}
use Rattle.der_schema.specs.declared.namer.Namer.{Namer}
use Rattle.der_schema.specs.Encodings.{all_seen, seen_in}
use Rattle.der_schema.specs.Known.{all_extras}
use Rattle.der_schema.specs.Meaning.{Label, Root, State}
use Rattle.der_schema.specs.Named.{HasNamed, NamesNext}
use Rattle.der_schema.specs.Opened.{name_in, of_input, opened_by, opened_past}
use Rattle.der_schema.specs.Steps.{label_of}
use Rattle.type_words.specs.declared.places.Places.{Places}
use Rattle.type_words.specs.Items.{Named, Place, Said, first_place, items_by, items_of, named, named_by, named_in}
use Rattle.type_words.specs.Items.{places_by, places_past, step}
use Rattle.type_words.specs.Places.{places_in}
use Rattle.type_words.specs.Puts.{PutsAll, puts_more, puts_none}

named_more : (ss : List State) (i : List ℕ) (us : List Visited) (v : Visited) → named_by ss i (us ++ v ∷ [])
    ≡ named_by ss i us ++ named v (name_in (opened_by ss (all_seen i us)) (seen_in i v)) ∷ []
named_more ss i [] v = refl
named_more ss i (u ∷ us) v =
    ap (λ (ns : List Named). named u (name_in ss (seen_in i u)) ∷ ns) (named_more (opened_past ss (seen_in i u)) i us v)

places_more : (ps : List Place) (i : List ℕ) (ns : List Named) (n : Named)
    → places_by ps i (ns ++ n ∷ []) ≡ places_past (places_by ps i ns) i n
places_more ps i [] n = refl
places_more ps i (m ∷ ns) n = places_more (places_past ps i m) i ns n

items_more : (ps : List Place) (i : List ℕ) (ns : List Named) (n : Named)
    → items_by ps i (ns ++ n ∷ []) ≡ items_by ps i ns ++ option_to_list (step (places_by ps i ns) i n).item
items_more ps i [] n = append-nil (option_to_list (step ps i n).item)
items_more ps i (m ∷ ns) n =
    let first = option_to_list (step ps i m).item in
    let past = places_past ps i m in
    ap (λ (xs : List Said). first ++ xs) (items_more past i ns n)
    ∙ sym (append_assoc first (items_by past i ns) (option_to_list (step (places_by past i ns) i n).item))

-- the items of the elements so far were put to a sink
pub record HasPut {S : Type 0} (Put : S → Said → S → Type 0) (sc : Root) (r : Rules) (i : List ℕ) (w : Walk)
    (n : Namer) (ps : Places) (s t : S) : Type 0 where
  pub elements : List Visited
  pub visited : HasVisited all_extras r i w elements
  pub named : HasNamed sc i elements n
  pub placed : places_in ps ≡ places_by (first_place ∷ []) i (named_in sc i elements)
  pub put : PutsAll Put s (items_of sc i elements) t

pub put_none : {S : Type 0} {Put : S → Said → S → Type 0} (sc : Root) (r : Rules) (i : List ℕ) (w : Walk) (n : Namer)
    (ps : Places) (s : S) → HasVisited all_extras r i w [] → HasNamed sc i [] n → places_in ps ≡ first_place ∷ []
    → HasPut Put sc r i w n ps s s
put_none sc r i w n ps s visited named placed = record {
  elements = [];
  visited = visited;
  named = named;
  placed = placed;
  put = puts_none refl refl;
}

-- what is put of one element: its item, if it has one
abbrev pub PutsOne : {S : Type 0} → (S → Said → S → Type 0) → Option Said → S → S → Type 0
PutsOne Put None s t = s ≡ t
PutsOne Put (Some x) s t = Put s x t

puts_on : {S : Type 0} (Put : S → Said → S → Type 0) (xs : List Said) (o : Option Said) (s t u : S)
    → PutsAll Put s xs t → PutsOne Put o t u → PutsAll Put s (xs ++ option_to_list o) u
puts_on Put xs None s t u all e =
    subst (λ ys. PutsAll Put s ys u) (sym (append-nil xs)) (subst (λ z. PutsAll Put s xs z) e all)
puts_on Put xs (Some x) s t u all one = puts_more xs x t refl all one

pub put_more : {S : Type 0} {Put : S → Said → S → Type 0} (sc : Root) (r : Rules) (i : List ℕ) (w w' : Walk)
    (n n' : Namer) (ps ps' : Places) (s t u : S) (v : Visited) (name : Option Name) (o : Option Said)
    (so : HasPut Put sc r i w n ps s t) → HasVisited all_extras r i w' (so.elements ++ v ∷ [])
    → NamesNext sc i so.elements v n' name
    → o ≡ (step (places_in ps) i (named v (label_of name))).item
    → places_in ps' ≡ places_past (places_in ps) i (named v (label_of name))
    → PutsOne Put o t u → HasPut Put sc r i w' n' ps' s u
put_more {S} {Put} sc r i w w' n n' ps ps' s t u v name o so visited names item past one =
    let before = named_in sc i so.elements in
    let here = named v (label_of name) in
    let all : named_in sc i (so.elements ++ v ∷ []) ≡ before ++ here ∷ [] =
    named_more (of_input sc ∷ []) i so.elements v
    ∙ ap (λ (l : Option Label). before ++ named v l ∷ []) (sym names.name) in
    let places = places_by (first_place ∷ []) i before in
    let said : o ≡ (step places i here).item =
    item ∙ ap (λ (qs : List Place). (step qs i here).item) so.placed in
    let items : items_of sc i so.elements ++ option_to_list o ≡ items_of sc i (so.elements ++ v ∷ []) =
    ap (λ (x : Option Said). items_of sc i so.elements ++ option_to_list x) said
    ∙ sym (ap (items_by (first_place ∷ []) i) all ∙ items_more (first_place ∷ []) i before here) in
    record {
      elements = so.elements ++ v ∷ [];
      visited = visited;
      named = names.named;
      placed = past ∙ ap (λ (qs : List Place). places_past qs i here) so.placed
          ∙ sym (ap (places_by (first_place ∷ []) i) all ∙ places_more (first_place ∷ []) i before here);
      put = subst (λ xs. PutsAll Put s xs u) items (puts_on Put (items_of sc i so.elements) o s t u so.put one);
    }
