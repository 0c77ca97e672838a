-- Which type an input is.
use Rattle.std.proofs.Common.{◌≡◌, ℕ, Bool, true, false, ◌&&◌, Option, Some, None, List, [], ◌∷◌, ◌++◌, refl, sym, ap, subst, ◌∙◌, append_assoc}
use Rattle.std.specs.Prelude.{IfSome}
use Rattle.std.specs.List.{All, list_all}
use Rattle.std.specs.Option.{is_some}
use Rattle.std.proofs.lemmas.List.{append-nil, map-append}
use Rattle.std.proofs.lemmas.List.Elements.{All-nil, All-append, All-cons}
use Rattle.std.proofs.lemmas.List.Folds.{list_all-append}
use Rattle.der_base.specs.declared.rules.Rules.{Rules}
use Rattle.der_elements.specs.declared.walk.Walk.{Walk}
use Rattle.der_elements.specs.Visits.{Visited, Visits}
use Rattle.der_elements.specs.Walked.{HasVisited}
use Rattle.der_elements.proofs.OneVisit.{visits_same}
use Rattle.der_schema.specs.declared.known.KnownType.{KnownType}
use Rattle.der_schema.specs.declared.schema.Component.{Component}
use Rattle.der_schema.specs.declared.schema.Schema.{Schema}
use Rattle.der_schema.specs.Beginnings.{BeginsWith}
use Rattle.der_schema.specs.Encodings.{all_seen, seen_in}
use Rattle.der_schema.specs.Ends.{is_whole_after}
use Rattle.der_schema.specs.Known.{all_extras, IsKnownType, IsOfType, IsFirstOf, IsFirstSchema}
use Rattle.der_schema.specs.Meaning.{Label, Root, root_of}
use Rattle.der_schema.specs.Opened.{Seen, of_input, opened_by, name_after}
use Rattle.der_schema.proofs.Prefix.{visited_first}
use Rattle.der_schema.proofs.Preorder.{names_by, names_by-append, names_of_tree, whole_in_preorder}
use Rattle.der_schema.proofs.Trees.{visits_tree}

-- the names of the elements of an input, one after another
abbrev pub names_so_far : Root → List Seen → List (Option Label)
names_so_far sc us = names_by (of_input sc ∷ []) us

-- each of these elements has a name
abbrev pub AllNamed : Root → List ℕ → List Visited → Type 0
AllNamed sc i vs = list_all is_some (names_so_far sc (all_seen i vs)) ≡ true

-- none has a name yet, as none was seen
pub none_named : (sc : Root) (i : List ℕ) → AllNamed sc i []
none_named sc i = refl

one_more_name : (sc : Root) (i : List ℕ) (vs : List Visited) (v : Visited)
    → names_so_far sc (all_seen i (vs ++ v ∷ [])) ≡ names_so_far sc (all_seen i vs) ++ name_after sc (all_seen i vs) (seen_in i v) ∷ []
one_more_name sc i vs v =
    ap (names_so_far sc) (map-append (seen_in i) vs (v ∷ []))
    ∙ names_by-append (of_input sc ∷ []) (all_seen i vs) (seen_in i v ∷ [])

both : (a b : Bool) → a ≡ true → b ≡ true → (a && b) ≡ true
both a b p q = ap (λ (z : Bool). z && b) p ∙ q

left_true : (a b : Bool) → (a && b) ≡ true → a ≡ true
left_true true b h = refl
left_true false b h = absurd (cc)

right_true : (a b : Bool) → (a && b) ≡ true → b ≡ true
right_true true b h = h
right_true false b h = absurd (cc)

-- one more has a name
pub named_more : (sc : Root) (i : List ℕ) (vs : List Visited) (v : Visited) → AllNamed sc i vs
    → is_some (name_after sc (all_seen i vs) (seen_in i v)) ≡ true → AllNamed sc i (vs ++ v ∷ [])
named_more sc i vs v h one =
    let n = name_after sc (all_seen i vs) (seen_in i v) in
    ap (list_all is_some) (one_more_name sc i vs v)
    ∙ list_all-append is_some (names_so_far sc (all_seen i vs)) (n ∷ [])
    ∙ both (list_all is_some (names_so_far sc (all_seen i vs))) (is_some n && true) h (both (is_some n) true one refl)

-- what is named of an input of a type, element after element
named_of_type : (sc : Root) (r : Rules) (i : List ℕ) (t : IsOfType sc r i) → AllNamed sc i t.is_tree.visited
named_of_type sc r i t =
    ap (λ (us : List Seen). list_all is_some (names_so_far sc us)) t.is_tree.same
    ∙ ap (list_all is_some) (names_of_tree sc t.tree) ∙ t.named

whole_of_type : (sc : Root) (r : Rules) (i : List ℕ) (t : IsOfType sc r i)
    → is_whole_after sc (all_seen i t.is_tree.visited) ≡ true
whole_of_type sc r i t =
    ap (is_whole_after sc) t.is_tree.same ∙ whole_in_preorder sc t.tree ∙ t.whole

-- if one has no name, the input isn't of the type
nameless : (sc : Root) (r : Rules) (i : List ℕ) (vs ws : List Visited) (v : Visited) (t : IsOfType sc r i)
    → t.is_tree.visited ≡ (vs ++ v ∷ []) ++ ws
    → is_some (name_after sc (all_seen i vs) (seen_in i v)) ≡ false → ⊥
nameless sc r i vs ws v t e none =
    let n = name_after sc (all_seen i vs) (seen_in i v) in
    let us = all_seen i (vs ++ v ∷ []) in
    let whole : list_all is_some (names_so_far sc (us ++ all_seen i ws)) ≡ true =
    ap (λ (l : List Seen). list_all is_some (names_so_far sc l)) (sym (ap (all_seen i) e ∙ map-append (seen_in i) (vs ++ v ∷ []) ws))
    ∙ named_of_type sc r i t in
    let later = names_by (opened_by (of_input sc ∷ []) us) (all_seen i ws) in
    let parts : (list_all is_some (names_so_far sc us) && list_all is_some later) ≡ true =
    sym (ap (list_all is_some) (names_by-append (of_input sc ∷ []) us (all_seen i ws)) ∙ list_all-append is_some (names_so_far sc us) later)
    ∙ whole in
    let until : (list_all is_some (names_so_far sc (all_seen i vs)) && (is_some n && true)) ≡ true =
    sym (ap (list_all is_some) (one_more_name sc i vs v) ∙ list_all-append is_some (names_so_far sc (all_seen i vs)) (n ∷ []))
    ∙ left_true (list_all is_some (names_so_far sc us)) (list_all is_some later) parts in
    let one : is_some n ≡ true = left_true (is_some n) true (right_true (list_all is_some (names_so_far sc (all_seen i vs))) (is_some n && true) until) in
    absurd (cc)

pub no_name : (sc : Root) (r : Rules) (i : List ℕ) (w : Walk) (vs : List Visited) (v : Visited)
    → HasVisited all_extras r i w (vs ++ v ∷ []) → is_some (name_after sc (all_seen i vs) (seen_in i v)) ≡ false
    → IsOfType sc r i → ⊥
no_name sc r i w vs v has none t =
    let (ws, e) = visited_first all_extras r i w (vs ++ v ∷ []) t.is_tree.visited has t.is_tree.visits in
    nameless sc r i vs ws v t e none

-- the same of one of the elements that an input begins with
pub no_name_among : (sc : Root) (r : Rules) (i : List ℕ) (vs us : List Visited) (v : Visited)
    → BeginsWith r i (vs ++ v ∷ us) → is_some (name_after sc (all_seen i vs) (seen_in i v)) ≡ false
    → IsOfType sc r i → ⊥
no_name_among sc r i vs us v begins none t =
    let (ws, e) = begins t.is_tree.visited t.is_tree.visits in
    nameless sc r i vs (us ++ ws) v t
    (e ∙ append_assoc vs (v ∷ us) ws ∙ sym (append_assoc vs (v ∷ []) (us ++ ws))) none

-- if the input is no elements, it isn't of the type
pub no_elements : (sc : Root) (r : Rules) (i : List ℕ) → ((us : List Visited) → Visits all_extras r 101 0 0 i us → ⊥) → IsOfType sc r i → ⊥
no_elements sc r i never t = never t.is_tree.visited t.is_tree.visits

-- at the end the input is of the type if the contents are whole
pub of_type : (sc : Root) (r : Rules) (i : List ℕ) (vs : List Visited) → Visits all_extras r 101 0 0 i vs → AllNamed sc i vs
    → is_whole_after sc (all_seen i vs) ≡ true → IsOfType sc r i
of_type sc r i vs visits named whole =
    let t = visits_tree i visits in
    record {
      tree = t.forest;
      is_tree = record { visited = vs; visits = visits; same = t.same };
      named = ap (list_all is_some) (sym (names_of_tree sc t.forest))
          ∙ ap (λ (us : List Seen). list_all is_some (names_so_far sc us)) (sym t.same) ∙ named;
      whole = sym (whole_in_preorder sc t.forest) ∙ ap (is_whole_after sc) (sym t.same) ∙ whole;
    }

pub whole_at_end : (sc : Root) (r : Rules) (i : List ℕ) (vs : List Visited) → Visits all_extras r 101 0 0 i vs → IsOfType sc r i
    → is_whole_after sc (all_seen i vs) ≡ true
whole_at_end sc r i vs visits t =
    ap (λ (us : List Visited). is_whole_after sc (all_seen i us)) (visits_same visits t.is_tree.visits refl) ∙ whole_of_type sc r i t

-- some types of a list were searched, and these are left
pub record Searched (P : KnownType → Type 0) (all ahead : List KnownType) : Type 0 where
  pub before : List KnownType
  pub parts : all ≡ before ++ ahead
  pub none : All (λ s. ¬ P s) before

pub nothing_searched : (P : KnownType → Type 0) (all : List KnownType) → Searched P all all
nothing_searched P all = record { before = []; parts = refl; none = All-nil (λ (s : KnownType). ¬ P s) }

pub searched_one : (P : KnownType → Type 0) (all ahead rest : List KnownType) (sc : KnownType) → Searched P all ahead → ahead ≡ sc ∷ rest
    → (P sc → ⊥) → Searched P all rest
searched_one P all ahead rest sc s e never = record {
  before = s.before ++ sc ∷ [];
  parts = s.parts ∙ ap (λ (l : List KnownType). s.before ++ l) e ∙ sym (append_assoc s.before (sc ∷ []) rest);
  none = All-append (λ (t : KnownType). ¬ P t) s.before (sc ∷ []) s.none (All-cons (λ (t : KnownType). ¬ P t) sc [] never (All-nil (λ (t : KnownType). ¬ P t)));
}

pub found_first : (P : KnownType → Type 0) (all ahead rest : List KnownType) (sc : KnownType) → Searched P all ahead → ahead ≡ sc ∷ rest
    → P sc → IsFirstOf P all sc
found_first P all ahead rest sc s e it = record {
  before = s.before;
  after = rest;
  parts = s.parts ∙ ap (λ (l : List KnownType). s.before ++ l) e;
  none = s.none;
  holds = it;
}

pub found_none : (P : KnownType → Type 0) (all ahead : List KnownType) → Searched P all ahead → ahead ≡ [] → All (λ s. ¬ P s) all
found_none P all ahead s e =
    subst (All (λ (t : KnownType). ¬ P t)) (sym (s.parts ∙ ap (λ (l : List KnownType). s.before ++ l) e ∙ append-nil s.before)) s.none

-- the first of a list is the first of the others, if the one before them isn't it
pub first_later : (P : KnownType → Type 0) (k : KnownType) (ks : List KnownType) (ts : List Component)
    (o : Option Schema)
    → (P k → ⊥) → IsFirstSchema P ks ts o → IsFirstSchema P (k ∷ ks) ts o
first_later P k ks ts None never none = All-cons (λ (t : KnownType). ¬ P t) k ks never none
first_later P k ks ts (Some sc) never (one, first, same) = (
  one,
  record {
    before = k ∷ first.before;
    after = first.after;
    parts = ap (λ (l : List KnownType). k ∷ l) first.parts;
    none = All-cons (λ (t : KnownType). ¬ P t) k first.before never first.none;
    holds = first.holds;
  },
  same,
)

-- the first type that an input is of
pub first_is_of_type : (ts : List Component) (ks : List KnownType) (r : Rules) (i : List ℕ) (o : Option Schema)
    → IsFirstSchema (IsKnownType ts r i) ks ts o
    → IfSome o (λ (sc : Schema). IsOfType (root_of sc) r i)
first_is_of_type ts ks r i None h = tt
first_is_of_type ts ks r i (Some sc) h = subst (λ (z : Root). IsOfType z r i) (sym h.2.root) h.1.holds.of_type

-- the first type of a name
pub first_has_name : (ts : List Component) (ks : List KnownType) (n : List ℕ) (o : Option Schema)
    → IsFirstSchema (λ (k : KnownType). k.name.now ≡ n) ks ts o → IfSome o (λ (sc : Schema). sc.name.now ≡ n)
first_has_name ts ks n None h = tt
first_has_name ts ks n (Some sc) h = h.2.name ∙ h.1.holds
