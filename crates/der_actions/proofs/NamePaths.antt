-- The path made of names to the element that was visited last.
use Rattle.std.proofs.Common.{◌≡◌, ◌∙◌, ◌⊎◌, inl, inr, ℕ, Bool, IsTrue, false, true, if◌then◌else◌, not, ◌&&◌, Option, Some, None}
use Rattle.std.proofs.Common.{Err, IfOk, Ok, Result, List, [], ◌∷◌, ◌++◌, ap, append-nil, append_assoc, codes, refl, subst, sym, take}
use Rattle.std.specs.Prelude.{◌↔◌, decimal, drop, map}
use Rattle.std.proofs.lemmas.List.{map-append, take-map}
use Rattle.der_actions.specs.FieldNames.{HasNamedSo, HasStepsSo}
use Rattle.der_actions.specs.Paths.{HasNamePath, Labelled, labelled, labelled_step, labels_from, labels_of, step_at}
use Rattle.text_json.specs.Fields.Fields.{label_after}
use Rattle.der_schema.specs.declared.matching.Name.{Name}
use Rattle.der_schema.specs.declared.name_path.NameStep.{NameStep}
use Rattle.der_schema.specs.declared.namer.Namer.{Namer}
use Rattle.der_schema.specs.declared.schema.Schema.{Schema}
use Rattle.der_schema.specs.Meaning.{Label, Root, root_of}
use Rattle.der_schema.specs.NamePaths.{further_names, is_empty, is_silent, is_silent_by, name_path_text, name_step}
use Rattle.der_schema.specs.NamePaths.{name_step_text, point_by, shown, shown_text, text_by}
use Rattle.der_schema.specs.Steps.{label_of}
use Rattle.der_elements.specs.declared.path.Step.{Step}
use Rattle.der_elements.specs.Paths.{step_text}
use Rattle.der_elements.specs.Visits.{Visited}
use Rattle.der_elements.specs.Walked.{index_in}

-- the text of a path depends on its steps and on what the type says of them

abbrev silent_by : Option Label → Bool
silent_by None = false
silent_by (Some l) = not l.is_item && is_empty l.text

abbrev words_of : Option Label → Step → List ℕ
words_of None s = step_text s
words_of (Some l) s = if l.is_item then codes "[" ++ decimal s.index ++ codes "]" else l.text

abbrev point_of : Option Label → List ℕ
point_of None = codes "."
point_of (Some l) = if l.is_item then [] else (if is_empty l.text then [] else codes ".")

abbrev shown_labels : List Labelled → List Labelled
shown_labels [] = []
shown_labels (l ∷ ls) = if silent_by l.label then shown_labels ls else l ∷ ls

abbrev further_labels : List Labelled → List ℕ
further_labels [] = []
further_labels (l ∷ ls) = point_of l.label ++ words_of l.label l.step ++ further_labels ls

abbrev first_labels : List Labelled → List ℕ
first_labels [] = []
first_labels (l ∷ ls) = words_of l.label l.step ++ further_labels ls

silent_is : (n : Option Name) → is_silent_by n ≡ silent_by (label_of n)
silent_is None = refl
silent_is (Some n) = refl

words_are : (n : Option Name) (s : NameStep) → text_by n s ≡ words_of (label_of n) s.step
words_are None s = refl
words_are (Some n) s = refl

point_is : (n : Option Name) → point_by n ≡ point_of (label_of n)
point_is None = refl
point_is (Some n) = refl

further_are : (steps : List NameStep) → further_names steps ≡ further_labels (map labelled steps)
further_are [] = refl
further_are (s ∷ steps) =
    ap (λ t. t ++ name_step_text s ++ further_names steps) (point_is s.name)
    ∙ ap (λ t. point_of (label_of s.name) ++ t ++ further_names steps) (words_are s.name s)
    ∙ ap (λ t. point_of (label_of s.name) ++ words_of (label_of s.name) s.step ++ t) (further_are steps)

first_are : (steps : List NameStep) → shown_text steps ≡ first_labels (map labelled steps)
first_are [] = refl
first_are (s ∷ steps) =
    ap (λ t. t ++ further_names steps) (words_are s.name s)
    ∙ ap (λ t. words_of (label_of s.name) s.step ++ t) (further_are steps)

shown_if : (b c : Bool) (s : NameStep) (steps : List NameStep) → b ≡ c
    → map labelled (shown steps) ≡ shown_labels (map labelled steps)
    → map labelled (if b then shown steps else s ∷ steps)
    ≡ (if c then shown_labels (map labelled steps) else labelled s ∷ map labelled steps)
shown_if true true s steps e h = h
shown_if false false s steps e h = refl
shown_if true false s steps e h = absurd (cc)
shown_if false true s steps e h = absurd (cc)

shown_are : (steps : List NameStep) → map labelled (shown steps) ≡ shown_labels (map labelled steps)
shown_are [] = refl
shown_are (s ∷ steps) = shown_if (is_silent s) (silent_by (label_of s.name)) s steps (silent_is s.name) (shown_are steps)

first_dropped : (steps : List NameStep) → map labelled (drop 1 steps) ≡ drop 1 (map labelled steps)
first_dropped [] = refl
first_dropped (s ∷ steps) = refl

path_is : (steps : List NameStep) → name_path_text steps ≡ first_labels (shown_labels (drop 1 (map labelled steps)))
path_is steps =
    first_are (shown (drop 1 steps))
    ∙ ap first_labels (shown_are (drop 1 steps) ∙ ap shown_labels (first_dropped steps))

-- so the same labels are the same text
same_path : (v w : List NameStep) → map labelled v ≡ map labelled w → name_path_text v ≡ name_path_text w
same_path v w e = path_is v ∙ ap (λ ls. first_labels (shown_labels (drop 1 ls))) e ∙ sym (path_is w)

-- an element has one path made of names
pub one_path : (s : Option Schema) (i : List ℕ) (vs : List Visited) (t u : List ℕ) → HasNamePath s i vs t
    → HasNamePath s i vs u → t ≡ u
one_path None i vs t u h k = absurd h
one_path (Some schema) i vs t u (v, e, p) (w, f, q) = sym p ∙ same_path v w (e ∙ sym f) ∙ q

-- the labels of one more element

abbrev one_more : Root → List ℕ → List Visited → List Labelled → Visited → List Labelled
one_more sc i before path v = take v.depth path ++ labelled_step sc i before v ∷ []

labels_from_more : (sc : Root) (i : List ℕ) (before : List Visited) (path : List Labelled) (vs : List Visited) (v : Visited)
    → labels_from sc i before path (vs ++ v ∷ [])
    ≡ one_more sc i (before ++ vs) (labels_from sc i before path vs) v
unfolding labels_from
labels_from_more sc i before path [] v = ap (λ w. one_more sc i w path v) (sym (append-nil before))
labels_from_more sc i before path (u ∷ vs) v =
    labels_from_more sc i (before ++ u ∷ []) (one_more sc i before path u) vs v
    ∙ ap (λ w. one_more sc i w (labels_from sc i (before ++ u ∷ []) (one_more sc i before path u) vs) v)
    (append_assoc before (u ∷ []) vs)

labels_more : (sc : Root) (i : List ℕ) (vs : List Visited) (v : Visited)
    → labels_of sc i (vs ++ v ∷ []) ≡ take v.depth (labels_of sc i vs) ++ labelled_step sc i vs v ∷ []
labels_more sc i vs v = labels_from_more sc i [] [] vs v

labels_none : (sc : Root) (i : List ℕ) → labels_of sc i [] ≡ []
unfolding labels_from
labels_none sc i = refl

-- before a walk
pub steps_none : (s : Option Schema) (i : List ℕ) (steps : List NameStep) → steps ≡ [] → HasStepsSo s i [] steps
steps_none None i steps e = tt
steps_none (Some schema) i steps e = ap (map labelled) e ∙ sym (labels_none (root_of schema) i)

-- after one more element
pub steps_more : (sc : Root) (i : List ℕ) (vs : List Visited) (v : Visited) (old new : List NameStep) (said : Option Name)
    (n : ℕ) → map labelled old ≡ labels_of sc i vs → label_of said ≡ label_after sc i vs v → n ≡ index_in v.depth vs
    → new ≡ take v.depth old ++ name_step said n v ∷ [] → map labelled new ≡ labels_of sc i (vs ++ v ∷ [])
steps_more sc i vs v old new said n path name index entered =
    ap (map labelled) entered
    ∙ map-append labelled (take v.depth old) (name_step said n v ∷ [])
    ∙ ap (λ ls. ls ++ labelled (name_step said n v) ∷ []) (sym (take-map labelled v.depth old) ∙ ap (take v.depth) path)
    ∙ ap (λ l. take v.depth (labels_of sc i vs) ++ record { label = l; step = step_at n v } ∷ []) name
    ∙ ap (λ m. take v.depth (labels_of sc i vs) ++ record { label = label_after sc i vs v; step = step_at m v } ∷ []) index
    ∙ sym (labels_more sc i vs v)

-- where there is no namer there is no type
pub no_type : (s : Option Schema) (i : List ℕ) (vs : List Visited) (n : Option Namer) → n ≡ None → HasNamedSo s n i vs
    → s ≡ None
no_type None i vs n e h = refl
no_type (Some schema) i vs None e h = absurd h
no_type (Some schema) i vs (Some n) e h = absurd (cc)

-- the text of the steps is the path
pub path_of_steps : (s : Option Schema) (i : List ℕ) (vs : List Visited) (was : Option Namer) {n : Namer}
    (steps : List NameStep) (text : List ℕ) → was ≡ Some n → HasNamedSo s was i vs → HasStepsSo s i vs steps
    → text ≡ name_path_text steps → HasNamePath s i vs text
path_of_steps None i vs None steps text e h k t = absurd (cc)
path_of_steps None i vs (Some m) steps text e h k t = absurd h
path_of_steps (Some schema) i vs was steps text e h k t = (steps, k, sym t)

-- a text is the path iff it is the text of the steps
pub has_some : (s : Option Schema) (i : List ℕ) (vs : List Visited) (p t : List ℕ) (b : Bool) → HasNamePath s i vs p
    → (IsTrue b ↔ (p ≡ t)) → IsTrue b ↔ HasNamePath s i vs t
has_some s i vs p t b h same = (
  λ is. subst (HasNamePath s i vs) (same.0 is) h,
  λ k. same.1 (one_path s i vs p t h k),
)

pub has_none : (s : Option Schema) (i : List ℕ) (vs : List Visited) (t : List ℕ) → s ≡ None
    → IsTrue false ↔ HasNamePath s i vs t
has_none None i vs t e = (λ f. absurd (cc), λ k. absurd k)
has_none (Some schema) i vs t e = absurd (cc)

either_back : (P Q R : Type 0) → ¬ P → (Q → R) → P ⊎ Q → R
either_back P Q R other f (inl p) = absurd (other p)
either_back P Q R other f (inr q) = f q

-- where the first isn't so, the second is
pub second_of : (P Q : Type 0) (b : Bool) → ¬ P → (IsTrue b ↔ Q) → IsTrue b ↔ (P ⊎ Q)
second_of P Q b other h = (λ is. inr (h.0 is), either_back P Q (IsTrue b) other h.1)

-- what follows of what is found
pub then_is : {E : Type 0} (r : Result Bool E) (P Q : Bool → Type 0) → ((b : Bool) → P b → Q b) → IfOk r P → IfOk r Q
then_is (Ok b) P Q f h = f b h
then_is (Err e) P Q f h = tt
