-- The path to the element that a walk visited last, and the extension that it is in.
use Rattle.std.proofs.Common.{◌≡◌, ◌≢◌, ◌↔◌, ℕ, ◌≤◌, ◌⊎◌, Bool, true, false, IsTrue, if◌then◌else◌, nat_le, Option, Some, None, List, [], ◌∷◌, ◌++◌}
use Rattle.std.proofs.Common.{ap, arith, codes, inl, inr, refl, subst, sym, take, ◌∙◌, true≢false}
use Rattle.std.proofs.lemmas.Bool.Decides.{nat_tests}
use Rattle.std.proofs.lemmas.List.Elements.{All-nil, All-push}
use Rattle.std.specs.List.{All}
use Rattle.std.specs.Option.{option_map}
use Rattle.der_base.specs.declared.rules.Rules.TheVariants.{Ber}
use Rattle.der_print.specs.Texts.{content_of}
use Rattle.der_print.proofs.LineLaws.{content_is}
use Rattle.der_schema.specs.declared.matching.Name.{Name}
use Rattle.der_schema.specs.declared.name_path.NameStep.{NameStep}
use Rattle.der_schema.specs.declared.namer.Namer.{Namer}
use Rattle.der_schema.specs.Known.{all_extras}
use Rattle.der_schema.specs.Meaning.{Root}
use Rattle.der_schema.specs.Named.{HasNamed, NamesNext}
use Rattle.der_schema.specs.NamePaths.{name_step}
use Rattle.der_schema.specs.Steps.{label_of}
use Rattle.text_json.specs.Fields.Fields.{label_text}
use Rattle.der_elements.specs.declared.element.Element.{Element}
use Rattle.der_elements.specs.declared.walk.Walk.{Walk}
use Rattle.der_elements.specs.Visits.{Visited}
use Rattle.der_elements.specs.Walked.{HasOctets, HasVisited, index_in, visited_of}
use Rattle.der_show.specs.declared.place.Place.{Place}
use Rattle.der_show.specs.Around.{around_past, kept}
use Rattle.der_show.specs.Places.{IsExtensionOf, IsIdentifier, IsInExtension, IsNamePath, StandsAt, further, inside, named, outside}
use Rattle.text_json.proofs.FieldsLaws.OpenLaws.{last_same, no_last}

-- the last of these elements is in this extension alone, or in none
abbrev pub AroundBy : Root → List ℕ → List Visited → Option (ℕ × List ℕ) → Type 0
AroundBy sc i vs None = (d : ℕ) (w : List ℕ) → ¬ IsInExtension sc i vs d w
AroundBy sc i vs (Some x) = IsInExtension sc i vs x.0 x.1
    × ((d : ℕ) (w : List ℕ) → IsInExtension sc i vs d w → d ≡ x.0)

pub around_none : (sc : Root) (i : List ℕ) → AroundBy sc i [] None
around_none sc i d w (named before v e s k j) = no_last before v e
around_none sc i d w (inside before v e s h k) = no_last before v e

-- after one more element
abbrev LastIn : Root → List ℕ → List Visited → Visited → ℕ → List ℕ → Type 0
LastIn sc i vs v d w = (IsIdentifier sc i vs v × (d ≡ v.depth))
    ⊎ ((IsIdentifier sc i vs v → ⊥) × IsInExtension sc i vs d w × (d ≤ v.depth))

in_last : (sc : Root) (i : List ℕ) (vs : List Visited) (v : Visited) (d : ℕ) (w : List ℕ)
    → IsInExtension sc i (vs ++ v ∷ []) d w → LastIn sc i vs v d w
in_last sc i vs v d w (named before u e s k j) =
    let same = last_same vs before v u e in
    inl (subst (λ x. IsIdentifier sc i vs x) (sym same.1) (subst (λ x. IsIdentifier sc i x u) (sym same.0) s), k ∙ ap (λ x. x.depth) (sym same.1))
in_last sc i vs v d w (inside before u e s h k) =
    let same = last_same vs before v u e in
    let other : IsIdentifier sc i before u → ⊥ = s in
    inr (
      (λ p. other (subst (λ x. IsIdentifier sc i before x) same.1 (subst (λ x. IsIdentifier sc i x v) same.0 p))),
      subst (λ x. IsInExtension sc i x d w) (sym same.0) h,
      subst (λ (x : Visited). d ≤ x.depth) (sym same.1) k,
    )

said : (sc : Root) (i : List ℕ) (vs : List Visited) (e : Element) (x : Option (ℕ × List ℕ)) → HasOctets i e
    → IsIdentifier sc i vs (visited_of e) → AroundBy sc i (vs ++ visited_of e ∷ []) (Some (e.depth, content_of e))
said sc i vs e x octets is =
    (named vs (visited_of e) refl is refl (content_is i e octets is.1), λ d w h. one d w (in_last sc i vs (visited_of e) d w h))
  where
    one : (d : ℕ) (w : List ℕ) → LastIn sc i vs (visited_of e) d w → d ≡ e.depth
    one d w (inl q) = q.1
    one d w (inr q) = absurd (q.0 is)

still_none : (sc : Root) (i : List ℕ) (vs : List Visited) (v : Visited) → AroundBy sc i vs None
    → (IsIdentifier sc i vs v → ⊥) → AroundBy sc i (vs ++ v ∷ []) None
still_none sc i vs v h other d w k = none (in_last sc i vs v d w k)
  where
    none : LastIn sc i vs v d w → ⊥
    none (inl q) = other q.0
    none (inr q) = h d w q.1

still_some : (sc : Root) (i : List ℕ) (vs : List Visited) (v : Visited) (x : ℕ × List ℕ) (b : Bool) → nat_le x.0 v.depth ≡ b
    → AroundBy sc i vs (Some x) → (IsIdentifier sc i vs v → ⊥)
    → AroundBy sc i (vs ++ v ∷ []) (if b then Some x else None)
still_some sc i vs v x true is h other =
    let le : x.0 ≤ v.depth = grind (arith, nat_tests, is) in
    (inside vs v refl other h.0 le, λ d w k. one d w (in_last sc i vs v d w k))
  where
    one : (d : ℕ) (w : List ℕ) → LastIn sc i vs v d w → d ≡ x.0
    one d w (inl q) = absurd (other q.0)
    one d w (inr q) = h.1 d w q.1
still_some sc i vs v x false is h other = λ d w k. none d w (in_last sc i vs v d w k)
  where
    none : (d : ℕ) (w : List ℕ) → LastIn sc i vs v d w → ⊥
    none d w (inl q) = other q.0
    none d w (inr q) =
        let same = h.1 d w q.1 in
        let le = q.2 in
        absurd (grind (arith, nat_tests, is, same, le))

around_kept : (sc : Root) (i : List ℕ) (vs : List Visited) (v : Visited) (x : Option (ℕ × List ℕ)) → AroundBy sc i vs x
    → (IsIdentifier sc i vs v → ⊥) → AroundBy sc i (vs ++ v ∷ []) (kept x v.depth)
around_kept sc i vs v None h other = still_none sc i vs v h other
around_kept sc i vs v (Some x) h other = still_some sc i vs v x _ refl h other

around_more : (sc : Root) (i : List ℕ) (vs : List Visited) (e : Element) (x : Option (ℕ × List ℕ)) (b : Bool)
    → AroundBy sc i vs x → HasOctets i e → IsTrue b ↔ IsIdentifier sc i vs (visited_of e)
    → AroundBy sc i (vs ++ visited_of e ∷ []) (around_past x b e)
around_more sc i vs e x true h octets t = said sc i vs e x octets (t.0 refl)
around_more sc i vs e x false h octets t = around_kept sc i vs (visited_of e) x h (λ s. true≢false (sym (t.1 s)))

-- the extension of the last element, if it is in one
pub extension_is : (sc : Root) (i : List ℕ) (vs : List Visited) (x : Option (ℕ × List ℕ)) → AroundBy sc i vs x
    → IsExtensionOf sc i vs (option_map (λ y. y.1) x)
extension_is sc i vs None h = h
extension_is sc i vs (Some x) h = (x.0, h.0)

-- how far one has looked for the element that begins at an offset
pub record HasLooked (sc : Root) (i : List ℕ) (offset : ℕ) (w : Walk) (n : Namer) (steps : List NameStep)
    (x : Option (ℕ × List ℕ)) : Type 0 where
  pub elements : List Visited
  pub visited : HasVisited all_extras Ber i w elements
  pub named : HasNamed sc i elements n
  pub path : IsNamePath sc i elements steps
  pub around : AroundBy sc i elements x
  pub none : All (λ v. v.offset ≢ offset) elements

pub looked_none : {sc : Root} {i : List ℕ} {w : Walk} {n : Namer} {steps : List NameStep} {x : Option (ℕ × List ℕ)}
    (offset : ℕ) → steps ≡ [] → x ≡ None → HasVisited all_extras Ber i w [] → HasNamed sc i [] n
    → HasLooked sc i offset w n steps x
looked_none {sc} {i} offset s a v h = record {
  elements = [];
  visited = v;
  named = h;
  path = outside refl s;
  around = subst (AroundBy sc i []) (sym a) (around_none sc i);
  none = All-nil _;
}

-- one more element
pub record IsOneMore (sc : Root) (i : List ℕ) (vs : List Visited) (e : Element) (said : Option Name) (w : Walk) (n : Namer)
    (steps : List NameStep) (x : Option (ℕ × List ℕ)) : Type 0 where
  pub visited : HasVisited all_extras Ber i w (vs ++ visited_of e ∷ [])
  pub octets : HasOctets i e
  pub next : NamesNext sc i vs (visited_of e) n said
  pub path : IsNamePath sc i (vs ++ visited_of e ∷ []) steps
  pub around : AroundBy sc i (vs ++ visited_of e ∷ []) x

pub one_more_place : {sc : Root} {i : List ℕ} {offset : ℕ} {w w' : Walk} {n n' : Namer} {old new : List NameStep}
    {x y : Option (ℕ × List ℕ)} (e : Element) (said : Option Name) (b : Bool) (p : HasLooked sc i offset w n old x)
    → HasVisited all_extras Ber i w' (p.elements ++ visited_of e ∷ []) → HasOctets i e → e.index ≡ index_in e.depth p.elements
    → NamesNext sc i p.elements (visited_of e) n' said
    → new ≡ take e.depth old ++ name_step said e.index (visited_of e) ∷ []
    → IsTrue b ↔ ((label_text (label_of said) ≡ codes "extnID") × (e.constructed ≡ false))
    → y ≡ around_past x b e → IsOneMore sc i p.elements e said w' n' new y
one_more_place {sc} {i} {old = old} {x = x} e said b p visited octets index next steps t after =
    let vs = p.elements in
    let v = visited_of e in
    record {
      visited = visited;
      octets = octets;
      next = next;
      path = further vs v old said refl p.path next.name
          (steps ∙ ap (λ m. take e.depth old ++ name_step said m v ∷ []) index);
      around = subst (AroundBy sc i (vs ++ v ∷ [])) (sym after)
          (around_more sc i vs e x b p.around octets
          (subst (λ l. IsTrue b ↔ ((label_text l ≡ codes "extnID") × (e.constructed ≡ false))) next.name t));
    }

pub looked_more : {sc : Root} {i : List ℕ} {offset : ℕ} {w w' : Walk} {n n' : Namer} {old new : List NameStep}
    {x y : Option (ℕ × List ℕ)} (e : Element) (said : Option Name) (p : HasLooked sc i offset w n old x)
    → IsOneMore sc i p.elements e said w' n' new y → e.offset ≢ offset → HasLooked sc i offset w' n' new y
looked_more {offset = offset} e said p one other = record {
  elements = p.elements ++ visited_of e ∷ [];
  visited = one.visited;
  named = one.next.named;
  path = one.path;
  around = one.around;
  none = All-push (λ v. v.offset ≢ offset) p.elements (visited_of e) p.none other;
}

pub found_place : {sc : Root} {i : List ℕ} {w : Walk} {n : Namer} {steps : List NameStep} {x : Option (ℕ × List ℕ)}
    (offset : ℕ) (vs : List Visited) (found : Place) → IsOneMore sc i vs found.element found.name w n steps x
    → found.element.offset ≡ offset → found.path.steps.items ≡ steps
    → option_map (λ y. y.now) found.extension ≡ option_map (λ y. y.1) x → StandsAt sc i offset found
found_place {sc} {i} {w} {steps = steps} {x = x} offset vs found one here path extension = record {
  before = vs;
  walk = w;
  visited = one.visited;
  octets = one.octets;
  here = here;
  name = one.next.name;
  path = subst (IsNamePath sc i (vs ++ visited_of found.element ∷ [])) (sym path) one.path;
  extension = subst (IsExtensionOf sc i (vs ++ visited_of found.element ∷ [])) (sym extension)
      (extension_is sc i (vs ++ visited_of found.element ∷ []) x one.around);
}
