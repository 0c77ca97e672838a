-- The elements of a walk that are kept to be compared.
use Rattle.std.proofs.Common.{◌≡◌, ◌∙◌, Bool, true, false, ℕ, List, [], ◌∷◌, ◌++◌, ap, refl, subst, sym}
use Rattle.std.specs.Prelude.{map, if◌then◌else◌, Option, Some, None}
use Rattle.der_base.specs.declared.rules.Rules.{Rules}
use Rattle.std.proofs.lemmas.List.{map-append}
use Rattle.der_print.specs.Lines.{content_in}
use Rattle.der_print.specs.Texts.{content_of}
use Rattle.der_print.proofs.LineLaws.{content_is}
use Rattle.der_elements.specs.declared.element.Element.{Element}
use Rattle.der_elements.specs.declared.walk.Walk.{Walk}
use Rattle.der_elements.specs.Visits.{Visited}
use Rattle.der_elements.specs.Walked.{HasOctets, HasVisited, visited_of}
use Rattle.der_schema.specs.declared.schema.Schema.{Schema}
use Rattle.der_actions.specs.declared.diff.NamedElement.{NamedElement}
use Rattle.der_actions.specs.declared.fields.Fields.{Fields}
use Rattle.der_actions.specs.declared.options.Options.{Options}
use Rattle.der_actions.specs.Differences.{AreNamedIn, compared, compared_in, compared_of, is_entered, no_element, one_more_element, visited_in}
use Rattle.der_actions.specs.FieldNames.{HasNamedBy, IsFieldIn}
use Rattle.der_actions.specs.Namings.{IsNamedBy}
use Rattle.der_actions.specs.Outputs.{extras_of}

own : (constructed : Bool) (holds : Option Rules) (w w' : List ℕ) → (constructed ≡ false → w ≡ w')
    → (if is_entered constructed holds then [] else w) ≡ (if is_entered constructed holds then [] else w')
own true holds w w' same = refl
own false (Some r) w w' same = refl
own false None w w' same = same refl

-- what is compared of an element is that in the input
pub compared_is : (i : List ℕ) (e : Element) → HasOctets i e → compared_of e ≡ compared_in i (visited_of e)
compared_is i e h =
    ap (λ w. record {
      depth = e.depth;
      class = e.class;
      number = e.number;
      constructed = e.constructed;
      holds = e.holds;
      content = w;
    }) (own e.constructed e.holds (content_of e) (content_in i (visited_of e)) (content_is i e h))

-- the elements that the walk has visited are kept, with what the type tells about them
pub record HasKept (o : Options) (i : List ℕ) (w : Walk) (f : Fields) (ns : List NamedElement) : Type 0 where
  pub elements : List Visited
  pub visited : HasVisited (extras_of o) o.rules i w elements
  pub kept : map compared ns ≡ map (compared_in i) elements
  pub same : map visited_in ns ≡ elements
  pub schema : Option Schema
  pub named_by : IsNamedBy o.naming o.rules i schema
  pub follows : HasNamedBy schema i elements f
  pub named : AreNamedIn schema i ns

pub kept_none : {o : Options} {i : List ℕ} {w : Walk} {f : Fields} {ns : List NamedElement} (s : Option Schema)
    → HasVisited (extras_of o) o.rules i w [] → IsNamedBy o.naming o.rules i s → HasNamedBy s i [] f → ns ≡ [] → HasKept o i w f ns
kept_none {i = i} s v by follows empty = record {
  elements = [];
  visited = v;
  kept = ap (map compared) empty;
  same = ap (map visited_in) empty;
  schema = s;
  named_by = by;
  follows = follows;
  named = subst (AreNamedIn s i) (sym empty) no_element;
}

pub kept_more : {o : Options} {i : List ℕ} {w w' : Walk} {f f' : Fields} {ns ns' : List NamedElement} (n : NamedElement) (p : HasKept o i w f ns)
    → HasVisited (extras_of o) o.rules i w' (p.elements ++ visited_in n ∷ []) → HasOctets i n.element
    → HasNamedBy p.schema i (p.elements ++ visited_in n ∷ []) f' → IsFieldIn p.schema i p.elements (visited_in n) n.field
    → ns' ≡ ns ++ n ∷ [] → HasKept o i w' f' ns'
kept_more {i = i} {ns = ns} n p visited octets follows is more = record {
  elements = p.elements ++ visited_in n ∷ [];
  visited = visited;
  kept =
      ap (map compared) more ∙ map-append compared ns (n ∷ [])
      ∙ ap (λ cs. cs ++ compared n ∷ []) p.kept
      ∙ ap (λ x. map (compared_in i) p.elements ++ x ∷ []) (compared_is i n.element octets)
      ∙ sym (map-append (compared_in i) p.elements (visited_in n ∷ []));
  same = ap (map visited_in) more ∙ map-append visited_in ns (n ∷ []) ∙ ap (λ vs. vs ++ visited_in n ∷ []) p.same;
  schema = p.schema;
  named_by = p.named_by;
  follows = follows;
  named =
      subst (AreNamedIn p.schema i) (sym more)
      (one_more_element n p.named (subst (λ vs. IsFieldIn p.schema i vs (visited_in n) n.field) (sym p.same) is));
}
