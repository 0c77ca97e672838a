-- A walk whose elements are named, and the lines of those that it has visited.
use Rattle.std.proofs.Common.{◌≡◌, ◌↔◌, ℕ, Bool, true, false, if◌then◌else◌, MatchOption, Option, Some, None, List, []}
use Rattle.std.proofs.Common.{◌∷◌, ◌++◌}
use Rattle.std.proofs.Common.{append-nil, append_assoc, ap, refl, subst, sym, ◌∙◌}
use Rattle.std.proofs.KnownBytes.{Appends-nil, Appends-trans}
use Rattle.std.specs.Io.KnownBytes.{Appends}
use Rattle.std.specs.Option.{is_some}
use Rattle.der_base.specs.declared.rules.Rules.{Rules}
use Rattle.text_json.specs.Fields.Fields.{AreInType, Fits, LeavesAt, LeavesOrNot, label_after, label_text, left_past}
use Rattle.text_json.specs.Fields.Lines.{AddsExposed, AreFieldLines, AreFieldLinesAfter, IsExposed, IsLineAfter, no_lines, one_more_line}
use Rattle.text_json.specs.Fields.Secrets.{Follows, IsExposure}
use Rattle.text_json.specs.declared.fields.secrets.Exposure.{Exposure}
use Rattle.text_json.specs.declared.fields.secrets.Exposure.TheVariants.{Full, Outline, Nothing}
use Rattle.text_json.specs.declared.fields.secrets.Secrets.{Secrets}
use Rattle.text_json.specs.declared.fields.named.Named.{Named}
use Rattle.text_json.specs.declared.fields.named.Named.TheVariants.{Whole, Lacks, Left, Refused}
use Rattle.der_print.specs.declared.style.Style.{Style}
use Rattle.der_print.specs.Lines.{content_in}
use Rattle.der_print.specs.Texts.{content_of}
use Rattle.der_print.proofs.LineLaws.{content_is, line_of}
use Rattle.der_schema.specs.declared.matching.Name.{Name}
use Rattle.der_schema.specs.declared.namer.Namer.{Namer}
use Rattle.der_schema.specs.Encodings.{all_seen}
use Rattle.der_schema.specs.Ends.{is_whole_after}
use Rattle.der_schema.specs.Known.{IsOfType, all_extras}
use Rattle.der_schema.specs.Meaning.{Label, Root}
use Rattle.der_schema.specs.Named.{HasNamed, NamesNext}
use Rattle.der_schema.specs.Steps.{label_of}
use Rattle.der_schema.proofs.OfType.{AllNamed, named_more, no_elements, no_name, none_named, of_type}
use Rattle.der_schema.proofs.OfType.{whole_at_end}
use Rattle.der_elements.specs.declared.element.Element.{Element}
use Rattle.der_elements.specs.declared.error.ElementError.{ElementError}
use Rattle.der_elements.specs.declared.walk.Walk.{Walk}
use Rattle.der_elements.specs.Visits.{Visited, Visits}
use Rattle.der_elements.specs.Walked.{HasOctets, HasVisited, IsRefused, visited_of}
use Rattle.oid_names.specs.OwnNames.{Named as NamedOctets}

-- one more line
lines_more : {sc : Root} {own : Option (List NamedOctets)} {style : Style} {i : List ℕ} {before vs : List Visited} {text : List ℕ} (v : Visited)
    (line : List ℕ) → AreFieldLinesAfter sc own style i before vs text
    → IsLineAfter sc own style i (before ++ vs) v line
    → AreFieldLinesAfter sc own style i before (vs ++ v ∷ []) (text ++ line)
lines_more {sc} {own} {style} {i} {before} v line no_lines l =
    subst (AreFieldLinesAfter sc own style i before (v ∷ [])) (append-nil line)
    (one_more_line line []
    (subst (λ us. IsLineAfter sc own style i us v line) (append-nil before) l)
    no_lines)
lines_more {sc} {own} {style} {i} {before} v line (one_more_line {vs = vs} {v = u} first rest k ks) l =
    subst (AreFieldLinesAfter sc own style i before (u ∷ vs ++ v ∷ [])) (sym (append_assoc first rest line))
    (one_more_line first (rest ++ line) k
    (lines_more v line ks
    (subst (λ us. IsLineAfter sc own style i us v line)
    (sym (append_assoc before (u ∷ []) vs)) l)))

-- the line of an element, whose content is that in the input
pub exposed_in : (own : Option (List NamedOctets)) (style : Style) (i : List ℕ) (e : Element) (x : Exposure)
    (field name line : List ℕ) → HasOctets i e → field ≡ name
    → IsExposed own field style (visited_of e) (content_of e) x line
    → IsExposed own name style (visited_of e) (content_in i (visited_of e)) x line
exposed_in own style i e Full field name line octets same l =
    let v = visited_of e in
    subst (λ f. IsExposed own f style v (content_in i v) Full line) same
    (line_of style v (content_of e) (content_in i v) line (content_is i e octets) l)
exposed_in own style i e Outline field name line octets same l =
    subst (λ f. IsExposed own f style (visited_of e) (content_of e) Outline line) same l
exposed_in own style i e Nothing field name line octets same l = l

-- what holds of each element after those before it, and of one more
each_more : (P : List Visited → Visited → Type 0) (vs : List Visited) (v : Visited)
    → ((before after : List Visited) (u : Visited) → vs ≡ before ++ u ∷ after → P before u) → P vs v
    → (before after : List Visited) (u : Visited) → vs ++ v ∷ [] ≡ before ++ u ∷ after → P before u
each_more P [] v each one [] after u e = let same : v ≡ u = cc in subst (P []) same one
each_more P [] v each one (w ∷ []) after u e = absurd (cc)
each_more P [] v each one (w ∷ x ∷ ws) after u e = absurd (cc)
each_more P (t ∷ vs) v each one [] after u e = let same : t ≡ u = cc in subst (P []) same (each [] vs t refl)
each_more P (t ∷ vs) v each one (w ∷ ws) after u e =
    let same : t ≡ w = cc in
    let later : vs ++ v ∷ [] ≡ ws ++ u ∷ after = cc in
    subst (λ x. P (x ∷ ws) u) same
    (each_more (λ b x. P (t ∷ b) x) vs v (λ b a x h. each (t ∷ b) a x (ap (λ l. t ∷ l) h)) one ws after u later)

-- no element is outside of the type, as there is none
in_type_none : (sc : Root) (i : List ℕ) → AreInType sc i []
in_type_none sc i [] after v e = absurd (cc)
in_type_none sc i (w ∷ ws) after v e = absurd (cc)

in_type_more : (sc : Root) (i : List ℕ) (vs : List Visited) (v : Visited) → AreInType sc i vs
    → is_some (label_after sc i vs v) ≡ true → AreInType sc i (vs ++ v ∷ [])
in_type_more sc i vs v h one = each_more (λ before u. is_some (label_after sc i before u) ≡ true) vs v h one

leaves_here : (sc : Root) (i : List ℕ) (vs : List Visited) (v : Visited) → AreInType sc i vs
    → is_some (label_after sc i vs v) ≡ false → LeavesAt sc i (vs ++ v ∷ []) v.offset
leaves_here sc i vs v h none =
    record { before = vs; element = v; after = []; parts = refl; in_type = h; not_in_type = none; here = refl }

leaves_before : (sc : Root) (i : List ℕ) (vs : List Visited) (v : Visited) (p : ℕ) → LeavesAt sc i vs p
    → LeavesAt sc i (vs ++ v ∷ []) p
leaves_before sc i vs v p h = record {
  before = h.before;
  element = h.element;
  after = h.after ++ v ∷ [];
  parts = ap (λ us. us ++ v ∷ []) h.parts ∙ append_assoc h.before (h.element ∷ h.after) (v ∷ []);
  in_type = h.in_type;
  not_in_type = h.not_in_type;
  here = h.here;
}

-- where the elements so far leave the type, and that the input isn't of the type if they do
pub record HasLeft (sc : Root) (r : Rules) (i : List ℕ) (vs : List Visited) (left : Option ℕ) : Type 0 where
  pub leaves : LeavesOrNot sc i vs left
  pub names : MatchOption left (AllNamed sc i vs) (λ p. IsOfType sc r i → ⊥)

pub left_none : (sc : Root) (r : Rules) (i : List ℕ) → HasLeft sc r i [] None
left_none sc r i = record { leaves = in_type_none sc i; names = none_named sc i }

pub left_more : (sc : Root) (r : Rules) (i : List ℕ) (w : Walk) (vs : List Visited) (v : Visited) (left : Option ℕ)
    (l : Option Label) → l ≡ label_after sc i vs v → HasVisited all_extras r i w (vs ++ v ∷ [])
    → HasLeft sc r i vs left → HasLeft sc r i (vs ++ v ∷ []) (left_past left l v.offset)
left_more sc r i w vs v None (Some l) e has h =
    let one = sym (ap is_some e) in
    record { leaves = in_type_more sc i vs v h.leaves one; names = named_more sc i vs v h.names one }
left_more sc r i w vs v None None e has h =
    let none = sym (ap is_some e) in
    record { leaves = leaves_here sc i vs v h.leaves none; names = no_name sc r i w vs v has none }
left_more sc r i w vs v (Some p) (Some l) e has h =
    record { leaves = leaves_before sc i vs v p h.leaves; names = h.names }
left_more sc r i w vs v (Some p) None e has h =
    record { leaves = leaves_before sc i vs v p h.leaves; names = h.names }

-- known octets grew by a line for each element that the walk has visited
pub record HasWritten (sc : Root) (r : Rules) (own : Option (List NamedOctets)) (style : Style) (i : List ℕ) (w : Walk) (n : Namer) (secrets : Secrets)
    (left : Option ℕ) (old new : Option (List ℕ)) : Type 0 where
  pub elements : List Visited
  pub visited : HasVisited all_extras r i w elements
  pub named : HasNamed sc i elements n
  pub follows : Follows sc i elements secrets
  pub has_left : HasLeft sc r i elements left
  pub text : List ℕ
  pub lines : AreFieldLines sc own style i elements text
  pub adds : Appends old new text

pub written_none : {sc : Root} {r : Rules} {i : List ℕ} {w : Walk} {n : Namer} {s : Secrets} (own : Option (List NamedOctets))
    (style : Style) (old : Option (List ℕ)) → HasVisited all_extras r i w [] → HasNamed sc i [] n → Follows sc i [] s
    → HasWritten sc r own style i w n s None old old
written_none {sc} {r} {i} own style old v h f = record {
  elements = [];
  visited = v;
  named = h;
  follows = f;
  has_left = left_none sc r i;
  text = [];
  lines = no_lines;
  adds = Appends-nil old;
}

pub written_more : {sc : Root} {r : Rules} {own : Option (List NamedOctets)} {style : Style} {i : List ℕ}
    {w w' : Walk} {n n' : Namer} {s s' : Secrets} {left : Option ℕ} {old mid new : Option (List ℕ)} (e : Element) (said : Option Name)
    (field : List ℕ) (x : Exposure) (left' : Option ℕ) (p : HasWritten sc r own style i w n s left old mid)
    → HasVisited all_extras r i w' (p.elements ++ visited_of e ∷ []) → HasOctets i e
    → NamesNext sc i p.elements (visited_of e) n' said → field ≡ label_text (label_of said)
    → Follows sc i (p.elements ++ visited_of e ∷ []) s' × IsExposure sc i p.elements (visited_of e) x
    → left' ≡ left_past left (label_of said) e.offset
    → AddsExposed own field style (visited_of e) (content_of e) x mid new
    → HasWritten sc r own style i w' n' s' left' old new
written_more {sc} {r} {own} {style} {i} {w' = w'} {left = left} {old = old} {mid = mid} {new = new}
    e said field x left' p visited octets next text exposed is l =
    let v = visited_of e in
    let line = exposed_in own style i e x field _ l.line octets (text ∙ ap label_text next.name) l.is_line in
    record {
      elements = p.elements ++ v ∷ [];
      visited = visited;
      named = next.named;
      follows = exposed.0;
      has_left = subst (HasLeft sc r i (p.elements ++ v ∷ [])) (sym is)
          (left_more sc r i w' p.elements v left (label_of said) next.name visited p.has_left);
      text = p.text ++ l.line;
      lines = lines_more v l.line p.lines (x, exposed.1, line);
      adds = Appends-trans old mid new p.text l.line p.adds l.adds;
    }

-- at the end of the input, by what it is named
pub ends_fit : (sc : Root) (r : Rules) (i : List ℕ) (vs : List Visited) (left : Option ℕ) (b : Bool) (named : Named)
    → Visits all_extras r 101 0 0 i vs → HasLeft sc r i vs left → b ≡ is_whole_after sc (all_seen i vs)
    → MatchOption left (named ≡ (if b then Whole else Lacks)) (λ p. named ≡ Left p) → Fits sc r i vs named
ends_fit sc r i vs None true named visits h same e = subst (Fits sc r i vs) (sym e) (visits, h.leaves, sym same)
ends_fit sc r i vs None false named visits h same e = subst (Fits sc r i vs) (sym e) (visits, h.leaves, sym same)
ends_fit sc r i vs (Some p) b named visits h same e = subst (Fits sc r i vs) (sym e) (visits, h.leaves)

pub ends_whole : (sc : Root) (r : Rules) (i : List ℕ) (vs : List Visited) (left : Option ℕ) (b : Bool) (named : Named)
    → Visits all_extras r 101 0 0 i vs → HasLeft sc r i vs left → b ≡ is_whole_after sc (all_seen i vs)
    → MatchOption left (named ≡ (if b then Whole else Lacks)) (λ p. named ≡ Left p)
    → (named ≡ Whole) ↔ IsOfType sc r i
ends_whole sc r i vs None true named visits h same e = (
  λ w. of_type sc r i vs visits h.names (sym same),
  λ t. e,
)
ends_whole sc r i vs None false named visits h same e = (
  λ w. absurd (cc),
  λ t. let whole = whole_at_end sc r i vs visits t in absurd (cc),
)
ends_whole sc r i vs (Some p) b named visits h same e = (λ w. absurd (cc), λ t. absurd (h.names t))

-- where the input is refused
pub refused_fits : (sc : Root) (r : Rules) (i : List ℕ) (vs : List Visited) (named : Named) (w : Walk) (f : ElementError)
    (left : Option ℕ) → named ≡ Refused (record { walk = w; refusal = f; left = left })
    → IsRefused all_extras r i vs w f → LeavesOrNot sc i vs left → Fits sc r i vs named
refused_fits sc r i vs named w f left e refused leaves = subst (Fits sc r i vs) (sym e) (refused, leaves)

pub refused_whole : (sc : Root) (r : Rules) (i : List ℕ) (named : Named) (w : Walk) (f : ElementError) (left : Option ℕ)
    → named ≡ Refused (record { walk = w; refusal = f; left = left })
    → ((us : List Visited) → Visits all_extras r 101 0 0 i us → ⊥) → (named ≡ Whole) ↔ IsOfType sc r i
refused_whole sc r i named walk f left e never = (λ w. absurd (cc), λ t. absurd (no_elements sc r i never t))
