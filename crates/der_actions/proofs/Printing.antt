-- A walk, and the lines of the elements that it has visited.
use Rattle.std.proofs.Common.{◌≡◌, ◌⊎◌, inl, inr, ℕ, MatchBool, false, true, Bool, Err, IfOk, IsTrue, Ok, OnOk, Option, Result, List, [], ◌∷◌, ◌++◌, codes, refl, subst, sym}
use Rattle.std.proofs.KnownBytes.{Appends-kept, Appends-nil, Appends-trans}
use Rattle.std.specs.Io.KnownBytes.{Appends, Keeps}
use Rattle.text_json.specs.declared.fields.secrets.Exposure.{Exposure}
use Rattle.text_json.specs.declared.fields.secrets.Exposure.TheVariants.{Full, Outline, Nothing}
use Rattle.text_json.specs.Fields.Lines.{AddsExposed}
use Rattle.text_json.proofs.FieldsLaws.FieldLaws.{exposed_in}
use Rattle.der_print.specs.Lines.{content_in}
use Rattle.der_print.specs.Names.{table_of}
use Rattle.der_print.specs.Texts.{content_of}
use Rattle.der_print.proofs.LineLaws.{content_is}
use Rattle.der_schema.specs.declared.schema.Schema.{Schema}
use Rattle.der_elements.specs.declared.element.Element.{Element}
use Rattle.der_elements.specs.declared.walk.Walk.{Walk}
use Rattle.der_elements.specs.Visits.{Visited, Visits}
use Rattle.der_elements.specs.Walked.{HasOctets, HasVisited, visited_of}
use Rattle.der_actions.specs.declared.fields.Field.{Field}
use Rattle.der_actions.specs.declared.fields.Fields.{Fields}
use Rattle.der_actions.specs.declared.listing.Listing.{Listing}
use Rattle.der_actions.specs.declared.options.Options.{Options}
use Rattle.der_actions.specs.declared.print.Lines.{Lines}
use Rattle.der_actions.specs.declared.print.Lines.TheVariants as kind
use Rattle.der_actions.specs.Choices.{HasChosen, Listed, listed_after}
use Rattle.der_actions.specs.FieldNames.{HasNamedBy, IsFieldIn}
use Rattle.der_actions.specs.Namings.{IsAsAsked, IsNamedBy, field_in}
use Rattle.der_actions.specs.Outputs.{AddsExposedJson, AddsLineOf, IsExposedJson, IsLineBy, AreLinesOf, EndsAfter, RefusesLines, WritesLines, extras_of, no_lines, one_more_line}

-- what follows at Ok
pub on_ok : {E : Type 0} (r : Result (Unit {0}) E) (P Q : Type 0) → (P → Q) → OnOk r P → OnOk r Q
on_ok (Ok v) P Q f h = f h
on_ok (Err e) P Q f h = tt

-- what follows where all was read
pub then_reads : {E : Type 0} (r : Result Bool E) (W R : Type 0) → (W → R) → IfOk r (λ ok. IsTrue ok → W) → IfOk r (λ ok. IsTrue ok → R)
then_reads (Ok x) W R f h = λ t. f (h t)
then_reads (Err e) W R f h = tt

-- what follows where not all was read
pub then_refuses : {E : Type 0} (r : Result Bool E) (P Q : Type 0) → (P → Q) → IfOk r (λ ok. ok ≡ false → P) → IfOk r (λ ok. ok ≡ false → Q)
then_refuses (Ok x) P Q f h = λ no. f (h no)
then_refuses (Err e) P Q f h = tt

false_and_true : {b : Bool} → b ≡ false → b ≡ true → ⊥
false_and_true p q = cc

-- what follows at the end of a walk, which is kept
pub end_reads : {E : Type 0} (r : Result Bool E) (A K P : Type 0) → (A → K → P) → IfOk r (λ ok. IsTrue ok → A) → OnOk r K → IfOk r (λ ok. IsTrue ok → P)
end_reads (Ok x) A K P f a k = λ t. f (a t) k
end_reads (Err y) A K P f a k = tt

pub end_refuses : {E : Type 0} (r : Result Bool E) (A K P : Type 0) → (A → K → P) → IfOk r (λ ok. ok ≡ false → A) → OnOk r K → IfOk r (λ ok. ok ≡ false → P)
end_refuses (Ok x) A K P f a k = λ no. f (a no) k
end_refuses (Err y) A K P f a k = tt

-- what follows where all is refused
pub refused_reads : {E : Type 0} (r : Result Bool E) (P : Type 0) → IfOk r (λ ok. ok ≡ false) → IfOk r (λ ok. IsTrue ok → P)
refused_reads (Ok x) P none = λ t. absurd (false_and_true none t)
refused_reads (Err y) P none = tt

-- where all is refused, and what is written is kept
pub refused_keeps : {E : Type 0} (r : Result Bool E) (K P : Type 0) → (K → P) → OnOk r K → IfOk r (λ ok. ok ≡ false → P)
refused_keeps (Ok x) K P f k = λ no. f k
refused_keeps (Err y) K P f k = tt

-- one more line
pub record HasOneMore (k : Lines) (s : Option Schema) (o : Options) (i : List ℕ) (us : List Listed) (l : Listed) (text : List ℕ)
    (mid new : Option (List ℕ)) : Type 0 where
  pub line : List ℕ
  pub lines : AreLinesOf k s o i (us ++ l ∷ []) (text ++ line)
  pub adds : Appends mid new line

-- a line that was added is that of the element in the input
record HasLine (k : Lines) (field : List ℕ) (o : Options) (i : List ℕ) (v : Visited) (x : Exposure) (mid new : Option (List ℕ)) : Type 0 where
  line : List ℕ
  is_line : IsLineBy k field o i v x line
  adds : Appends mid new line

json_line : (o : Options) (i : List ℕ) (e : Element) (field : List ℕ) (x : Exposure) (mid new : Option (List ℕ)) → HasOctets i e
    → AddsExposedJson field o (visited_of e) (content_of e) x mid new → HasLine kind.Json field o i (visited_of e) x mid new
json_line o i e field Full mid new octets l = record {
  line = l.text ++ codes "\n";
  is_line = (content_of e, content_is i e octets, (l.object, l.is, l.text, l.is_json, refl));
  adds = l.adds;
}
json_line o i e field Outline mid new octets l = record {
  line = l.text ++ codes "\n";
  is_line = (l.object, l.is, l.text, l.is_json, refl);
  adds = l.adds;
}
json_line o i e field Nothing mid new octets l = record { line = []; is_line = refl; adds = subst (λ z. Appends mid z []) (sym l) (Appends-nil mid) }

line_by : (k : Lines) (o : Options) (i : List ℕ) (e : Element) (field : List ℕ) (x : Exposure) (mid new : Option (List ℕ)) → HasOctets i e
    → AddsLineOf k field o (visited_of e) (content_of e) x mid new → HasLine k field o i (visited_of e) x mid new
line_by kind.Tree o i e field x mid new octets l = record {
  line = l.line;
  is_line = exposed_in (table_of o.own_names) o.style i e x field field l.line octets refl l.is_line;
  adds = l.adds;
}
line_by kind.Json o i e field x mid new octets l = json_line o i e field x mid new octets l

one_more : (k : Lines) (s : Option Schema) (o : Options) (i : List ℕ) (us : List Listed) (vs : List Visited) (e : Element) (f : Field) (text : List ℕ)
    (mid new : Option (List ℕ)) → HasOctets i e → IsFieldIn s i vs (visited_of e) f → AreLinesOf k s o i us text
    → AddsLineOf k f.name.now o (visited_of e) (content_of e) f.exposure mid new
    → HasOneMore k s o i us (listed_after vs (visited_of e)) text mid new
one_more k s o i us vs e f text mid new octets is lines l =
    let v = visited_of e in
    let m = line_by k o i e f.name.now f.exposure mid new octets l in
    record {
      line = m.line;
      lines = one_more_line (listed_after vs v) m.line lines
          (f.exposure, is.exposure, subst (λ n. IsLineBy k n o i v f.exposure m.line) is.name m.is_line);
      adds = m.adds;
    }

-- known octets grew by a line for each listed element that the walk has visited
pub record HasPrinted (k : Lines) (o : Options) (i : List ℕ) (w : Walk) (l : Listing) (f : Fields) (old new : Option (List ℕ)) : Type 0 where
  pub elements : List Visited
  pub visited : HasVisited (extras_of o) o.rules i w elements
  pub schema : Option Schema
  pub named_by : IsNamedBy o.naming o.rules i schema
  pub named : HasNamedBy schema i elements f
  pub listed : List Listed
  pub chosen : HasChosen schema i o l elements listed
  pub text : List ℕ
  pub lines : AreLinesOf k schema o i listed text
  pub adds : Appends old new text

pub printed_none : {o : Options} {i : List ℕ} {w : Walk} {l : Listing} {f : Fields} (k : Lines) (s : Option Schema) (old : Option (List ℕ))
    → HasVisited (extras_of o) o.rules i w [] → HasChosen s i o l [] [] → IsNamedBy o.naming o.rules i s → HasNamedBy s i [] f
    → HasPrinted k o i w l f old old
printed_none k s old v h by n = record {
  elements = [];
  visited = v;
  listed = [];
  chosen = h;
  schema = s;
  named_by = by;
  named = n;
  text = [];
  lines = no_lines;
  adds = Appends-nil old;
}

pub printed_more : {o : Options} {i : List ℕ} {w w' : Walk} {l l' : Listing} {f f' : Fields} {old mid new : Option (List ℕ)} (k : Lines) (e : Element)
    (taken : Bool) (field : Field) (p : HasPrinted k o i w l f old mid)
    → HasVisited (extras_of o) o.rules i w' (p.elements ++ visited_of e ∷ []) → HasOctets i e
    → HasNamedBy p.schema i (p.elements ++ visited_of e ∷ []) f' → IsFieldIn p.schema i p.elements (visited_of e) field
    → MatchBool taken (HasChosen p.schema i o l' (p.elements ++ visited_of e ∷ []) (p.listed ++ listed_after p.elements (visited_of e) ∷ []))
    (HasChosen p.schema i o l' (p.elements ++ visited_of e ∷ []) p.listed)
    → MatchBool taken (AddsLineOf k field.name.now o (visited_of e) (content_of e) field.exposure mid new) (new ≡ mid) → HasPrinted k o i w' l' f' old new
printed_more {o = o} {i = i} {old = old} {mid = mid} {new = new} k e true field p visited octets named same chosen l =
    let m = one_more k p.schema o i p.listed p.elements e field p.text mid new octets same p.lines l in
    record {
      elements = p.elements ++ visited_of e ∷ [];
      visited = visited;
      listed = p.listed ++ listed_after p.elements (visited_of e) ∷ [];
      chosen = chosen;
      schema = p.schema;
      named_by = p.named_by;
      named = named;
      text = p.text ++ m.line;
      lines = m.lines;
      adds = Appends-trans old mid new p.text m.line p.adds m.adds;
    }
printed_more {old = old} k e false field p visited octets named field_is chosen same = record {
  elements = p.elements ++ visited_of e ∷ [];
  visited = visited;
  listed = p.listed;
  chosen = chosen;
  schema = p.schema;
  named_by = p.named_by;
  named = named;
  text = p.text;
  lines = p.lines;
  adds = subst (λ new. Appends old new p.text) (sym same) p.adds;
}

pub printed_all : {k : Lines} {o : Options} {i : List ℕ} {w : Walk} {l : Listing} {f : Fields} {old mid new : Option (List ℕ)}
    (p : HasPrinted k o i w l f old mid) → Visits (extras_of o) o.rules 101 0 0 i p.elements
    → l.has_some ≡ true → IsAsAsked o.naming o.rules i → Keeps mid new → WritesLines k o i old new
printed_all p v some asked keeps = record {
  elements = p.elements;
  visits = v;
  listed = p.listed;
  are_listed = (_, p.chosen.lists);
  some = p.chosen.some some;
  as_asked = asked;
  schema = p.schema;
  named_by = p.named_by;
  text = p.text;
  lines = p.lines;
  adds = Appends-kept _ _ _ p.text p.adds keeps;
}

pub printed_before : {k : Lines} {o : Options} {i : List ℕ} {w : Walk} {l : Listing} {f : Fields} {old mid new : Option (List ℕ)}
    (p : HasPrinted k o i w l f old mid) → EndsAfter o i p.elements p.listed → Keeps mid new → RefusesLines k o i old new
printed_before p ends keeps = record {
  elements = p.elements;
  listed = p.listed;
  ends = ends;
  are_listed = (_, p.chosen.lists);
  schema = p.schema;
  named_by = p.named_by;
  text = p.text;
  lines = p.lines;
  adds = Appends-kept _ _ _ p.text p.adds keeps;
}

-- at the end of a walk none is listed, or the input isn't of the type that is asked for
pub ends_refused : {k : Lines} {o : Options} {i : List ℕ} {w : Walk} {l : Listing} {f : Fields} {old mid : Option (List ℕ)}
    (p : HasPrinted k o i w l f old mid) → Visits (extras_of o) o.rules 101 0 0 i p.elements
    → (l.has_some ≡ false) ⊎ (¬ IsAsAsked o.naming o.rules i) → EndsAfter o i p.elements p.listed
ends_refused p all (inl none) = inr (all, inl (p.chosen.none none))
ends_refused p all (inr other) = inr (all, inr other)
