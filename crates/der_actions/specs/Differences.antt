-- The difference between the elements of two inputs.
use Rattle.std.specs.Prelude.{◌≡◌, ◌≢◌, ◌⊎◌, ◌||◌, ℕ, Bool, if◌then◌else◌, Option, Some, None, is_some}
use Rattle.std.specs.Prelude.{List, [], ◌∷◌, ◌++◌, codes, map}
use Rattle.std.specs.Io.KnownBytes.{Appends}
use Rattle.der_base.specs.declared.header.Class.{Class}
use Rattle.der_base.specs.declared.rules.Rules.{Rules}
use Rattle.der_actions.specs.FieldNames.{IsFieldIn}
use Rattle.der_actions.specs.Namings.{IsAsAsked, IsNamedBy}
use Rattle.der_actions.specs.Outputs.{IsRefusedAfter, extras_of}
use Rattle.der_actions.specs.declared.diff.Difference.{Difference}
use Rattle.der_actions.specs.declared.diff.Difference.TheVariants.{Same, Different}
use Rattle.der_actions.specs.declared.diff.NamedElement.{NamedElement}
use Rattle.der_actions.specs.declared.options.Options.{Options}
use Rattle.der_print.specs.declared.style.Style.{Style}
use Rattle.der_print.specs.Cuts.{behind}
use Rattle.der_print.specs.Lines.{content_in}
use Rattle.der_print.specs.Names.{table_of}
use Rattle.der_print.specs.Texts.{content_of}
use Rattle.text_json.specs.declared.fields.secrets.Exposure.{Exposure}
use Rattle.text_json.specs.declared.fields.secrets.Exposure.TheVariants.{Full, Outline, Nothing}
use Rattle.text_json.specs.Fields.Lines.{IsExposed}
use Rattle.der_schema.specs.declared.schema.Schema.{Schema}
use Rattle.der_elements.specs.declared.element.Element.{Element}
use Rattle.der_elements.specs.Visits.{Visited, Visits}
use Rattle.der_elements.specs.Walked.{visited_of}

-- what is compared of an element: neither its offset nor the form of its length (X.690 8.1.3)
pub record Compared : Type 0 where
  pub depth : ℕ
  pub class : Class
  pub number : ℕ
  pub constructed : Bool
  pub holds : Option Rules
  -- empty if the content is elements, which are compared themselves
  pub content : List ℕ

-- whether the content is elements
abbrev pub is_entered : Bool → Option Rules → Bool
is_entered constructed holds = constructed || is_some holds

abbrev pub compared_of : Element → Compared
compared_of e = record {
  depth = e.depth;
  class = e.class;
  number = e.number;
  constructed = e.constructed;
  holds = e.holds;
  content = if is_entered e.constructed e.holds then [] else content_of e;
}

abbrev pub compared : NamedElement → Compared
compared n = compared_of n.element

-- what is compared of an element that is visited in an input
abbrev pub compared_in : List ℕ → Visited → Compared
compared_in i v = record {
  depth = v.depth;
  class = v.class;
  number = v.number;
  constructed = v.constructed;
  holds = v.holds;
  content = if is_entered v.constructed v.holds then [] else content_in i v;
}

-- what is compared of the elements of an input, in preorder
abbrev pub HasCompared : Options → List ℕ → List Compared → Type 0
HasCompared o i cs = (vs : List Visited) × Visits (extras_of o) o.rules 101 0 0 i vs × (cs ≡ map (compared_in i) vs)

abbrev pub visited_in : NamedElement → Visited
visited_in n = visited_of n.element

-- elements of i after one another, each with what a type tells about it, if there is a type
pub data AreNamedIn (s : Option Schema) (i : List ℕ) : List NamedElement → Type 0 where
  no_element : AreNamedIn s i []
  one_more_element : {ns : List NamedElement} (n : NamedElement) → AreNamedIn s i ns
      → IsFieldIn s i (map visited_in ns) (visited_in n) n.field → AreNamedIn s i (ns ++ n ∷ [])

-- the elements of an input, in preorder, with their content, and with the names of the type that names the input
pub record AreElementsOf (o : Options) (i : List ℕ) (ns : List NamedElement) : Type 0 where
  pub contents : HasCompared o i (map compared ns)
  pub visits : Visits (extras_of o) o.rules 101 0 0 i (map visited_in ns)
  pub as_asked : IsAsAsked o.naming o.rules i
  pub schema : Option Schema
  pub named_by : IsNamedBy o.naming o.rules i schema
  pub named : AreNamedIn schema i ns

-- an input that isn't compared: it is rejected, or doesn't have the type of the options
abbrev pub IsNoSide : Options → List ℕ → Type 0
IsNoSide o i = ((vs : List Visited) × IsRefusedAfter o i vs) ⊎ (¬ IsAsAsked o.naming o.rules i)

-- the elements of two inputs are the same, or they differ, or an input isn't compared
abbrev pub Compares : Options → List ℕ → List ℕ → Option Difference → Type 0
Compares o i j (Some Same) = (cs : List Compared) × HasCompared o i cs × HasCompared o j cs
Compares o i j (Some Different) = (cs ds : List Compared) × HasCompared o i cs × HasCompared o j ds × (cs ≢ ds)
Compares o i j None = IsNoSide o i ⊎ IsNoSide o j

-- an element that only the old input has, or only the new one
pub data Change : Type 0 where
  Removed : NamedElement → Change
  Added : NamedElement → Change

-- The changes turn the old elements into the new ones. Those that are kept are the same.
pub data AreChanges : List NamedElement → List NamedElement → List Change → Type 0 where
  none : AreChanges [] [] []
  kept : {es fs : List NamedElement} {cs : List Change} (e f : NamedElement) → compared e ≡ compared f
      → AreChanges es fs cs
      → AreChanges (e ∷ es) (f ∷ fs) cs
  removed : {es fs : List NamedElement} {cs : List Change} (e : NamedElement) → AreChanges es fs cs
      → AreChanges (e ∷ es) fs (Removed e ∷ cs)
  added : {es fs : List NamedElement} {cs : List Change} (f : NamedElement) → AreChanges es fs cs
      → AreChanges es (f ∷ fs) (Added f ∷ cs)

-- the style of a line behind a sign, which takes some of its columns
abbrev pub style_behind : List ℕ → Style → Style
style_behind sign s = record s { limit = behind s.limit sign }

-- how much of an element is printed: of a secret, and of what is inside it, no value
abbrev pub outlined : Exposure → Exposure
outlined Full = Full
outlined Outline = Outline
outlined Nothing = Outline

-- the line of an element behind a sign, with the name of its field
abbrev pub IsLineBehind : List ℕ → Options → NamedElement → List ℕ → Type 0
IsLineBehind sign o n text = (line : List ℕ)
    × IsExposed (table_of o.own_names) n.field.name.now (style_behind sign o.style) (visited_in n) (content_of n.element)
    (outlined n.field.exposure) line × (text ≡ sign ++ line)

abbrev pub IsChangeLine : Options → Change → List ℕ → Type 0
IsChangeLine o (Removed e) text = IsLineBehind (codes "- ") o e text
IsChangeLine o (Added e) text = IsLineBehind (codes "+ ") o e text

-- a line for each change
pub data AreChangeLines (o : Options) : List Change → List ℕ → Type 0 where
  no_lines : AreChangeLines o [] []
  one_more_line : {cs : List Change} {text : List ℕ} (c : Change) (line : List ℕ) → IsChangeLine o c line
      → AreChangeLines o cs text → AreChangeLines o (c ∷ cs) (line ++ text)

-- known octets grew by the lines of changes that turn the old elements into the new ones
pub record WritesChanges (o : Options) (es fs : List NamedElement) (old new : Option (List ℕ)) : Type 0 where
  pub changes : List Change
  pub are : AreChanges es fs changes
  pub text : List ℕ
  pub lines : AreChangeLines o changes text
  pub adds : Appends old new text

-- known octets grew by the changes from the elements of an input to those of another, if they differ
abbrev pub WritesDifference : Options → List ℕ → List ℕ → Option (List ℕ) → Option (List ℕ) → Option Difference → Type 0
WritesDifference o i j old new (Some Different) = (es fs : List NamedElement) × AreElementsOf o i es
    × AreElementsOf o j fs × WritesChanges o es fs old new
WritesDifference o i j old new (Some Same) = new ≡ old
WritesDifference o i j old new None = new ≡ old
