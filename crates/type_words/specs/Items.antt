-- What octets of a type are in words: an item for each element that has a line, by the words of the type.
use Rattle.std.specs.Prelude.{ℕ, ◌+◌, ◌-◌, ◌^◌, min, not, ◌&&◌, Bool, true, false, if◌then◌else◌}
use Rattle.std.specs.Prelude.{Option, Some, None, List, [], ◌∷◌, ◌++◌, drop, take, slice_get}
use Rattle.std.specs.Option.{option_to_list}
use Rattle.der_base.specs.TreeEquality.{same_class}
use Rattle.der_base.specs.declared.header.Class.TheVariants.{Universal}
use Rattle.der_elements.specs.Visits.{Visited}
use Rattle.der_print.specs.Values.{identifier_text}
use Rattle.der_schema.specs.declared.schema.Secrecy.{Secrecy}
use Rattle.der_schema.specs.declared.schema.Secrecy.TheVariants.{Public, Secret, SecretUnread}
use Rattle.der_schema.specs.declared.words.Notation.{Notation}
use Rattle.der_schema.specs.declared.words.Notation.TheVariants.{Silent, Skipped, Title, Count, Word, Label as ForNext}
use Rattle.der_schema.specs.declared.words.Notation.TheVariants.{Filter}
use Rattle.der_schema.specs.declared.words.Words.{Words}
use Rattle.der_schema.specs.Encodings.{octets_at, seen_in}
use Rattle.der_schema.specs.Meaning.{Label, Root, State}
use Rattle.der_schema.specs.Opened.{name_in, of_input, opened_past}

-- What a line says of an element.
pub record Said : Type 0 where
  -- how many levels deep it is
  pub indent : ℕ
  pub offset : ℕ
  pub label : List ℕ
  -- what is in front of the value
  pub kind : List ℕ
  -- how the octets are read
  pub notation : Notation
  pub octets : List ℕ

-- How the elements of a content are shown that have no words of their own.
pub record Place : Type 0 where
  pub indent : ℕ
  pub label : List ℕ
  pub notation : Notation

-- the elements of an input
abbrev pub first_place : Place
first_place = record { indent = 0; label = []; notation = Silent }

-- nothing is shown, however deep
abbrev pub hidden : Place
hidden = record { indent = 0; label = []; notation = Skipped }

-- one level deeper, as far as a machine counts
abbrev pub deeper : ℕ → ℕ
deeper n = min (n + 1) (2 ^ 64 - 1)

-- Own words.

-- the label of an element: its own, or that of what is around it
abbrev pub label_or : List ℕ → List ℕ → List ℕ
label_or around [] = around
label_or around (b ∷ own) = b ∷ own

-- how it is read: as it says, or as what is around it; nothing is shown inside what is skipped
abbrev pub own_or : Notation → Notation → Notation
own_or Silent around = around
own_or own around = own

abbrev pub notation_by : Notation → Notation → Notation
notation_by Skipped own = Skipped
notation_by around own = own_or own around

-- an element with these words
abbrev pub worded : Place → Option Words → Place
worded p None = p
worded p (Some w) = record {
  indent = p.indent;
  label = label_or p.label w.label.now;
  notation = notation_by p.notation w.notation;
}

-- what is marked as secret is skipped
abbrev pub notation_of : Secrecy → Notation → Notation
notation_of Public n = n
notation_of SecretUnread n = Skipped
notation_of Secret n = Skipped

abbrev pub kind_of : Option Words → List ℕ
kind_of None = []
kind_of (Some w) = w.kind.now

-- the line of an element heads what follows it
abbrev pub heads : Option Words → Bool
heads None = false
heads (Some w) = w.heads

-- an element that has a name, with its own words and those handed to it
abbrev pub here : Place → Label → Place
here p l = let q = worded p l.words in record q { notation = notation_of l.secrecy q.notation }

-- Inside an element, and after it.

-- a line has this notation
abbrev pub has_line : Notation → Bool
has_line Silent = false
has_line Skipped = false
has_line ForNext = false
has_line n = true

-- the notation reads the content octets
abbrev pub is_of_content : Notation → Bool
is_of_content Silent = false
is_of_content Skipped = false
is_of_content Title = false
is_of_content Count = false
is_of_content (Word w) = false
is_of_content ForNext = false
is_of_content Filter = false
is_of_content n = true

-- an explicit tag (8.14), or what a constructed type is under an implicit one
abbrev pub is_explicit : Visited → Bool
is_explicit v = v.constructed && not (same_class Universal v.class)

-- an element that is an explicit tag or not leaves its notation to the element inside
abbrev pub is_handed_in : Notation → Bool → Bool
is_handed_in n explicit = is_of_content n && explicit

-- without a label, this deep
abbrev pub plain_place : ℕ → Place
plain_place n = record { indent = n; label = []; notation = Silent }

abbrev pub inside_by : Notation → Place → Bool → Place
inside_by Silent p explicit = p
inside_by Title p explicit = plain_place (deeper p.indent)
inside_by Count p explicit = plain_place (deeper p.indent)
inside_by (Word w) p explicit = plain_place p.indent
inside_by n p explicit = if is_handed_in n explicit then p else hidden

-- how the elements inside an element are shown that is shown so
abbrev pub inside : Place → Bool → Place
inside p explicit = inside_by p.notation p explicit

-- an identifier may be the label of what follows it
abbrev pub next_label : Notation → List ℕ → List ℕ → List ℕ
next_label ForNext w label = identifier_text false w
next_label n w label = label

-- what follows is one level deeper if a line heads it
abbrev pub next_indent : ℕ → Bool → ℕ
next_indent n headed = if headed then deeper n else n

-- how the elements after one are shown that is shown in the notation, and heads them or not
abbrev pub after : Place → Notation → Bool → List ℕ → Place
after p n heads w = record {
  indent = next_indent p.indent (has_line n && heads);
  label = next_label n w p.label;
  notation = p.notation;
}

-- Items.

abbrev pub content_in : List ℕ → Visited → List ℕ
content_in i v = octets_at i (v.offset + v.header) v.length

-- the octets that the notation reads: the content octets, or all from the header on
abbrev pub read_by : Notation → List ℕ → Visited → List ℕ
read_by Filter i v = drop v.offset i
read_by n i v = content_in i v

abbrev pub said_at : Place → List ℕ → List ℕ → Visited → Said
said_at p kind i v = record {
  indent = p.indent;
  offset = v.offset;
  label = p.label;
  kind = kind;
  notation = p.notation;
  octets = read_by p.notation i v;
}

-- the item of an element of i that is shown so
abbrev pub item_of : Place → List ℕ → List ℕ → Visited → Option Said
item_of p kind i v = if has_line p.notation && not (is_handed_in p.notation (is_explicit v)) then
    Some (said_at p kind i v) else None

-- An element with its name. None if it isn't in the type.
pub record Named : Type 0 where
  pub visited : Visited
  pub label : Option Label

abbrev pub named : Visited → Option Label → Named
named v l = record { visited = v; label = l }

-- what is said of an element, and how what is inside it and after it is shown
pub record Step : Type 0 where
  pub item : Option Said
  pub after : Place
  pub inside : Place

-- an element that isn't in the type isn't shown, nor is what is inside
abbrev pub step_by : Option Label → Place → List ℕ → Visited → Step
step_by None p i v = record { item = None; after = p; inside = hidden }
step_by (Some l) p i v = let q = here p l in record {
  item = item_of q (kind_of l.words) i v;
  after = after p q.notation (heads l.words) (content_in i v);
  inside = inside q (is_explicit v);
}

-- what is open at a depth
abbrev pub place_or : Option Place → Place
place_or None = hidden
place_or (Some p) = p

abbrev pub step : List Place → List ℕ → Named → Step
step ps i n = step_by n.label (place_or (slice_get ps n.visited.depth)) i n.visited

-- how the elements of the open contents are shown after an element, the outermost content first
abbrev pub places_past : List Place → List ℕ → Named → List Place
places_past ps i n = let s = step ps i n in take n.visited.depth ps ++ s.after ∷ s.inside ∷ []

abbrev pub places_by : List Place → List ℕ → List Named → List Place
places_by ps i [] = ps
places_by ps i (n ∷ ns) = places_by (places_past ps i n) i ns

abbrev pub items_by : List Place → List ℕ → List Named → List Said
items_by ps i [] = []
items_by ps i (n ∷ ns) = option_to_list (step ps i n).item ++ items_by (places_past ps i n) i ns

-- the elements that are visited, with the names that a type gives them
abbrev pub named_by : List State → List ℕ → List Visited → List Named
named_by ss i [] = []
named_by ss i (v ∷ vs) = named v (name_in ss (seen_in i v)) ∷ named_by (opened_past ss (seen_in i v)) i vs

abbrev pub named_in : Root → List ℕ → List Visited → List Named
named_in sc i vs = named_by (of_input sc ∷ []) i vs

-- the items of the elements that are visited in i, by a type
abbrev pub items_of : Root → List ℕ → List Visited → List Said
items_of sc i vs = items_by (first_place ∷ []) i (named_in sc i vs)
