-- Where a content may end.
use Rattle.std.specs.Prelude.{◌≡◌, ℕ, ◌+◌, Bool, true, ◌&&◌, Option, Some, None, List, [], ◌∷◌, drop, slice_get}
use Rattle.std.specs.List.{list_all}
use Rattle.der_schema.specs.declared.level.Level.{Level}
use Rattle.der_schema.specs.declared.schema.Component.{Component}
use Rattle.der_schema.specs.Meaning.{Expected, free, nothing, components, members, each, Root, State, expected_of, past}
use Rattle.der_schema.specs.Opened.{Forest, no_elements, one_more, of_input, Seen, preorder, opened_past, opened_by}

abbrev pub is_optional : Component → Bool
is_optional c = c.optional

abbrev pub may_end_in : Expected → Bool
may_end_in free = true
may_end_in nothing = true
may_end_in (components cs) = list_all is_optional cs
may_end_in (members _) = true
may_end_in (each _) = true

abbrev pub level_ends : Level → Bool
level_ends l = may_end_in (expected_of l.expected)

-- all components that are still expected are optional
abbrev pub may_end : State → Bool
may_end s = may_end_in s.expected

-- each content in a tree ends where it may
abbrev pub is_whole : State → Forest → Bool
is_whole s no_elements = may_end s
is_whole s (one_more x inside after) = is_whole (past s x).inside inside && is_whole (past s x).after after

-- the contents that end before an element may end
abbrev pub whole_at : Option State → Bool → List State → ℕ → Bool
whole_at None ok ss k = ok
whole_at (Some _) ok ss k = ok && list_all may_end (drop (k + 1) ss)

abbrev pub whole_past : Bool → List State → Seen → Bool
whole_past ok ss v = whole_at (slice_get ss v.depth) ok ss v.depth

abbrev pub whole_by : Bool → List State → List Seen → Bool
whole_by ok ss [] = ok
whole_by ok ss (v ∷ vs) = whole_by (whole_past ok ss v) (opened_past ss v) vs

-- each content of these elements, which are an input of a type, ends where it may
abbrev pub is_whole_after : Root → List Seen → Bool
is_whole_after sc vs = whole_by true (of_input sc ∷ []) vs && list_all may_end (opened_by (of_input sc ∷ []) vs)

-- Law: what a namer tells at the end of an input holds for its tree.
abbrev pub WholeInPreorder : Type 0
WholeInPreorder = (sc : Root) (f : Forest) → is_whole_after sc (preorder 0 f) ≡ is_whole (of_input sc) f
