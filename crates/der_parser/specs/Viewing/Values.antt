-- The values of nodes.
use Rattle.std.specs.Prelude.{◌≡◌, ◌⊎◌, false, IsTrue, Result, Err}
use Rattle.der_base.specs.declared.error.Error.{Error as BerError}
use Rattle.der_base.specs.declared.header.Class.TheVariants.{Universal}
use Rattle.der_base.specs.Leaf.{is_list, is_mapped, IsLeafContent}
use Rattle.der_base.specs.LeafRefusal.{BerLeafRefuses}
use Rattle.der_base.specs.Refusal.{Refusal, refusal}
use Rattle.der_base.specs.Spelling.{IsKept}
use Rattle.der_base.specs.Tree.{Content, sequence, set}
use Rattle.der_parser.specs.Viewing.Views.{View, content_of}

-- The content octets of a node are this content, by BER. Of a list the type is known alone: its items are nodes.
abbrev pub HasContent : View → Content → Type 0
HasContent v (sequence l) = (v.element.class ≡ Universal) × (v.element.number ≡ 16)
HasContent v (set l) = (v.element.class ≡ Universal) × (v.element.number ≡ 17)
HasContent v x =
    let e = v.element in
    ((e.class ≡ Universal) × IsLeafContent e.constructed e.number (content_of v) x)
    ⊎ IsKept e.class e.constructed e.number (content_of v) x

-- they are none of their type, for this reason
abbrev pub HasFault : View → Refusal → Type 0
HasFault v r =
    let e = v.element in
    (e.class ≡ Universal) × IsTrue (is_mapped e.number) × (is_list e.number ≡ false)
    × BerLeafRefuses e.constructed e.number (content_of v) r

-- the result of an accessor: A of the content of the node, or the error of octets that are no content
abbrev pub AnswersValue : {T : Type 0} → (Content → Result T BerError → Type 0) → View → Result T BerError → Type 0
AnswersValue A v result = ((x : Content) × HasContent v x × A x result)
    ⊎ ((e : BerError) × (result ≡ Err e) × HasFault v (refusal e))
