-- What the readers of content octets answer, of a type that is no list.
use Rattle.std.specs.Prelude.{ℕ, Bool, List, Result, MatchResult}
use Rattle.der_base.specs.declared.error.Error.{Error as BerError}
use Rattle.der_base.specs.Leaf.{IsLeafContent}
use Rattle.der_base.specs.LeafRefusal.{BerLeafRefuses}
use Rattle.der_base.specs.Refusal.{refusal}
use Rattle.der_object.specs.declared.object.BerObjectContent.{BerObjectContent}
use Rattle.der_object.specs.View.{content_tree}

-- the content that the octets w of type t are, primitive or constructed, or why they are none
abbrev pub ReadsLeaf : Bool → ℕ → List ℕ → Result BerObjectContent BerError → Type 0
ReadsLeaf p t w result =
    MatchResult result (λ x. IsLeafContent p t w (content_tree x)) (λ e. BerLeafRefuses p t w (refusal e))
