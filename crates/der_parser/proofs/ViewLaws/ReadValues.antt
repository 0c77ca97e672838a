-- The values of nodes.
use Rattle.std.proofs.Common.{◌≡◌, ℕ, Bool, false, List, Result, Ok, Err, MatchResult, IsTrue, sym, inl}
use Rattle.der_base.specs.declared.error.Error.{Error as BerError}
use Rattle.der_base.specs.declared.header.Class.TheVariants.{Universal}
use Rattle.der_base.specs.declared.rules.Rules.TheVariants.{Ber}
use Rattle.der_base.specs.Leaf.{is_list, is_mapped, IsLeafContent}
use Rattle.der_base.specs.Refusal.{refusal}
use Rattle.der_base.specs.Tree.{Content, sequence, set}
use Rattle.der_values.specs.declared.value.Value.{Value}
use Rattle.der_values.specs.Kinds.{Decodes, contents}
use Rattle.der_values.specs.Values.{value_content}
use Rattle.der_parser.specs.Viewing.Values.{HasContent, HasFault}
use Rattle.der_parser.specs.Viewing.Views.{View, content_of}

pub leaf_is_content : (v : View) (x : Content) → v.element.class ≡ Universal → IsLeafContent v.element.constructed v.element.number (content_of v) x → HasContent v x
leaf_is_content v (sequence l) e h = absurd h
leaf_is_content v (set l) e h = absurd h
leaf_is_content v _ e h = inl (e, h)

-- what is read of the octets is the value of the node
pub read_of_node : (v : View) (p : Bool) (t : ℕ) (w : List ℕ) (r : Result Value BerError) → v.element.class ≡ Universal → IsTrue (is_mapped t) → is_list t ≡ false
    → p ≡ v.element.constructed → t ≡ v.element.number → w ≡ content_of v → Decodes value_content (contents Ber p t) w r
    → MatchResult r (λ x. HasContent v (value_content x)) (λ e. HasFault v (refusal e))
read_of_node v p t w (Ok x) ec mapped no_list ep et ew h = leaf_is_content v (value_content x) ec (rw (sym ep, sym et, sym ew) h.1)
read_of_node v p t w (Err e) ec mapped no_list ep et ew h = rw (sym ep, sym et, sym ew) (ec, mapped, no_list, h)
