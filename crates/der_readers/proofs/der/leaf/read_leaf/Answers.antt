use Rattle.std.proofs.Common.{◌≡◌, List, ℕ, Bool, Result, Ok, Err, MatchResult, false, true, arith, All}
use Rattle.der_base.specs.declared.error.Error.{Error as BerError}
use Rattle.der_base.specs.declared.rules.Rules.TheVariants.{Der}
use Rattle.der_base.specs.Encoding.{content_octets}
use Rattle.der_base.specs.Leaf.{is_list, is_mapped, IsDerLeaf}
use Rattle.der_base.specs.LeafRefusal.{DerLeafRefuses}
use Rattle.der_base.specs.Refusal.{refusal}
use Rattle.der_base.proofs.AllByRecursion.{all_from_each}
use Rattle.der_base.proofs.Octets.Shortest.{IsOctet}
use Rattle.der_base.proofs.Octets.ShortestLengths.{bytes_from}
use Rattle.der_object.specs.declared.object.BerObjectContent.{BerObjectContent}
use Rattle.der_object.specs.View.{content_tree}
use Rattle.der_values.specs.Kinds.{Decodes, contents}
use Rattle.der_values.proofs.DecodedContents.{read_written}
use Rattle.der_readers.proofs.der.leaf.read_leaf.Goals as goal

-- the octets of a content that passes the tests of DER are those that are written for it
read_by_der : (p : Bool) (t : ℕ) (w : List ℕ) (r : Result BerObjectContent BerError) → All IsOctet w → is_mapped t ≡ true → is_list t ≡ false
    → Decodes content_tree (contents Der p t) w r
    → MatchResult r (λ x. (p ≡ false) × IsDerLeaf t (content_tree x) × (w ≡ content_octets (content_tree x))) (λ e. DerLeafRefuses p t w (refusal e))
read_by_der p t w (Ok x) are mapped no_list h = read_written p t w (content_tree x) are no_list h.0 h.1
read_by_der p t w (Err e) are mapped no_list h = (mapped, h)

pub returns : goal.returns
returns c =
    let w = c.args.content.now in
    let are : All IsOctet w = all_from_each IsOctet w (bytes_from w (λ k. omega (arith, c.type_inv.content k))) in
    read_by_der c.args.constructed c.args.tag.0 w c.read_content.result are c.requires.mapped c.requires.no_list c.read_content.ensures
