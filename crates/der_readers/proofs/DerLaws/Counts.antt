-- Each object takes two octets at least, for its identifier and its length: so there are no more objects than half the octets.
use Rattle.std.proofs.Common.{◌≡◌, ℕ, ◌+◌, ◌*◌, ◌^◌, ◌<◌, ◌≤◌, Bool, List, [], ◌∷◌, ◌++◌, length, sym, ap, ◌∙◌, arith, length-append}
use Rattle.std.specs.Prelude.{IfOk, Ok, Err}
use Rattle.der_base.specs.declared.header.Class.{Class}
use Rattle.der_base.specs.Count.{one_more, some_more}
use Rattle.der_base.specs.Encoding.{encoding, encodings, element, content_octets}
use Rattle.der_base.specs.Fault.{DerJoins}
use Rattle.der_base.specs.Header.{class_of, is_constructed, number_of}
use Rattle.der_base.specs.Listing.{object_count, content_count, item_count}
use Rattle.der_base.specs.Octets.{identifier, shortest_length}
use Rattle.der_base.specs.Spelling.{IsDerValid, IsDerContent, AreDerValid}
use Rattle.der_base.specs.Tree.{Node, node, Content, sequence, set, Nodes, no_nodes, nodes}
use Rattle.der_base.proofs.Octets.Identifiers.{identifier_octets}
use Rattle.der_base.proofs.Spellings.Counted.{object_counted, sequence_counted, set_counted, items_counted, one_then_some, some_then_some}
use Rattle.der_values.proofs.LawsLaws.Spellings.DerWithinBer.{valid_element}
use Rattle.der_object.specs.declared.object.BerObject.{BerObject}
use Rattle.der_object.specs.Counting.{CountsJustObjects}
use Rattle.der_object.specs.Readings.{Answer}
use Rattle.der_object.specs.View.{tree, content_tree, trees}
use Rattle.der_object.proofs.Counting.{item_count_push}
use Rattle.der_readers.specs.Der.DerReading.{ReadsDer}
use Rattle.der_values.proofs.LawsLaws.Spellings.DerContents.{joins_encoded}
use Rattle.der_values.proofs.LawsLaws.Spellings.DerReadings.{length_octets}
use Rattle.der_readers.proofs.DerLaws.Items.{Read}

element_octets : (c : Class) (p : Bool) (t : ℕ) (w : List ℕ) → 2 + length w ≤ length (element c p t w)
element_octets c p t w =
    let a = identifier c p t in
    let s = shortest_length (length w) in
    omega (arith, identifier_octets c p t, length_octets (length w), length-append (a ++ s) w, length-append a s)

mutual
  object_octets : (o : Node) → IsDerValid o → 2 * object_count o ≤ length (encoding o)
  object_octets (node c p t x) v =
      omega (arith, object_counted c p t x, ap length (valid_element c p t x v.1), element_octets c p t (content_octets x), inner_octets c p t x v.1)

  inner_octets : (c : Class) (p : Bool) (t : ℕ) (x : Content) → IsDerContent c p t x → 2 * content_count x ≤ length (content_octets x)
  inner_octets c p t (sequence l) v = omega (arith, sequence_counted l, item_octets l v.3)
  inner_octets c p t (set l) v = omega (arith, set_counted l, item_octets l v.3)
  inner_octets c p t _ v = omega arith

  item_octets : (l : Nodes) → AreDerValid l → 2 * item_count l ≤ length (encodings l)
  item_octets no_nodes v = omega arith
  item_octets (nodes o l) v = omega (arith, items_counted o l, length-append (encoding o) (encodings l), object_octets o v.0, item_octets l v.1)

-- of items that were read
joined_octets : (w : List ℕ) (l : Nodes) (d : ℕ) → DerJoins w l d → 2 * item_count l ≤ length w
joined_octets w l d j = let k = joins_encoded l w d j in omega (arith, ap length k.octets, item_octets l k.valid)

-- of an object
read_octets : (d : ℕ) (i rest : List ℕ) (o : BerObject) → ReadsDer d i o rest → 2 * object_count (tree o) + length rest ≤ length i
read_octets d i rest o r =
    omega (arith, ap length r.octets, length-append r.spelling rest, ap length r.spells.encoded, object_octets (tree o) r.spells.valid)

-- where no objects are inside, the count stays
pub none_counted : (k n : ℕ) → k ≡ 0 → n < 2 ^ 128 → n ≡ some_more k n
none_counted k n z h = omega (arith, z, h)

-- an object that was read is within the bound of what was read
pub bounded_read : (d : ℕ) (i rest : List ℕ) (o : BerObject) (old new : ℕ) → ReadsDer d i o rest → new ≡ some_more (object_count (tree o)) old → 2 * new + length rest ≤ 2 * old + length i
bounded_read d i rest o old new r e = omega (arith, e, read_octets d i rest o r)

-- what is counted of what is left is within the bound of the whole
pub bounded_behind : (w rest : List ℕ) (os : List BerObject) (d old now new : ℕ) → Read w rest os d → now ≡ some_more (item_count (trees os)) old → 2 * new ≤ 2 * now + length rest + 2
    → 2 * new ≤ 2 * old + length w + 2
bounded_behind w rest os d old now new r e h = omega (arith, e, h, joined_octets r.read (trees os) d r.joins, ap length r.parts, length-append r.read rest)

-- one more object behind others
pub counted_more : (os : List BerObject) (o : BerObject) (n : ℕ) → some_more (object_count (tree o)) (some_more (item_count (trees os)) n) ≡ some_more (item_count (trees (os ++ o ∷ []))) n
counted_more os o n = some_then_some (item_count (trees os)) (object_count (tree o)) n ∙ ap (λ k. some_more k n) (sym (item_count_push os o))

-- a header is counted before what is inside it
pub counted_around : (r : Answer) (old now new : ℕ) → now ≡ one_more old → IfOk r (λ x. new ≡ some_more (content_count (content_tree x.1.content)) now) → CountsJustObjects r old new
counted_around (Ok x) old now new e h =
    let h' = x.1.header in
    let y = content_tree x.1.content in
    let k = content_count y in
    let all = object_counted (class_of h') (is_constructed h') (number_of h') y in
    h ∙ ap (some_more k) e ∙ one_then_some k old ∙ ap (λ n. some_more n old) (sym all)
counted_around (Err e) old now new q h = tt
