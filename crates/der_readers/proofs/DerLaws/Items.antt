-- Items that are read one after another, and the elements around them.
use Rattle.std.proofs.Common.{◌≡◌, ◌≢◌, ℕ, zero, suc, ◌-◌, ◌<◌, ◌≤◌, Bool, true, false, IsTrue, List}
use Rattle.std.proofs.Common.{[], ◌∷◌, ◌++◌, length, refl, sym, ap, subst, ◌∙◌, arith, append_assoc, inr, All}
use Rattle.std.proofs.lemmas.List.Elements.{All-nil}
use Rattle.std.proofs.lemmas.List.{append-nil}
use Rattle.der_base.specs.declared.header.Class.{Class}
use Rattle.der_base.specs.declared.header.Class.TheVariants.{Universal}
use Rattle.std.specs.declared.vec.Vec.{Vec}
use Rattle.std.specs.declared.alloc.Global.{Global}
use Rattle.der_base.specs.declared.header.Header.{Header}
use Rattle.der_base.specs.declared.header.Length.TheVariants.{Definite}
use Rattle.der_base.specs.Encoding.{element, content_octets}
use Rattle.der_base.specs.Fault.{DerHeaderRefuses, DerJoins, DerShowsFault}
use Rattle.der_base.specs.Headers.{BeginsWithDerHeader}
use Rattle.der_base.specs.Header.{class_of, is_constructed, number_of, length_of}
use Rattle.der_base.specs.Leaf.{is_list, IsDerLeaf}
use Rattle.der_base.specs.Octets.{identifier, shortest_length}
use Rattle.der_base.specs.Refusal.{Refusal, invalid_length}
use Rattle.der_base.specs.Spelling.{max_object_size}
use Rattle.der_base.specs.Tree.{sequence, set}
use Rattle.der_values.proofs.LawsLaws.Spellings.DerFaults.{header_shows, size_shows, behind_shows}
use Rattle.der_values.proofs.LawsLaws.Spellings.DerWithinBer.{valid_element}
use Rattle.der_object.specs.declared.object.BerObject.{BerObject}
use Rattle.der_object.specs.declared.object.BerObjectContent.{BerObjectContent}
use Rattle.der_object.specs.declared.object.BerObjectContent.TheVariants.{Sequence, Set}
use Rattle.der_object.specs.HeaderFacts.{HasRawTag, HasDerHeader, EachHasDerHeader}
use Rattle.der_object.specs.View.{content_tree, trees}
use Rattle.der_object.proofs.Joins.{der_joins_push}
use Rattle.der_object.proofs.HeaderFacts.{sequence_each, set_each, leaf_each, leaf_keeps, each_push}
use Rattle.der_object.proofs.Trees.{sequence_tree, set_tree}
use Rattle.der_values.specs.Contents.{IsDerContentOf}
use Rattle.der_values.proofs.LawsLaws.Spellings.DerContents.{joins_encoded, leaf_height, leaf_valid}
use Rattle.der_readers.specs.Der.DerReading.{ReadsDer, BeginsWithItems, ContentRefuses}
use Rattle.der_readers.specs.Der.Inner.DerItems.{AreItems, IsContentOf}

-- the items in front of rest
pub record Read (w rest : List ℕ) (os : List BerObject) (d : ℕ) : Type 0 where
  pub read : List ℕ
  pub parts : w ≡ read ++ rest
  pub joins : DerJoins read (trees os) d
  pub headers : All EachHasDerHeader os

pub read_none : (w : List ℕ) (d : ℕ) → Read w w [] d
read_none w d = record { read = []; parts = refl; joins = refl; headers = All-nil EachHasDerHeader }

pub read_more : (w rest after : List ℕ) (os : List BerObject) (o : BerObject) (d : ℕ) → Read w rest os d → ReadsDer d rest o after → Read w after (os ++ o ∷ []) d
read_more w rest after os o d h k = record {
  read = h.read ++ k.spelling;
  parts = h.parts ∙ ap (λ v. h.read ++ v) k.octets ∙ sym (append_assoc h.read k.spelling after);
  joins = der_joins_push os h.read k.spelling o d h.joins k.spells;
  headers = each_push HasDerHeader os o h.headers k.headers;
}

pub read_all : (w rest : List ℕ) (os : List BerObject) (d : ℕ) → Read w rest os d → length rest ≡ 0 → AreItems w os d
read_all w [] os d h z = record { joins = subst (λ v. DerJoins v (trees os) d) (sym (h.parts ∙ append-nil h.read)) h.joins; headers = h.headers }
read_all w (b ∷ rest) os d h z = absurd (omega arith)

pub sequence_content : (w : List ℕ) (h : Header) (v : Vec BerObject Global) (d : ℕ) → class_of h ≡ Universal → is_constructed h ≡ true → number_of h ≡ 16 → 1 ≤ d
    → AreItems w v.items (d - 1) → IsContentOf w h (Sequence v) d
sequence_content w h v d ec ep et le j =
    let q = joins_encoded (trees v.items) w (d - 1) j.joins in
    let k : IsDerContentOf w (class_of h) (is_constructed h) (number_of h) (sequence (trees v.items)) d = record { octets = q.octets; valid = (ec, et, ep, q.valid); depth = omega (arith, q.depth) } in
    record { content = subst (λ x. IsDerContentOf w (class_of h) (is_constructed h) (number_of h) x d) (sym (sequence_tree v)) k; kept = tt; headers = sequence_each HasDerHeader v j.headers }

pub set_content : (w : List ℕ) (h : Header) (v : Vec BerObject Global) (d : ℕ) → class_of h ≡ Universal → is_constructed h ≡ true → number_of h ≡ 17 → 1 ≤ d
    → AreItems w v.items (d - 1) → IsContentOf w h (Set v) d
set_content w h v d ec ep et le j =
    let q = joins_encoded (trees v.items) w (d - 1) j.joins in
    let k : IsDerContentOf w (class_of h) (is_constructed h) (number_of h) (set (trees v.items)) d = record { octets = q.octets; valid = (ec, et, ep, q.valid); depth = omega (arith, q.depth) } in
    record { content = subst (λ x. IsDerContentOf w (class_of h) (is_constructed h) (number_of h) x d) (sym (set_tree v)) k; kept = tt; headers = set_each HasDerHeader v j.headers }

pub leaf_content : (w : List ℕ) (h : Header) (x : BerObjectContent) (d : ℕ) → class_of h ≡ Universal → 1 ≤ d → is_constructed h ≡ false → IsDerLeaf (number_of h) (content_tree x)
    → w ≡ content_octets (content_tree x) → IsContentOf w h x d
leaf_content w h x d u le p r e = record {
  content = record {
    octets = e;
    valid = leaf_valid (class_of h) (is_constructed h) (number_of h) (content_tree x) u p r;
    depth = omega (arith, leaf_height (number_of h) (content_tree x) r, le);
  };
  kept = leaf_keeps h false (number_of h) (content_octets (content_tree x)) x r.0;
  headers = leaf_each HasDerHeader false (number_of h) (content_octets (content_tree x)) x r.0;
}

-- an element of a header and a content
pub element_read : (i rest w r : List ℕ) (o : BerObject) (n d : ℕ) → BeginsWithDerHeader i (class_of o.header) (is_constructed o.header) (number_of o.header) n rest
    → length_of o.header ≡ Definite n → HasRawTag o.header
    → n ≤ max_object_size → rest ≡ w ++ r → length w ≡ n → IsContentOf w o.header o.content d → ReadsDer d i o r
element_read i rest w r o n d b l raw s e z k =
    let c = class_of o.header in
    let p = is_constructed o.header in
    let t = number_of o.header in
    let x = content_tree o.content in
    let v = content_octets x in
    let f : i ≡ element c p t v ++ r = b.octets ∙ ap (λ q. identifier c p t ++ shortest_length q ++ rest) (sym z) ∙ ap (λ q. identifier c p t ++ shortest_length (length w) ++ q) e
    ∙ sym (append_assoc (identifier c p t ++ shortest_length (length w)) w r) ∙ ap (λ q. element c p t q ++ r) k.content.octets in
    let m : n ≡ length v = sym z ∙ ap (λ q. length q) k.content.octets in
    record {
      spelling = element c p t v;
      octets = f;
      spells = record { encoded = sym (valid_element c p t x k.content.valid); valid = (b.number, k.content.valid); depth = k.content.depth; size = omega (arith, m) };
      headers = (record { raw_tag = raw; length = l ∙ ap Definite m; kept = k.kept }, k.headers);
    }

-- an object that has this content
pub object_read : (i rest w r r' : List ℕ) (h : Header) (o : BerObject) (n d : ℕ) → BeginsWithDerHeader i (class_of h) (is_constructed h) (number_of h) n rest → length_of h ≡ Definite n → HasRawTag h
    → n ≤ max_object_size → rest ≡ w ++ r → length w ≡ n → (r' ≡ r) × (o.header ≡ h) × IsContentOf w h o.content d → ReadsDer d i o r'
object_read i rest w r r' h o n d b l raw s e z (er, eh, k) =
    subst (ReadsDer d i o) (sym er) (subst (λ h. ReadsDer d i (record { header = h; content = o.content }) r) (sym eh)
    (element_read i rest w r (record { header = h; content = o.content }) n d b l raw s e z k))

-- a refusal of the content, at the depth of the element
pub content_refused : (d : ℕ) (i rest w r : List ℕ) (c : Class) (p : Bool) (t n : ℕ) (e : Refusal) → 1 ≤ d → BeginsWithDerHeader i c p t n rest → n ≤ max_object_size → rest ≡ w ++ r → length w ≡ n
    → ContentRefuses c p t w d e → DerShowsFault d i e
content_refused zero i rest w r c p t n e h b s o z q = absurd (omega arith)
content_refused (suc d) i rest w r c p t n e h b s o z (u, m, q) =
    let k : suc d - 1 ≡ d = omega arith in
    behind_shows d i rest c p t n e b (inr (s, u, m, w, r, o, z, rw k at q))

-- refusals of a header, at a depth of at least 1
pub header_refused : (d : ℕ) (i : List ℕ) (e : Refusal) → 1 ≤ d → DerHeaderRefuses i e → DerShowsFault d i e
header_refused zero i e h r = absurd (omega arith)
header_refused (suc d) i e h r = header_shows d i e r

pub size_refused : (d : ℕ) (i rest : List ℕ) (c : Class) (p : Bool) (t n : ℕ) → 1 ≤ d → BeginsWithDerHeader i c p t n rest → max_object_size < n → DerShowsFault d i invalid_length
size_refused zero i rest c p t n h b s = absurd (omega arith)
size_refused (suc d) i rest c p t n h b s = size_shows d i rest c p t n b s

pub content_memory : (d : ℕ) (i rest w r : List ℕ) (c : Class) (p : Bool) (t n : ℕ) → BeginsWithDerHeader i c p t n rest → rest ≡ w ++ r → length w ≡ n
    → (2 ≤ d) × (c ≡ Universal) × (p ≡ true) × IsTrue (is_list t) × (w ≢ []) → (2 ≤ d) × BeginsWithItems i
content_memory d i rest w r c p t n b o z (deep, u, q, k, some) = (deep, (t, w, r, k, some, begins))
  where
    begins : BeginsWithDerHeader i Universal true t (length w) (w ++ r)
    begins = rw (z, ← o, ← u, ← q) b
