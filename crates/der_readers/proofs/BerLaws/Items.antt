-- Items that are read one after another, and the elements around them.
use Rattle.std.proofs.Common.{◌≡◌, ◌≢◌, ℕ, zero, suc, ◌-◌, ◌≤◌, Bool, true, IsTrue, List, [], ◌∷◌, ◌++◌, length}
use Rattle.std.proofs.Common.{refl, sym, ap, subst, ◌∙◌, arith, append_assoc, inl, inr, All}
use Rattle.std.proofs.lemmas.List.Elements.{All-nil}
use Rattle.std.proofs.lemmas.List.{append-nil}
use Rattle.der_base.specs.declared.header.Class.{Class}
use Rattle.der_base.specs.declared.header.Class.TheVariants.{Universal}
use Rattle.der_base.specs.declared.header.Header.{Header}
use Rattle.std.specs.declared.vec.Vec.{Vec}
use Rattle.std.specs.declared.alloc.Global.{Global}
use Rattle.der_base.specs.declared.header.Length.{Length}
use Rattle.der_base.specs.declared.header.Length.TheVariants.{Definite, Indefinite}
use Rattle.der_base.specs.Content.{BeginsWithContent, ContentRefuses as FramingRefuses, ContentLacks}
use Rattle.der_base.specs.Headers.{BeginsWithHeader, ReadsHeader}
use Rattle.der_base.proofs.Framing.FramingAny.{any_lacks_content}
use Rattle.der_base.proofs.Framing.FramingAny as framing
use Rattle.der_base.proofs.Framing.FramingLists.{element_from}
use Rattle.der_base.specs.Any.{AnyRefuses}
use Rattle.der_base.specs.Fault.{ShowsFault}
use Rattle.der_base.specs.Inner.Framed.{HasContent}
use Rattle.der_base.specs.Header.{class_of, is_constructed, number_of, length_of}
use Rattle.der_base.specs.Leaf.{is_list, IsLeafContent}
use Rattle.der_base.specs.Refusal.{Refusal}
use Rattle.der_base.specs.Spelling.{BeginsWithElement, form, Forms, no_forms, Joins, framing_budget}
use Rattle.der_base.specs.Tree.{Content, sequence, set}
use Rattle.der_values.proofs.LawsLaws.Spellings.BerFaults.{any_shows, content_shows}
use Rattle.der_base.proofs.Framing.FramingLaws.{framed_begins}
use Rattle.der_base.proofs.Framing.FramedIsSpelling.{joins_now, spells_then}
use Rattle.der_object.specs.declared.object.BerObject.{BerObject}
use Rattle.der_object.specs.declared.object.BerObjectContent.{BerObjectContent}
use Rattle.der_object.specs.declared.object.BerObjectContent.TheVariants.{Sequence, Set}
use Rattle.der_object.specs.HeaderFacts.{forms_of, inner_forms, EachInside, KeepsHeader}
use Rattle.der_object.specs.HeaderFacts.{HasRawTagAndHeader, EachHasRawTagAndHeader}
use Rattle.der_object.specs.View.{node_of, content_tree, trees}
use Rattle.der_object.proofs.Joins.{joins_push}
use Rattle.der_object.proofs.HeaderFacts.{sequence_each, set_each, sequence_forms, set_forms, leaf_forms, leaf_each}
use Rattle.der_object.proofs.HeaderFacts.{leaf_keeps, each_push}
use Rattle.der_object.proofs.Trees.{sequence_tree, set_tree}
use Rattle.der_base.specs.Stable.{BerIsCut}
use Rattle.der_values.proofs.LawsLaws.Spellings.BerReadings.{any_cut}
use Rattle.der_readers.specs.Ber.BerReading.{ReadsBer, NeedsMemory, ContentRefuses}
use Rattle.der_readers.specs.Ber.Inner.ElementParts.{AreItems, IsContentOf, BehindRefuses, BehindNeedsMemory}

-- the items in front of rest
pub record Read (w rest : List ℕ) (os : List BerObject) (d : ℕ) : Type 0 where
  pub read : List ℕ
  pub parts : w ≡ read ++ rest
  pub joins : Joins read (trees os) (forms_of os) d framing_budget
  pub headers : All EachHasRawTagAndHeader os

pub read_none : (w : List ℕ) (d : ℕ) → Read w w [] d
read_none w d = record { read = []; parts = refl; joins = refl; headers = All-nil EachHasRawTagAndHeader }

pub read_more : (w rest after : List ℕ) (os : List BerObject) (o : BerObject) (d : ℕ) → Read w rest os d
    → ReadsBer d rest o after → Read w after (os ++ o ∷ []) d
read_more w rest after os o d h k = record {
  read = h.read ++ k.spelling;
  parts = h.parts ∙ ap (λ v. h.read ++ v) k.octets ∙ sym (append_assoc h.read k.spelling after);
  joins = joins_push os h.read k.spelling o d framing_budget h.joins k.spells;
  headers = each_push HasRawTagAndHeader os o h.headers k.headers;
}

pub read_all : (w rest : List ℕ) (os : List BerObject) (d : ℕ) → Read w rest os d → length rest ≡ 0 → AreItems w os d
read_all w [] os d h z = record {
  joins = subst (λ v. Joins v (trees os) (forms_of os) d framing_budget)
      (sym (h.parts ∙ append-nil h.read)) h.joins;
  headers = h.headers;
}
read_all w (b ∷ rest) os d h z = absurd (omega arith)

-- contents

-- that of a list, by its tree and the lengths in the headers of its items
list_content : (w : List ℕ) (h : Header) (x : BerObjectContent) (y : Content) (fs : Forms) (d : ℕ) → content_tree x ≡ y
    → inner_forms x ≡ fs → HasContent w (class_of h) (is_constructed h) (number_of h) y fs d
    → KeepsHeader h x → EachInside HasRawTagAndHeader x → IsContentOf w h x d
list_content w h x y fs d e f k kept each = record { content = rw (e, f) k; kept = kept; headers = each }

pub sequence_content : (w : List ℕ) (h : Header) (v : Vec BerObject Global) (d : ℕ) → class_of h ≡ Universal
    → is_constructed h ≡ true → number_of h ≡ 16 → AreItems w v.items (d - 1) → IsContentOf w h (Sequence v) d
sequence_content w h v d ec ep et j =
    let q = joins_now (trees v.items) w (forms_of v.items) (d - 1) framing_budget (omega arith) j.joins in
    list_content w h (Sequence v) (sequence (trees v.items)) (forms_of v.items) d (sequence_tree v) (sequence_forms v)
    (ec, et, ep, q) tt (sequence_each HasRawTagAndHeader v j.headers)

pub set_content : (w : List ℕ) (h : Header) (v : Vec BerObject Global) (d : ℕ) → class_of h ≡ Universal
    → is_constructed h ≡ true → number_of h ≡ 17 → AreItems w v.items (d - 1) → IsContentOf w h (Set v) d
set_content w h v d ec ep et j =
    let q = joins_now (trees v.items) w (forms_of v.items) (d - 1) framing_budget (omega arith) j.joins in
    list_content w h (Set v) (set (trees v.items)) (forms_of v.items) d (set_tree v) (set_forms v)
    (ec, et, ep, q) tt (set_each HasRawTagAndHeader v j.headers)

pub leaf_has : (w : List ℕ) (c : Class) (p : Bool) (t : ℕ) (x : Content) (fs : Forms) (d : ℕ) → c ≡ Universal
    → fs ≡ no_forms → IsLeafContent p t w x → HasContent w c p t x fs d
leaf_has w c p t (sequence l) fs d u f k = absurd k
leaf_has w c p t (set l) fs d u f k = absurd k
leaf_has w c p t _ fs d u f k = (f, inl (u, k))

pub leaf_content : (w : List ℕ) (h : Header) (x : BerObjectContent) (d : ℕ) → class_of h ≡ Universal
    → IsLeafContent (is_constructed h) (number_of h) w (content_tree x) → IsContentOf w h x d
leaf_content w h x d u r =
    let p = is_constructed h in
    let t = number_of h in record {
      content = leaf_has w (class_of h) p t (content_tree x) (inner_forms x) d u (leaf_forms p t w x r) r;
      kept = leaf_keeps h p t w x r;
      headers = leaf_each HasRawTagAndHeader p t w x r;
    }

-- a header and its content are an element
pub begins_behind : (i behind w rest : List ℕ) (h : Header) → ReadsHeader i h behind
    → BeginsWithContent behind (length_of h) framing_budget w rest
    → BeginsWithElement i framing_budget (class_of h) (is_constructed h) (number_of h) w rest
begins_behind i behind w rest h r f =
    let e = element_from i behind w rest framing_budget (class_of h) (is_constructed h) (number_of h) (length_of h)
    (omega arith) r.begins f in
    subst (λ v. BeginsWithElement v framing_budget (class_of h) (is_constructed h) (number_of h) w rest) (sym e.2)
    (framed_begins rest e.1)

element_read : (i behind w rest : List ℕ) (h : Header) (x : BerObjectContent) (d : ℕ) → ReadsHeader i h behind
    → BeginsWithContent behind (length_of h) framing_budget w rest → 1 ≤ d → IsContentOf w h x d
    → ReadsBer d i (record { header = h; content = x }) rest
element_read i behind w rest h x d r f deep k =
    let e = element_from i behind w rest framing_budget (class_of h) (is_constructed h) (number_of h) (length_of h)
    (omega arith) r.begins f in
    record {
      spelling = e.0;
      octets = e.2;
      spells = spells_then (node_of h (content_tree x)) e.0 (form (length_of h) (inner_forms x)) d framing_budget
          (deep, w, e.1, k.content) (w, e.1);
      headers = (record { raw_tag = r.raw_tag; kept = k.kept }, k.headers);
    }

-- an object that has this header and content
pub object_read : (i behind w rest r : List ℕ) (h : Header) (o : BerObject) (d : ℕ) → ReadsHeader i h behind
    → BeginsWithContent behind (length_of h) framing_budget w rest → 1 ≤ d → (r ≡ rest) × (o.header ≡ h)
    × IsContentOf w h o.content d → ReadsBer d i o r
object_read i behind w rest r h o d q f deep (er, eh, k) =
    subst (ReadsBer d i o) (sym er) (subst (λ y. ReadsBer d i (record { header = y; content = o.content }) rest)
    (sym eh) (element_read i behind w rest h o.content d q f deep k))

-- refusals of an element, at a depth of at least 1
pub any_refused : (d : ℕ) (i : List ℕ) (e : Refusal) → 1 ≤ d → AnyRefuses i e → ShowsFault d i e
any_refused zero i e h r = absurd (omega arith)
any_refused (suc d) i e h r = any_shows d i e r

-- a refusal of the content
pub content_refused : (d : ℕ) (i rest w : List ℕ) (c : Class) (p : Bool) (t : ℕ) (e : Refusal) → 1 ≤ d
    → BeginsWithElement i framing_budget c p t w rest → ContentRefuses c p t w d e → ShowsFault d i e
content_refused zero i rest w c p t e h b r = absurd (omega arith)
content_refused (suc d) i rest w c p t e h b (u, m, q) =
    let k : suc d - 1 ≡ d = omega arith in
    content_shows d i rest w c p t e b u m (rw k at q)

pub content_memory : (d : ℕ) (i rest w : List ℕ) (c : Class) (p : Bool) (t : ℕ)
    → BeginsWithElement i framing_budget c p t w rest
    → (2 ≤ d) × (c ≡ Universal) × (p ≡ true) × IsTrue (is_list t) × (w ≢ []) → NeedsMemory d i
content_memory d i rest w c p t b (deep, u, q, k, some) =
    let framed = subst (λ k. BeginsWithElement i framing_budget k p t w rest) u b in
    inl (deep, (t, (w, rest, k, some, subst (λ k. BeginsWithElement i framing_budget Universal k t w rest) q framed)))

-- refusals and cuts behind a header, at a depth of at least 1

pub framing_refused : (d : ℕ) (i behind : List ℕ) (h : Header) (e : Refusal) → 1 ≤ d → ReadsHeader i h behind
    → FramingRefuses behind (length_of h) framing_budget e → ShowsFault d i e
framing_refused d i behind h e deep q r = any_refused d i e deep
    (framing.any_refused i behind (class_of h) (is_constructed h) (number_of h) (length_of h) e q.begins r)

pub framing_cut : (d : ℕ) (i behind : List ℕ) (h : Header) (n : ℕ) → 1 ≤ d → ReadsHeader i h behind
    → ContentLacks behind (length_of h) framing_budget n → BerIsCut d i n
framing_cut d i behind h n deep q l = any_cut d i n deep
    (any_lacks_content i behind (class_of h) (is_constructed h) (number_of h) (length_of h) n q.begins l)

pub behind_refused : (d : ℕ) (i behind : List ℕ) (h : Header) (e : Refusal) → 1 ≤ d → ReadsHeader i h behind
    → BehindRefuses h framing_budget d behind e → ShowsFault d i e
behind_refused d i behind h e deep q (inl r) = framing_refused d i behind h e deep q r
behind_refused d i behind h e deep q (inr (w, rest, f, r)) =
    content_refused d i rest w (class_of h) (is_constructed h) (number_of h) e deep
    (begins_behind i behind w rest h q f) r

open_memory : (d : ℕ) (i behind : List ℕ) (h : Header) (l : Length) → 1 ≤ d → l ≡ Indefinite
    → BeginsWithHeader i (class_of h) (is_constructed h) (number_of h) l behind → NeedsMemory d i
open_memory d i behind h (Definite n) deep e b = absurd (cc)
open_memory d i behind h Indefinite deep e b =
    inr (
      deep,
      (
        class_of h,
        number_of h,
        behind,
        subst (λ p. BeginsWithHeader i (class_of h) p (number_of h) Indefinite behind) b.length.0 b,
      ),
    )

pub recording_memory : (d : ℕ) (i behind : List ℕ) (h : Header) → 1 ≤ d → ReadsHeader i h behind
    → length_of h ≡ Indefinite → NeedsMemory d i
recording_memory d i behind h deep q e = open_memory d i behind h (length_of h) deep e q.begins

pub behind_memory : (d : ℕ) (i behind : List ℕ) (h : Header) → 1 ≤ d → ReadsHeader i h behind
    → BehindNeedsMemory h framing_budget d behind → NeedsMemory d i
behind_memory d i behind h deep q (inl (two, u, p, k, w, rest, some, f)) =
    content_memory d i rest w (class_of h) (is_constructed h) (number_of h) (begins_behind i behind w rest h q f) (
      two,
      u,
      p,
      k,
      some,
    )
behind_memory d i behind h deep q (inr e) = recording_memory d i behind h deep q e

-- memory is wanted at a depth of at least 1
pub memory_deep : (d : ℕ) (i : List ℕ) → NeedsMemory d i → 1 ≤ d
memory_deep d i (inl m) = omega (arith, m.0)
memory_deep d i (inr m) = m.0
