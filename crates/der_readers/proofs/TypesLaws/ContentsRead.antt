-- A content that is read after a header, from its octets.
use Rattle.std.proofs.Common.{◌≡◌, ℕ, Bool, false, Option, None, List, Result, Ok, Err, MatchResult, refl, sym, subst, arith, min, inl, inr}
use Rattle.der_base.specs.declared.error.Error.{Error as BerError}
use Rattle.der_base.specs.declared.header.Class.{Class}
use Rattle.der_base.specs.declared.header.Class.TheVariants.{Universal}
use Rattle.der_base.specs.declared.header.Header.{Header}
use Rattle.der_base.specs.declared.header.Length.{Length}
use Rattle.der_base.specs.declared.header.Length.TheVariants.{Definite, Indefinite}
use Rattle.der_base.specs.declared.rules.Rules.{Rules}
use Rattle.der_base.specs.declared.rules.Rules.TheVariants.{Ber, Der}
use Rattle.der_base.specs.Content.{BeginsWithContent, ContentRefuses as FramingRefuses, ContentLacks}
use Rattle.der_base.specs.Encoding.{content_octets}
use Rattle.der_base.specs.Header.{class_of, is_constructed, number_of, length_of, IsHeader}
use Rattle.der_base.specs.Leaf.{IsLeafContent, IsDerLeaf}
use Rattle.der_base.specs.Refusal.{Refusal}
use Rattle.der_base.specs.Spelling.{framing_budget}
use Rattle.der_object.specs.declared.object.BerObject.{BerObject}
use Rattle.der_object.specs.declared.object.BerObjectContent.{BerObjectContent}
use Rattle.der_object.specs.declared.object.BerObjectContent.TheVariants.{Unknown}
use Rattle.der_object.specs.HeaderFacts.{inner_forms, KeepsHeader, HasRawTagAndHeader, HasDerHeader}
use Rattle.der_object.specs.View.{content_tree}
use Rattle.der_object.proofs.HeaderFacts.{leaf_forms, leaf_each}
use Rattle.der_readers.specs.Ber.Inner.ElementParts.{ReadsBehind, BehindRefuses, BehindNeedsMemory}
use Rattle.der_readers.proofs.BerLaws.Items.{leaf_has}
use Rattle.der_values.proofs.LawsLaws.Spellings.DerContents.{leaf_valid, leaf_height}
use Rattle.der_values.specs.Contents.{IsDerContentOf}
use Rattle.der_readers.specs.Types.TypedReading.{FramesContent, FrameRefuses, FrameLacks, FramingNeedsMemory, HasOwnHeader, ReadsContent, ReadsContentAs, ReadsContentOf, ReadingRefuses, ReadingNeedsMemory}
use Rattle.der_readers.specs.Types.Inner.Framing.{MayFollow}
use Rattle.der_readers.proofs.TypesLaws.ContentLaws.{content_by_ber}

-- what follows a header that may stand there, by BER

pub frames : (rules : Rules) (l : Length) (p : Bool) (d : ℕ) (i w rest : List ℕ) → MayFollow rules l p d i → BeginsWithContent i l (min d framing_budget) w rest → FramesContent rules l p d i w rest
frames rules (Definite n) p d i w rest m b = record { deep = m.0; passes = m.1; begins = b }
frames rules Indefinite p d i w rest m b = record { deep = m.0; passes = (m.1, m.2); begins = b }

framing_refused : (l : Length) (p : Bool) (d : ℕ) (i : List ℕ) (e : Refusal) → MayFollow Ber l p d i → FramingRefuses i l (min d framing_budget) e → FrameRefuses Ber l p d i e
framing_refused (Definite n) p d i e m r = absurd r
framing_refused Indefinite p d i e m r = inr (inr (m.0, m.2, r))

framing_lacks : (c : Class) (l : Length) (p : Bool) (d : ℕ) (i : List ℕ) (n : ℕ) → MayFollow Ber l p d i → ContentLacks i l (min d framing_budget) n → FrameLacks Ber c l p d i n
framing_lacks c (Definite k) p d i n m r = absurd (omega (arith, m.2, r.0, r.1))
framing_lacks c Indefinite p d i n m r = (refl, m.0, m.2, r)

framing_needs : (l : Length) (p : Bool) (d : ℕ) (i : List ℕ) → MayFollow Ber l p d i → l ≡ Indefinite → FramingNeedsMemory Ber l p d
framing_needs (Definite n) p d i m e = absurd (cc)
framing_needs Indefinite p d i m e = (refl, m.0, m.2, refl)

module _ (h : Header) (d : ℕ) (i : List ℕ) (m : MayFollow Ber (length_of h) (is_constructed h) d i) where
  pub behind_read : (o : BerObject) (rest : List ℕ) → ReadsBehind h (min d framing_budget) d i o rest → ReadsContentOf Ber h d i o rest
  behind_read o rest r =
      let f = frames Ber (length_of h) (is_constructed h) d i r.octets rest m r.framed in
      let k = r.content in
      let content = content_by_ber (class_of h) (length_of h) (is_constructed h) d (number_of h) i r.octets rest (content_tree o.content) (inner_forms o.content) f k.content in
      record { header = r.header; read = record { octets = r.octets; framed = f; content = content; headers = k.headers }; kept = k.kept }

  pub behind_refused : (e : Refusal) → BehindRefuses h (min d framing_budget) d i e → ReadingRefuses Ber (class_of h) (number_of h) (length_of h) (is_constructed h) d i e
  behind_refused e (inl r) = inl (framing_refused (length_of h) (is_constructed h) d i e m r)
  behind_refused e (inr (w, rest, f, r)) = inr (w, rest, frames Ber (length_of h) (is_constructed h) d i w rest m f, r)

  pub behind_lacks : (n : ℕ) → ContentLacks i (length_of h) (min d framing_budget) n → FrameLacks Ber (class_of h) (length_of h) (is_constructed h) d i n
  behind_lacks n r = framing_lacks (class_of h) (length_of h) (is_constructed h) d i n m r

  pub behind_needs : BehindNeedsMemory h (min d framing_budget) d i → ReadingNeedsMemory Ber (class_of h) (number_of h) (length_of h) (is_constructed h) d i
  behind_needs (inl (two, u, q, k, w, rest, some, f)) = inl (two, u, k, q, w, rest, some, frames Ber (length_of h) (is_constructed h) d i w rest m f)
  behind_needs (inr e) = inr (framing_needs (length_of h) (is_constructed h) d i m e)

-- behind a header that is made of its parts

pub of_parts : {raw : Option (List ℕ)} (P : Class → ℕ → Length → Bool → Type 0) (h : Header) (c : Class) (t : ℕ) (l : Length) (p : Bool) → IsHeader h c p t l raw
    → P (class_of h) (number_of h) (length_of h) (is_constructed h) → P c t l p
of_parts P h c t l p g k =
    subst (λ x. P c t l x) g.constructed (subst (λ x. P c t x (is_constructed h)) g.length
    (subst (λ x. P c x (length_of h) (is_constructed h)) g.number (subst (λ x. P x (number_of h) (length_of h) (is_constructed h)) g.class k)))

own_header : (t : ℕ) (l : Length) (p : Bool) (h : Header) (x : BerObjectContent) → IsHeader h Universal p t l None → KeepsHeader h x → HasOwnHeader t l p x
own_header t l p h (Unknown a) g k = subst (λ y. IsHeader y Universal p t l None) (sym k) g
own_header t l p h _ g k = tt

pub as_read : (rules : Rules) (t : ℕ) (l : Length) (p : Bool) (d : ℕ) (i : List ℕ) (h : Header) (o : BerObject) (rest : List ℕ) → IsHeader h Universal p t l None
    → ReadsContentOf rules h d i o rest → ReadsContentAs rules t l p d i o.content rest
as_read rules t l p d i h o rest g r =
    record { read = of_parts (λ c t l p. ReadsContent rules c t l p d i o.content rest) h Universal t l p g r.read; own = own_header t l p h o.content g r.kept }

-- a content of a type that is no list

own_leaf : (t : ℕ) (l : Length) (p : Bool) (w : List ℕ) (x : BerObjectContent) → IsLeafContent p t w (content_tree x) → HasOwnHeader t l p x
own_leaf t l p w (Unknown a) k = absurd k
own_leaf t l p w _ k = tt

pub ber_leaf : (l : Length) (p : Bool) (t : ℕ) (i w rest : List ℕ) (x : BerObjectContent) → FramesContent Ber l p 50 i w rest → IsLeafContent p t w (content_tree x) → ReadsContentAs Ber t l p 50 i x rest
ber_leaf l p t i w rest x f k =
    let y = content_tree x in
    let has = leaf_has w Universal p t y (inner_forms x) 50 refl (leaf_forms p t w x k) k in
    let content = content_by_ber Universal l p 50 t i w rest y (inner_forms x) f has in
    record { read = record { octets = w; framed = f; content = content; headers = leaf_each HasRawTagAndHeader p t w x k }; own = own_leaf t l p w x k }

pub der_leaf : (l : Length) (p : Bool) (t : ℕ) (i w rest : List ℕ) (x : BerObjectContent) → FramesContent Der l p 50 i w rest
    → (p ≡ false) × IsDerLeaf t (content_tree x) × (w ≡ content_octets (content_tree x)) → ReadsContentAs Der t l p 50 i x rest
der_leaf l p t i w rest x f (q, k, o) =
    let y = content_tree x in
    let content : IsDerContentOf w Universal p t y 50 = record { octets = o; valid = leaf_valid Universal p t y refl q k; depth = omega (arith, leaf_height t y k) } in
    record { read = record { octets = w; framed = f; content = content; headers = leaf_each HasDerHeader false t (content_octets y) x k.0 }; own = own_leaf t l p (content_octets y) x (subst (λ b. IsLeafContent b t (content_octets y) y) (sym q) k.0) }

-- a result of the readers of octets, said in other words
pub leaf_result : (P P' : BerObjectContent → Type 0) (Q Q' : BerError → Type 0) (r : Result BerObjectContent BerError) → MatchResult r P Q → ((x : BerObjectContent) → P x → P' x)
    → ((e : BerError) → Q e → Q' e) → MatchResult r P' Q'
leaf_result P P' Q Q' (Ok x) h p q = p x h
leaf_result P P' Q Q' (Err e) h p q = q e h
