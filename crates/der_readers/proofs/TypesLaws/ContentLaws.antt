-- A content after a header that the caller gives, a refusal, and its end within the octets: one of them holds at most, and each in one way.
use Rattle.std.proofs.Common.{◌≡◌, ℕ, ◌-◌, ◌^◌, ◌<◌, ◌≤◌, Bool, List, [], ◌∷◌, ◌++◌, length, min, refl, sym, ap, subst, ◌∙◌, arith, length-append, inl, inr}
use Rattle.der_base.specs.declared.any.Any.{Any}
use Rattle.der_base.specs.declared.header.Class.{Class}
use Rattle.der_base.specs.declared.header.Class.TheVariants.{Universal}
use Rattle.der_base.specs.declared.header.Header.{Header}
use Rattle.der_base.specs.declared.header.Length.{Length}
use Rattle.der_base.specs.declared.header.Length.TheVariants.{Definite, Indefinite}
use Rattle.der_base.specs.declared.rules.Rules.{Rules}
use Rattle.der_base.specs.declared.rules.Rules.TheVariants.{Ber, Der}
use Rattle.der_base.specs.Encoding.{element}
use Rattle.der_base.specs.Fault.{ShowsFault, DerShowsFault}
use Rattle.der_base.specs.Header.{class_of, is_constructed, number_of, length_of}
use Rattle.der_base.specs.Inner.Framed.{IsElement, definite, indefinite, HasContent}
use Rattle.der_base.specs.Octets.{identifier, shortest_length}
use Rattle.der_base.specs.Refusal.{Refusal}
use Rattle.der_base.specs.Spelling.{end_marker, Forms, form, BerSpells, DerSpells, framing_budget, max_object_size}
use Rattle.der_base.specs.Tree.{Node, Content, node}
use Rattle.der_base.proofs.Framing.ContentLaws as framing
use Rattle.der_base.proofs.Spellings.Contents as contents
use Rattle.der_base.proofs.Framing.Framed.{elements_more}
use Rattle.der_base.proofs.Answers.Exactness.{ShowsOne}
use Rattle.der_base.proofs.Framing.FramingLaws.{framed_begins}
use Rattle.der_base.proofs.Framing.FramedIsSpelling.{raws_are, content_now, open_now, content_then, open_then, restated_back}
use Rattle.der_base.proofs.Octets.ShortestLengths.{shortest_spells}
use Rattle.der_base.proofs.Times.OneReading.{times_same}
use Rattle.der_values.proofs.LawsLaws.Spellings.BerFaults as ber
use Rattle.der_values.proofs.LawsLaws.Spellings.DerFaults as der
use Rattle.der_values.proofs.LawsLaws.Spellings.DerWithinBer.{valid_element, der_spelling_same, element_header}
use Rattle.der_object.specs.declared.object.BerObject.{BerObject}
use Rattle.der_object.specs.HeaderFacts.{inner_forms}
use Rattle.der_object.specs.Readings.{content_value_of}
use Rattle.der_object.specs.View.{tree}
use Rattle.der_object.proofs.TypedLaws.{shows_read}
use Rattle.der_readers.proofs.BerLaws.Items as ber_items
use Rattle.der_values.specs.Contents.{IsDerContentOf}
use Rattle.der_values.proofs.LawsLaws.Spellings.DerReadings.{universal_or_not}
use Rattle.der_readers.proofs.DerLaws.Items as der_items
use Rattle.der_readers.specs.Types.TypedReading.{FramesContent, FrameRefuses, FrameLacks, IsContentBy, ContentRefusesBy, SpellsContent, ReadingRefuses, ReadingNeedsMemory, FramingNeedsMemory}
use Rattle.der_readers.specs.Types.TypedReading.{ReadsContentAs, ReadsContentOf, inner_value_of, length_of_octets, ReadsObjectOf, SpellsObjectOf, ObjectOfRefuses}

-- framing

pub frames_same : (rules : Rules) (l : Length) (p : Bool) (d : ℕ) (i w w' rest rest' : List ℕ) → FramesContent rules l p d i w rest → FramesContent rules l p d i w' rest' → (w ≡ w') × (rest ≡ rest')
frames_same rules l p d i w w' rest rest' f f' = framing.content_same i w w' rest rest' l (min d framing_budget) f.begins f'.begins

not_ber : {A : Type 0} → Der ≡ Ber → A
not_ber e = absurd (cc)

frames_not_refused : (rules : Rules) (l : Length) (p : Bool) (d : ℕ) (i w rest : List ℕ) (e : Refusal) → FramesContent rules l p d i w rest → FrameRefuses rules l p d i e → ⊥
frames_not_refused rules (Definite n) p d i w rest e f (inl (h, q)) = omega (arith, f.passes, h)
frames_not_refused rules (Definite n) p d i w rest e f (inr (h, s, z, q)) = omega (arith, f.deep, z)
frames_not_refused Ber Indefinite p d i w rest e f (inl (z, q)) = omega (arith, f.deep, z)
frames_not_refused Ber Indefinite p d i w rest e f (inr (inl (h, ep, q))) = let a = sym f.passes.1 ∙ ep in cc
frames_not_refused Ber Indefinite p d i w rest e f (inr (inr (h, ep, r))) = framing.content_not_refused i w rest Indefinite (min d framing_budget) e f.begins r
frames_not_refused Der Indefinite p d i w rest e f q = not_ber f.passes.0

pub frames_not_lacking : (rules : Rules) (c : Class) (l : Length) (p : Bool) (d : ℕ) (i w rest : List ℕ) (n : ℕ) → FramesContent rules l p d i w rest → FrameLacks rules c l p d i n → ⊥
frames_not_lacking rules c (Definite m) p d i w rest n f (h, s, u, o) = omega (arith, s, f.begins.0, ap length f.begins.1, length-append w rest)
frames_not_lacking rules c Indefinite p d i w rest n f (b, h, ep, k) = framing.content_not_lacking i w rest Indefinite (min d framing_budget) n f.begins k

frame_refusal_same : (rules : Rules) (l : Length) (p : Bool) (d : ℕ) (i : List ℕ) (e e' : Refusal) → FrameRefuses rules l p d i e → FrameRefuses rules l p d i e' → e ≡ e'
frame_refusal_same rules (Definite n) p d i e e' (inl (h, q)) (inl (h', q')) = q ∙ sym q'
frame_refusal_same rules (Definite n) p d i e e' (inl (h, q)) (inr (h', s', z', q')) = absurd (omega (arith, h, h'))
frame_refusal_same rules (Definite n) p d i e e' (inr (h, s, z, q)) (inl (h', q')) = absurd (omega (arith, h, h'))
frame_refusal_same rules (Definite n) p d i e e' (inr (h, s, z, q)) (inr (h', s', z', q')) = q ∙ sym q'
frame_refusal_same Ber Indefinite p d i e e' (inl (z, q)) (inl (z', q')) = q ∙ sym q'
frame_refusal_same Ber Indefinite p d i e e' (inl (z, q)) (inr (inl (h', b', q'))) = absurd (omega (arith, z, h'))
frame_refusal_same Ber Indefinite p d i e e' (inl (z, q)) (inr (inr (h', b', r'))) = absurd (omega (arith, z, h'))
frame_refusal_same Ber Indefinite p d i e e' (inr (inl (h, b, q))) (inl (z', q')) = absurd (omega (arith, h, z'))
frame_refusal_same Ber Indefinite p d i e e' (inr (inl (h, b, q))) (inr (inl (h', b', q'))) = q ∙ sym q'
frame_refusal_same Ber Indefinite p d i e e' (inr (inl (h, b, q))) (inr (inr (h', b', r'))) = let a = sym b ∙ b' in cc
frame_refusal_same Ber Indefinite p d i e e' (inr (inr (h, b, r))) (inl (z', q')) = absurd (omega (arith, h, z'))
frame_refusal_same Ber Indefinite p d i e e' (inr (inr (h, b, r))) (inr (inl (h', b', q'))) = let a = sym b ∙ b' in cc
frame_refusal_same Ber Indefinite p d i e e' (inr (inr (h, b, r))) (inr (inr (h', b', r'))) = framing.content_refusal_same i Indefinite (min d framing_budget) e e' r r'
frame_refusal_same Der Indefinite p d i e e' q q' = q ∙ sym q'

frame_refused_not_lacking : (rules : Rules) (c : Class) (l : Length) (p : Bool) (d : ℕ) (i : List ℕ) (e : Refusal) (n : ℕ) → FrameRefuses rules l p d i e → FrameLacks rules c l p d i n → ⊥
frame_refused_not_lacking rules c (Definite m) p d i e n (inl (h, q)) (h', s', u, o) = omega (arith, h, h')
frame_refused_not_lacking rules c (Definite m) p d i e n (inr (h, s, z, q)) (h', s', u, o) = omega (arith, s, s')
frame_refused_not_lacking Ber c Indefinite p d i e n (inl (z, q)) (a, h', b', k) = omega (arith, z, h')
frame_refused_not_lacking Ber c Indefinite p d i e n (inr (inl (h, b, q))) (a, h', b', k) = let z = sym b ∙ b' in cc
frame_refused_not_lacking Ber c Indefinite p d i e n (inr (inr (h, b, r))) (a, h', b', k) = k.not_refused e r
frame_refused_not_lacking Der c Indefinite p d i e n q k = not_ber k.0

frame_lacks_same : (rules : Rules) (c : Class) (l : Length) (p : Bool) (d : ℕ) (i : List ℕ) (n n' : ℕ) → FrameLacks rules c l p d i n → FrameLacks rules c l p d i n' → n ≡ n'
frame_lacks_same rules c (Definite m) p d i n n' (h, s, u, o) (h', s', u', o') = elim (universal_or_not c) [
  | inl k ↦ u k ∙ sym (u' k)
  | inr k ↦ omega (arith, o k, o' k)
]
frame_lacks_same rules c Indefinite p d i n n' (a, h, b, k) (a', h', b', k') = framing.content_lacks_same i Indefinite (min d framing_budget) n n' k k'

-- contents by BER: with a header in front the octets are an element

fronted : (c : Class) (l : Length) (p : Bool) (d t : ℕ) (i w rest : List ℕ) → t < 2 ^ 32 → FramesContent Ber l p d i w rest → (b : List ℕ) × IsElement b l c p t w framing_budget
fronted c (Definite n) p d t i w rest h f =
    let s = shortest_length (length w) in
    let spells = shortest_spells (length w) (omega (arith, f.passes, f.begins.0)) in
    (identifier c p t ++ (s ++ w), definite s (ap Definite (sym f.begins.0)) h (omega arith) spells refl)
fronted c Indefinite p d t i w rest h f =
    (identifier c p t ++ (128 ∷ w ++ end_marker), indefinite refl f.passes.1 h (omega arith) (elements_more 49 (omega arith) (raws_are f.begins.1)) refl)

-- a content in the words of framing, and back
has_content : (c : Class) (l : Length) (p : Bool) (d t : ℕ) (i w rest : List ℕ) (x : Content) (fs : Forms) → FramesContent Ber l p d i w rest → IsContentBy Ber c t l p d w x fs → HasContent w c p t x fs d
has_content c (Definite n) p d t i w rest x fs f k = content_now x w c p t fs d framing_budget (omega arith) k
has_content c Indefinite p d t i w rest x fs f k = subst (λ q. HasContent w c q t x fs d) (sym f.passes.1) (open_now x w c t fs d (min d framing_budget - 1) (omega arith) k).0

pub content_by_ber : (c : Class) (l : Length) (p : Bool) (d t : ℕ) (i w rest : List ℕ) (x : Content) (fs : Forms) → FramesContent Ber l p d i w rest → HasContent w c p t x fs d → IsContentBy Ber c t l p d w x fs
content_by_ber c (Definite n) p d t i w rest x fs f k = content_then x w c p t fs d k
content_by_ber c Indefinite p d t i w rest x fs f k = open_then x w c p t fs d (min d framing_budget - 1) f.passes.1 k (raws_are f.begins.1)

ber_spells : (c : Class) (l : Length) (p : Bool) (d t : ℕ) (i w rest : List ℕ) (x : Content) (fs : Forms) (g : (b : List ℕ) × IsElement b l c p t w framing_budget)
    → FramesContent Ber l p d i w rest → IsContentBy Ber c t l p d w x fs → BerSpells g.0 (node c p t x) d framing_budget
ber_spells c l p d t i w rest x fs g f k = restated_back g.0 (node c p t x) d (form l fs, (f.deep, w, g.1, has_content c l p d t i w rest x fs f k))

ber_shows : (c : Class) (l : Length) (p : Bool) (d t : ℕ) (i w rest : List ℕ) (e : Refusal) (g : (b : List ℕ) × IsElement b l c p t w framing_budget)
    → FramesContent Ber l p d i w rest → ContentRefusesBy Ber c p t w d e → ShowsFault d (g.0 ++ []) e
ber_shows c l p d t i w rest e g f r = ber_items.content_refused d (g.0 ++ []) [] w c p t e f.deep (framed_begins [] g.1) r

-- and by DER

der_size : (l : Length) (p : Bool) (d : ℕ) (i w rest : List ℕ) → FramesContent Der l p d i w rest → length w ≤ max_object_size
der_size (Definite n) p d i w rest f = omega (arith, f.passes, f.begins.0)
der_size Indefinite p d i w rest f = not_ber f.passes.0

der_spells : (c : Class) (p : Bool) (t d : ℕ) (w : List ℕ) (x : Content) → t < 2 ^ 32 → length w ≤ max_object_size → IsDerContentOf w c p t x d → DerSpells (element c p t w) (node c p t x) d
der_spells c p t d w x h s k = record {
  encoded = ap (element c p t) k.octets ∙ sym (valid_element c p t x k.valid);
  valid = (h, k.valid);
  depth = k.depth;
  size = omega (arith, s, ap length k.octets);
}

der_shows : (c : Class) (p : Bool) (t d : ℕ) (w : List ℕ) (e : Refusal) → t < 2 ^ 32 → 1 ≤ d → length w ≤ max_object_size → ContentRefusesBy Der c p t w d e → DerShowsFault d (element c p t w ++ []) e
der_shows c p t d w e h deep s r =
    der_items.content_refused d (element c p t w ++ []) (w ++ []) w [] c p t (length w) e deep (element_header (element c p t w ++ []) w [] c p t h refl s) s refl refl r

-- the laws

module _ (rules : Rules) (c : Class) (t : ℕ) (l : Length) (p : Bool) (d : ℕ) (i : List ℕ) (fits : t < 2 ^ 32) where
  -- of the same octets
  value_same : (w rest : List ℕ) (x x' : Content) (fs fs' : Forms) → FramesContent rules l p d i w rest → IsContentBy rules c t l p d w x fs → IsContentBy rules c t l p d w x' fs' → x ≡ x'
  value_same w rest x x' fs fs' f k k' = same rules f k k'
    where
      same : (rules : Rules) → FramesContent rules l p d i w rest → IsContentBy rules c t l p d w x fs → IsContentBy rules c t l p d w x' fs' → x ≡ x'
      same Ber f k k' =
          let a = content_then x w c p t fs d (has_content c l p d t i w rest x fs f k) in
          let b = content_then x' w c p t fs' d (has_content c l p d t i w rest x' fs' f k') in
          contents.content_same times_same x x' w c p t fs fs' d d framing_budget framing_budget a b
      same Der f k k' =
          let s = der_size l p d i w rest f in
          let one : node c p t x ≡ node c p t x' = (der_spelling_same (element c p t w) (element c p t w) [] [] (node c p t x) (node c p t x') d d (der_spells c p t d w x fits s k) (der_spells c p t d w x' fits s k') refl).1 in
          cc

  value_not_refused : (w rest : List ℕ) (x : Content) (fs : Forms) (e : Refusal) → FramesContent rules l p d i w rest → IsContentBy rules c t l p d w x fs → ContentRefusesBy rules c p t w d e → ⊥
  value_not_refused w rest x fs e f k r = none rules f k r
    where
      none : (rules : Rules) → FramesContent rules l p d i w rest → IsContentBy rules c t l p d w x fs → ContentRefusesBy rules c p t w d e → ⊥
      none Ber f k r =
          let g = fronted c l p d t i w rest fits f in
          ber.spelled_shows_nothing d (g.0 ++ []) g.0 [] (node c p t x) e refl (ber_spells c l p d t i w rest x fs g f k) (ber_shows c l p d t i w rest e g f r)
      none Der f k r =
          let s = der_size l p d i w rest f in
          der.spelled_shows_nothing d (element c p t w ++ []) (element c p t w) [] (node c p t x) e refl (der_spells c p t d w x fits s k) (der_shows c p t d w e fits f.deep s r)

  content_refusal_same : (w rest : List ℕ) (e e' : Refusal) → FramesContent rules l p d i w rest → ContentRefusesBy rules c p t w d e → ContentRefusesBy rules c p t w d e' → e ≡ e'
  content_refusal_same w rest e e' f r r' = same rules f r r'
    where
      same : (rules : Rules) → FramesContent rules l p d i w rest → ContentRefusesBy rules c p t w d e → ContentRefusesBy rules c p t w d e' → e ≡ e'
      same Ber f r r' = (let g = fronted c l p d t i w rest fits f in ber.shows_one d (g.0 ++ []) e e' (ber_shows c l p d t i w rest e g f r) (ber_shows c l p d t i w rest e' g f r'))
      same Der f r r' = (let s = der_size l p d i w rest f in der.shows_one d (element c p t w ++ []) e e' (der_shows c p t d w e fits f.deep s r) (der_shows c p t d w e' fits f.deep s r'))

  content_same : (v v' : Content × List ℕ) → SpellsContent rules c t l p d i v → SpellsContent rules c t l p d i v' → v ≡ v'
  content_same (x, rest) (x', rest') (w, fs, f, k) (w', fs', f', k') =
      let q = frames_same rules l p d i w w' rest rest' f f' in
      ap (λ y. (y, rest)) (value_same w rest x x' fs fs' f k (subst (λ v. IsContentBy rules c t l p d v x' fs') (sym q.0) k')) ∙ ap (λ v. (x', v)) q.1

  content_not_refused : (v : Content × List ℕ) (e : Refusal) → SpellsContent rules c t l p d i v → ReadingRefuses rules c t l p d i e → ⊥
  content_not_refused (x, rest) e (w, fs, f, k) (inl r) = frames_not_refused rules l p d i w rest e f r
  content_not_refused (x, rest) e (w, fs, f, k) (inr (w', rest', f', r)) =
      value_not_refused w rest x fs e f k (subst (λ v. ContentRefusesBy rules c p t v d e) (sym (frames_same rules l p d i w w' rest rest' f f').0) r)

  refusal_same : (e e' : Refusal) → ReadingRefuses rules c t l p d i e → ReadingRefuses rules c t l p d i e' → e ≡ e'
  refusal_same e e' (inl r) (inl r') = frame_refusal_same rules l p d i e e' r r'
  refusal_same e e' (inl r) (inr (w', rest', f', r')) = absurd (frames_not_refused rules l p d i w' rest' e f' r)
  refusal_same e e' (inr (w, rest, f, r)) (inl r') = absurd (frames_not_refused rules l p d i w rest e' f r')
  refusal_same e e' (inr (w, rest, f, r)) (inr (w', rest', f', r')) =
      content_refusal_same w rest e e' f r (subst (λ v. ContentRefusesBy rules c p t v d e') (sym (frames_same rules l p d i w w' rest rest' f f').0) r')

  refused_not_lacking : (e : Refusal) (n : ℕ) → ReadingRefuses rules c t l p d i e → FrameLacks rules c l p d i n → ⊥
  refused_not_lacking e n (inl r) k = frame_refused_not_lacking rules c l p d i e n r k
  refused_not_lacking e n (inr (w, rest, f, r)) k = frames_not_lacking rules c l p d i w rest n f k

  -- of a content, a refusal and a lack, an input shows one at most
  pub content_one : ShowsOne (λ v. v) (SpellsContent rules c t l p d i) (SpellsContent rules c t l p d i) (ReadingRefuses rules c t l p d i) (FrameLacks rules c l p d i)
  content_one = record {
    spelled = λ v s. s;
    one_value = content_same;
    one_refusal = refusal_same;
    one_lack = frame_lacks_same rules c l p d i;
    not_refused = content_not_refused;
    not_lacking = λ v n s h. frames_not_lacking rules c l p d i s.0 v.1 n s.2 h;
    not_both = refused_not_lacking;
  }

-- octets that are cut short are no whole list: they need memory for what framing keeps alone
pub cut_content_needs : (rules : Rules) (c : Class) (t : ℕ) (l : Length) (p : Bool) (d : ℕ) (i : List ℕ) (n : ℕ) → FrameLacks rules c l p d i n → ReadingNeedsMemory rules c t l p d i → FramingNeedsMemory rules l p d
cut_content_needs rules c t l p d i n k (inl (two, u, list, q, w, rest, some, f)) = absurd (frames_not_lacking rules c l p d i w rest n f k)
cut_content_needs rules c t l p d i n k (inr m) = m

-- the same of what is read, after the parts of a header
pub content_shows_one : (rules : Rules) (t : ℕ) (l : Length) (p : Bool) (d : ℕ) (i : List ℕ) → t < 2 ^ 32
    → ShowsOne content_value_of (λ x. ReadsContentAs rules t l p d i x.1 x.0.now) (SpellsContent rules Universal t l p d i) (ReadingRefuses rules Universal t l p d i) (FrameLacks rules Universal l p d i)
content_shows_one rules t l p d i fits = shows_read (content_one rules Universal t l p d i fits) (λ v s. s) (λ x r. (r.read.octets, inner_forms x.1, r.read.framed, r.read.content))

-- and after a header that is given
pub content_of_shows_one : (rules : Rules) (h : Header) (d : ℕ) (i : List ℕ) → number_of h < 2 ^ 32
    → ShowsOne inner_value_of (λ x. ReadsContentOf rules h d i x.1 x.0.now) (SpellsContent rules (class_of h) (number_of h) (length_of h) (is_constructed h) d i)
    (ReadingRefuses rules (class_of h) (number_of h) (length_of h) (is_constructed h) d i) (FrameLacks rules (class_of h) (length_of h) (is_constructed h) d i)
content_of_shows_one rules h d i fits =
    shows_read (content_one rules (class_of h) (number_of h) (length_of h) (is_constructed h) d i fits) (λ v s. s) (λ x r. (r.read.octets, inner_forms x.1.content, r.read.framed, r.read.content))

-- an element that was read before

module _ (a : Any) (fits : number_of a.header < 2 ^ 32) where
  octets : ShowsOne (λ v. v) (SpellsContent Ber Universal (number_of a.header) (length_of_octets a) (is_constructed a.header) 50 a.bytes.now)
      (SpellsContent Ber Universal (number_of a.header) (length_of_octets a) (is_constructed a.header) 50 a.bytes.now) (ObjectOfRefuses a)
      (FrameLacks Ber Universal (length_of_octets a) (is_constructed a.header) 50 a.bytes.now)
  octets = content_one Ber Universal (number_of a.header) (length_of_octets a) (is_constructed a.header) 50 a.bytes.now fits

  object_spelled : (o : BerObject) → ReadsObjectOf a o → SpellsObjectOf a (tree o)
  object_spelled o r = let k = r.content.read in (ap class_of r.header, ap is_constructed r.header, ap number_of r.header, (k.octets, inner_forms o.content, k.framed, k.content))

  object_same : (v v' : Node) → SpellsObjectOf a v → SpellsObjectOf a v' → v ≡ v'
  object_same (node c p t x) (node c' p' t' x') (ec, ep, et, s) (ec', ep', et', s') =
      ap (λ z. node z p t x) (ec ∙ sym ec') ∙ ap (λ z. node c' z t x) (ep ∙ sym ep') ∙ ap (λ z. node c' p' z x) (et ∙ sym et')
      ∙ ap (λ z. node c' p' t' z.0) (octets.one_value (x, []) (x', []) s s')

  object_not_refused : (v : Node) (e : Refusal) → SpellsObjectOf a v → ObjectOfRefuses a e → ⊥
  object_not_refused (node c p t x) e (ec, ep, et, s) r = octets.not_refused (x, []) e s r

  -- of an object and a refusal, the octets show one at most
  pub object_shows_one : ShowsOne tree (ReadsObjectOf a) (SpellsObjectOf a) (ObjectOfRefuses a) (λ _. ⊥)
  object_shows_one = record {
    spelled = object_spelled;
    one_value = λ o v r s. object_same (tree o) v (object_spelled o r) s;
    one_refusal = octets.one_refusal;
    one_lack = λ n n' h h'. absurd h;
    not_refused = object_not_refused;
    not_lacking = λ v n s h. h;
    not_both = λ e n r h. h;
  }
