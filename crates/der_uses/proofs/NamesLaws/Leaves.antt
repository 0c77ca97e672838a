-- The type and the value of an attribute: elements whose content is read.
use Rattle.std.proofs.Common.{◌≡◌, ◌≢◌, ℕ, ◌≤◌, Bool, false, List, ◌++◌, length, Option, Some, None, Ok, Err, Bor, IfOk, MatchResult, refl, sym, ap, subst, ◌∙◌, arith, lit≤, inl, inr}
use Rattle.der_parser.specs.declared.error.Err.{Err as Refused}
use Rattle.der_parser.specs.declared.error.Err.TheVariants.{Incomplete, Error, Failure, OutOfMemory}
use Rattle.der_parser.specs.declared.error.Error.{Error as BerError}
use Rattle.der_parser.specs.declared.error.Needed.TheVariants.{Unknown, Size}
use Rattle.der_parser.specs.declared.ber.Class.{Class}
use Rattle.der_parser.specs.declared.ber.Class.TheVariants.{Universal}
use Rattle.der_parser.specs.declared.ber.Header.{Header}
use Rattle.der_parser.specs.declared.ber.Length.TheVariants.{Definite}
use Rattle.der_parser.specs.declared.Rules.TheVariants.{Der}
use Rattle.der_parser.specs.declared.oid.Oid.{Oid}
use Rattle.der_parser.specs.declared.ber.BerObject.{BerObject}
use Rattle.der_parser.specs.Answer.{AnswersOkOr}
use Rattle.der_parser.specs.Encoding.{content_octets}
use Rattle.der_parser.specs.Header.{class_of, is_constructed, number_of}
use Rattle.der_parser.specs.Headers.{AnswersDerHeader, BeginsWithDerHeader, LeadingHeader, leading_header}
use Rattle.der_parser.specs.Oids.{is_relative_of, octets_of}
use Rattle.der_parser.specs.Parts.{AnswersPartOr, identifier_part}
use Rattle.der_parser.specs.Readings.{Answer, value_of}
use Rattle.der_parser.specs.Spelling.{DerSpells, IsDerContent, max_object_size, no_forms}
use Rattle.der_parser.specs.Tree.{Node, node, Content, string, object_identifier, relative_oid}
use Rattle.der_parser.specs.DerReading.{IsDerContentOf}
use Rattle.der_parser.specs.TypedReading.{AnswersLeaf, FramesContent, ReadsTyped, SpellsTyped}
use Rattle.der_parser.specs.View.{content_tree, tree}
use Rattle.der_parser.proofs.DerHeaders.{der_header_same}
use Rattle.der_uses.specs.Names.Names.{AnswersSpelled, BeginsWith, Identifier, SpellsIdentifier, SpellsString}
use Rattle.der_uses.specs.Names.Views.{identifier_of}
use Rattle.der_uses.proofs.NamesLaws.Contents.{IsStringNumber, string_content, which}
use Rattle.der_uses.proofs.NamesLaws.Elements.{element_of, header_of}

-- a reader that has its value in front of it may only lack memory
pub no_memory : {T : Type 0} (M : Type 0) (P : T → Type 0) (e : Refused BerError) → AnswersOkOr M (Err e) P → e ≡ OutOfMemory
no_memory M P (Error e) h = absurd h
no_memory M P (Incomplete (Size n)) h = absurd h
no_memory M P (Incomplete Unknown) h = absurd h
no_memory M P (Failure e) h = absurd h
no_memory M P OutOfMemory h = refl

-- what an object of the number t stands in
typed_element : (t : ℕ) (i : List ℕ) (o : BerObject) (rest : List ℕ) → ReadsTyped Der t i o rest
    → (w : List ℕ) × BeginsWithDerHeader i (class_of o.header) (is_constructed o.header) t (length w) (w ++ rest) × (length w ≤ max_object_size)
    × IsDerContentOf w Universal (is_constructed o.header) t (content_tree o.content) 50
typed_element t i o rest r =
    let h = r.header in
    let x = r.content.read in
    let f = subst (λ l. FramesContent Der l (is_constructed o.header) 50 r.behind x.octets rest) h.length x.framed in
    let n : h.size ≡ length x.octets = sym f.begins.0 in
    let begins = subst (λ k. BeginsWithDerHeader i (class_of o.header) (is_constructed o.header) k h.size r.behind) r.number h.begins in
    let sized = subst (λ k. BeginsWithDerHeader i (class_of o.header) (is_constructed o.header) t k r.behind) n begins in
    (x.octets, subst (λ v. BeginsWithDerHeader i (class_of o.header) (is_constructed o.header) t (length x.octets) v) f.begins.1 sized, omega (arith, f.passes, n), x.content)

-- an element of a content, in front of an input
typed_spelled : (i b w rest : List ℕ) (c : Class) (p : Bool) (t : ℕ) (x : Content) → i ≡ b ++ rest → BeginsWithDerHeader b c p t (length w) w → length w ≤ max_object_size
    → IsDerContentOf w Universal p t x 50 → SpellsTyped Der t i (node c p t x, rest)
typed_spelled i b w rest c p t x j h l content =
    (refl, Definite (length w), w ++ rest, (length w, refl, header_of i b w rest c p t j h), (w, no_forms, record { deep = lit≤ tt; passes = l; begins = (refl, refl) }, content))

some_same : (x y : Bool × List ℕ) → Some x ≡ Some y → x ≡ y
some_same x y e = cc

abbrev content_at : Node → Content
content_at (node c p t x) = x

-- the content of an object identifier
identifier_content : (p r : Bool) (x : Content) (w : List ℕ) → IsDerContent Universal p 6 x → identifier_part x ≡ Some (r, w) → (p ≡ false) × (content_octets x ≡ w) × (r ≡ false)
identifier_content p r (object_identifier r' w') w (inl (c, e, l)) q = let z = some_same (r', w') (r, w) q in (e, ap (λ x. x.1) z, sym (ap (λ x. x.0) z) ∙ l.0.2)
identifier_content p r (object_identifier r' w') w (inr k) q = absurd k
identifier_content p r (relative_oid r' w') w (inl (c, e, l)) q = absurd (omega (arith, l.0.0))
identifier_content p r (relative_oid r' w') w (inr k) q = absurd k
identifier_content p r _ w h q = cc

identifier_found : (i : List ℕ) (o : BerObject) (rest : List ℕ) (r : Bool) (v : List ℕ) → ReadsTyped Der 6 i o rest → identifier_part (content_tree o.content) ≡ Some (r, v) → BeginsWith SpellsIdentifier i (r, v) rest
identifier_found i o rest r v read q =
    let (w, begins, l, content) = typed_element 6 i o rest read in
    let (e, k, absolute) = identifier_content (is_constructed o.header) r (content_tree o.content) v content.valid q in
    let (b, j, h) = element_of i w rest (class_of o.header) (is_constructed o.header) 6 begins in
    let s : w ≡ v = content.octets ∙ k in
    (b, j, subst (λ w. SpellsIdentifier b (r, w)) s (absolute, class_of o.header, subst (λ p. BeginsWithDerHeader b (class_of o.header) p 6 (length w) w) e h, l))

identifier_only : (i : List ℕ) (x : Identifier) (rest : List ℕ) → BeginsWith SpellsIdentifier i x rest → (c : Class) × SpellsTyped Der 6 i (node c false 6 (object_identifier false x.1), rest)
identifier_only i x rest (b, j, (q, c, h, l)) =
    (c, typed_spelled i b x.1 rest c false 6 (object_identifier false x.1) j h l (record { octets = refl; valid = inl (refl, refl, ((refl, refl, refl, refl), tt)); depth = lit≤ tt }))

-- what the accessor answers
module _ (M : Type 0) where
  part_told : (m : Option (Bool × List ℕ)) (x : Oid) → AnswersPartOr M (λ x. (is_relative_of x, octets_of x)) m (Ok x) → m ≡ Some (is_relative_of x, octets_of x)
  part_told (Some v) x h = ap Some (sym h)
  part_told None x h = absurd h

  part_refused : (m : Option (Bool × List ℕ)) (e : Refused BerError) (v : Bool × List ℕ) → AnswersPartOr M (λ x. (is_relative_of x, octets_of x)) m (Err e) → m ≡ Some v → e ≡ OutOfMemory
  part_refused (Some u) e v h q = no_memory M (λ x. (is_relative_of x, octets_of x) ≡ u) e h
  part_refused None e v h q = cc

  -- of an object identifier that is spelled
  part_spelled : (i : List ℕ) (o : BerObject) (left : Bor (List ℕ)) (w : Identifier) (rest : List ℕ) → AnswersLeaf Der 6 i (Ok (left, o)) → BeginsWith SpellsIdentifier i w rest
      → (identifier_part (content_tree o.content) ≡ Some w) × (left.now ≡ rest)
  part_spelled i o left w rest a s =
      let (c, spelled) = identifier_only i w rest s in
      let q : (tree o, left.now) ≡ (node c false 6 (object_identifier false w.1), rest) = a.only (node c false 6 (object_identifier false w.1), rest) spelled in
      (ap (λ x. identifier_part (content_at x.0)) q ∙ ap (λ r. Some (r, w.1)) (sym s.2.0), ap (λ x. x.1) q)

  pub type_read : (i : List ℕ) (o : BerObject) (left : Bor (List ℕ)) (x : Oid) → AnswersLeaf Der 6 i (Ok (left, o))
      → AnswersPartOr M (λ x. (is_relative_of x, octets_of x)) (identifier_part (content_tree o.content)) (Ok x) → AnswersSpelled SpellsIdentifier identifier_of i (Ok (left, x))
  type_read i o left x a p =
      let told = part_told (identifier_part (content_tree o.content)) x p in
      record {
        found = identifier_found i o left.now (is_relative_of x) (octets_of x) a.found told;
        only = λ w rest s. let (q, e) = part_spelled i o left w rest a s in (some_same (is_relative_of x, octets_of x) w (sym told ∙ q), e);
      }

  pub type_wants_memory : (i : List ℕ) (o : BerObject) (left : Bor (List ℕ)) (e : Refused BerError) → AnswersLeaf Der 6 i (Ok (left, o))
      → AnswersPartOr M (λ x. (is_relative_of x, octets_of x)) (identifier_part (content_tree o.content)) (Err e) → AnswersSpelled {T = Oid} SpellsIdentifier identifier_of i (Err e)
  type_wants_memory i o left e a p = record { found = tt; only = λ w rest s. part_refused (identifier_part (content_tree o.content)) e w p (part_spelled i o left w rest a s).0 }

pub type_refused : (i : List ℕ) (e : Refused BerError) → AnswersLeaf Der 6 i (Err e) → AnswersSpelled {T = Oid} SpellsIdentifier identifier_of i (Err e)
type_refused i e a = record { found = tt; only = λ w rest s. let (c, spelled) = identifier_only i w rest s in no_memory ⊥ (λ x. value_of x ≡ (node c false 6 (object_identifier false w.1), rest)) e (a.only (node c false 6 (object_identifier false w.1), rest) spelled) }

node_is : (c : Class) (p : Bool) (t : ℕ) (x : Content) (k : ℕ) (s : List ℕ) → c ≡ Universal → p ≡ false → t ≡ k → x ≡ string k s → node c p t x ≡ node Universal false k (string k s)
node_is c p t x k s ec ep et ex = rw (ec, ep, et, ex) refl

string_found : (k : ℕ) (i : List ℕ) (o : BerObject) (rest : List ℕ) → IsStringNumber k → class_of o.header ≡ Universal → ReadsTyped Der k i o rest → BeginsWith SpellsString i (tree o) rest
string_found k i o rest h c r =
    let (w, begins, l, content) = typed_element k i o rest r in
    let (s, x, p) = string_content k (is_constructed o.header) (content_tree o.content) h content.valid in
    let t : tree o ≡ node Universal false k (string k s) = node_is (class_of o.header) (is_constructed o.header) (number_of o.header) (content_tree o.content) k s c p r.number x in
    let q : w ≡ s = content.octets ∙ ap content_octets x in
    let universal : BeginsWithDerHeader i Universal false k (length s) (s ++ rest) = subst (λ w. BeginsWithDerHeader i Universal false k (length w) (w ++ rest)) q (subst (λ p. BeginsWithDerHeader i Universal p k (length w) (w ++ rest)) p (subst (λ c. BeginsWithDerHeader i c (is_constructed o.header) k (length w) (w ++ rest)) c begins)) in
    let (b, j, e) = element_of i s rest Universal false k universal in
    let valid : IsDerContent Universal false k (string k s) = subst (λ x. IsDerContent Universal false k x) x (subst (λ p. IsDerContent Universal p k (content_tree o.content)) p content.valid) in
    let size : length s ≤ max_object_size = subst (λ w. length w ≤ max_object_size) q l in
    let spells : DerSpells b (node Universal false k (string k s)) 1 = record { encoded = e.octets; valid = (e.number, valid); depth = lit≤ tt; size = size } in
    (b, j, (k, s, h, t, subst (λ n. DerSpells b n 1) (sym t) spells))

-- a string that is spelled, by the number and the tree
string_only : (i : List ℕ) (o : Node) (rest : List ℕ) → BeginsWith SpellsString i o rest
    → (k : ℕ) × (s : List ℕ) × IsStringNumber k × BeginsWithDerHeader i Universal false k (length s) (s ++ rest) × SpellsTyped Der k i (o, rest)
string_only i o rest (b, j, (k, s, h, q, d)) =
    let d' : DerSpells b (node Universal false k (string k s)) 1 = subst (λ n. DerSpells b n 1) q d in
    let e : BeginsWithDerHeader b Universal false k (length s) s = record { octets = d'.encoded; number = d'.valid.0; length = omega (arith, d'.size) } in
    (k, s, h, header_of i b s rest Universal false k j e, rw q (typed_spelled i b s rest Universal false k (string k s) j e d'.size (record { octets = refl; valid = d'.valid.1; depth = lit≤ tt })))

-- the header of a string is read
pub string_header : (i : List ℕ) (o : Node) (rest : List ℕ) (left : Bor (List ℕ)) (h : Header) → AnswersDerHeader i (Ok (left, h)) → BeginsWith SpellsString i o rest
    → (class_of h ≡ Universal) × IsStringNumber (number_of h) × SpellsTyped Der (number_of h) i (o, rest)
string_header i o rest left h a s =
    let (k, w, n, begins, spelled) = string_only i o rest s in
    let same = der_header_same i left.now (w ++ rest) _ _ _ _ _ _ a.found.size (length w) a.found.begins begins in
    (same.class, subst (λ t. IsStringNumber t) (sym same.number) n, subst (λ t. SpellsTyped Der t i (o, rest)) (sym same.number) spelled)

pub header_refused : (i : List ℕ) (e : Refused BerError) → AnswersDerHeader i (Err e) → AnswersSpelled {T = BerObject} SpellsString tree i (Err e)
header_refused i e a = record {
  found = tt;
  only = λ o rest s.
      let (k, w, n, begins, spelled) = string_only i o rest s in
      let v : LeadingHeader = record { class = Universal; constructed = false; number = k; length = Definite (length w); rest = w ++ rest } in
      no_memory ⊥ (λ x. leading_header x ≡ v) e (a.only v (length w, refl, begins));
}

-- another element is no string
pub no_string : (i : List ℕ) (left : Bor (List ℕ)) (h : Header) (e : Refused BerError) → AnswersDerHeader i (Ok (left, h)) → (class_of h ≡ Universal → IsStringNumber (number_of h) → ⊥)
    → AnswersSpelled {T = BerObject} SpellsString tree i (Err e)
no_string i left h e a n = record { found = tt; only = λ o rest s. let x = string_header i o rest left h a s in absurd (n x.0 x.1) }

value_found : (i : List ℕ) (left : Bor (List ℕ)) (h : Header) (k : ℕ) (r : Answer) → AnswersDerHeader i (Ok (left, h)) → class_of h ≡ Universal → IsStringNumber k → AnswersLeaf Der k i r
    → IfOk r (λ x. BeginsWith SpellsString i (tree x.1) x.0.now)
value_found i left h k (Ok (rest, o)) a c n t =
    let read = t.found.header in
    let same = der_header_same i t.found.behind left.now _ _ _ _ _ _ read.size a.found.size read.begins a.found.begins in
    string_found k i o rest.now n (same.class ∙ c) t.found
value_found i left h k (Err e) a c n t = tt

value_only : (i : List ℕ) (left : Bor (List ℕ)) (h : Header) (k : ℕ) (r : Answer) → AnswersDerHeader i (Ok (left, h)) → number_of h ≡ k → AnswersLeaf Der k i r
    → (o : Node) (rest : List ℕ) → BeginsWith SpellsString i o rest → MatchResult r (λ x. (tree x.1 ≡ o) × (x.0.now ≡ rest)) (λ e. e ≡ OutOfMemory)
value_only i left h k (Ok (behind, x)) a q t o rest s =
    let spelled = subst (λ n. SpellsTyped Der n i (o, rest)) q (string_header i o rest left h a s).2 in
    let e : (tree x, behind.now) ≡ (o, rest) = t.only (o, rest) spelled in
    (ap (λ v. v.0) e, ap (λ v. v.1) e)
value_only i left h k (Err e) a q t o rest s =
    let spelled = subst (λ n. SpellsTyped Der n i (o, rest)) q (string_header i o rest left h a s).2 in
    no_memory ⊥ (λ x. value_of x ≡ (o, rest)) e (t.only (o, rest) spelled)

-- a string of the number is read
pub value_read : (i : List ℕ) (left : Bor (List ℕ)) (h : Header) (k : ℕ) (r : Answer) → AnswersDerHeader i (Ok (left, h)) → class_of h ≡ Universal → number_of h ≡ k → IsStringNumber k
    → AnswersLeaf Der k i r → AnswersSpelled SpellsString tree i r
value_read i left h k r a c q n t = record { found = value_found i left h k r a c n t; only = value_only i left h k r a q t }

-- a number that is none of the three is no string's
pub no_string_number : (k : ℕ) → k ≢ 12 → k ≢ 19 → k ≢ 22 → IsStringNumber k → ⊥
no_string_number k a b c h = elim (which k h) [ inl q ↦ a q | inr (inl q) ↦ b q | inr (inr q) ↦ c q ]
