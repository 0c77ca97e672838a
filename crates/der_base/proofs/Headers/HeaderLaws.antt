-- A header at the start of the input, a refusal that the input shows, and the end of the input within a header: at most
-- one of them holds, and each in one way. All of it follows from the same laws of length octets, those of BER or of DER.
use Rattle.std.proofs.Common.{◌≡◌, ◌≢◌, ℕ, ◌^◌, ◌<◌, Bool, Some, List, [], ◌∷◌, ◌++◌, length, refl, sym, ap, subst, ◌∙◌, arith, append_assoc, inl, inr, ⊎_elim, ◌⊎◌, append-nil, Err}
use Rattle.der_base.specs.declared.error.Err.{Err as Refused}
use Rattle.der_base.specs.declared.error.Error.{Error as BerError}
use Rattle.der_base.specs.declared.header.Class.{Class}
use Rattle.der_base.specs.declared.header.Header.{Header}
use Rattle.der_base.specs.declared.header.Length.{Length}
use Rattle.der_base.specs.declared.identifier.Identifier.{Identifier}
use Rattle.der_base.specs.Answer.{MatchAnswer}
use Rattle.der_base.specs.Cut.{Lacks, in_identifier as lacks_in_identifier, in_length as lacks_in_length}
use Rattle.der_base.specs.Fault.{HasBadTag, HasIdentifier}
use Rattle.der_base.specs.Header.{IsHeader, class_of, is_constructed, number_of, length_of, raw_tag_of}
use Rattle.der_base.specs.Headers.{HeaderLacks, in_identifier, in_length, IsHeaderShape, IsHeaderCut}
use Rattle.der_base.specs.Inner.Identifier.{ReadsIdentifier, IsCutIdentifier}
use Rattle.der_base.specs.LengthOctets.{LengthLacks, before_length, in_length as in_length_octets}
use Rattle.der_base.specs.Octets.{identifier}
use Rattle.der_base.specs.Refusal.{Refusal, invalid_tag}
use Rattle.der_base.proofs.Answers.Answering.{passed_on}
use Rattle.der_base.proofs.Framing.Cuts.{lacks_same}
use Rattle.der_base.proofs.Octets.TagNumbers.{bad_tag_no_identifier, cut_no_identifier}
use Rattle.der_base.proofs.Octets.LengthOctets.{lacks_then_length, length_front_lacks}
use Rattle.der_base.proofs.Octets.Identifiers.{head_same, identifier_same}

-- what follows an identifier that two readings of the input name
behind : (i s s' : List ℕ) (c c' : Class) (p p' : Bool) (t t' : ℕ) → i ≡ identifier c p t ++ s → i ≡ identifier c' p' t' ++ s' → s ≡ s'
behind i s s' c c' p p' t t' e e' = (identifier_same c c' p p' t t' s s' (sym e ∙ e')).3

-- an identifier that is whole is no proper front of one
whole_identifier : (i s r : List ℕ) (c c' : Class) (p p' : Bool) (t t' : ℕ) → i ≡ identifier c p t ++ s → i ++ r ≡ identifier c' p' t' → s ≡ []
whole_identifier i s r c c' p p' t t' e d =
    let q = identifier_same c c' p p' t t' (s ++ r) [] (sym (append_assoc (identifier c p t) s r) ∙ ap (λ l. l ++ r) (sym e) ∙ d ∙ sym (append-nil (identifier c' p' t'))) in
    empty s r q.3
  where
    empty : (s r : List ℕ) → s ++ r ≡ [] → s ≡ []
    empty [] r z = refl
    empty (b ∷ s) r z = cc

-- what is lacking behind a whole identifier is lacking in the length
pub lacks_length : {i : List ℕ} {m : ℕ} → HeaderLacks i m → (s : List ℕ) (c : Class) (p : Bool) (t : ℕ) → i ≡ identifier c p t ++ s → LengthLacks s m
lacks_length (in_identifier {i = i} c' p' t' r d) s c p t e = before_length (whole_identifier i s r c c' p p' t t' e d) refl
lacks_length (in_length {i = i} c' p' t' b bs h h1 hb d) s c p t e = in_length_octets b bs h h1 hb (behind i s (b ∷ bs) c c' p p' t t' e d)

header_lacks : {i : List ℕ} {m : ℕ} → HeaderLacks i m → Lacks i m
header_lacks (in_identifier c p t r e) = lacks_in_identifier c p t r e
header_lacks (in_length c p t b bs h h1 hb e) = lacks_in_length c p t b bs h h1 hb e

pub header_lacks_same : (i : List ℕ) (m m' : ℕ) → HeaderLacks i m → HeaderLacks i m' → m ≡ m'
header_lacks_same i m m' h k = lacks_same (header_lacks h) (header_lacks k) refl

-- What lacks octets of a header is a proper front of one, and the other way round.
lacks_is_cut : {i : List ℕ} {n : ℕ} → HeaderLacks i n → IsHeaderCut i
lacks_is_cut (in_identifier {i = i} c p t r d) = (r ++ 0 ∷ [], some r, (c, p, t, 0 ∷ [], sym (append_assoc i r (0 ∷ [])) ∙ ap (λ l. l ++ 0 ∷ []) d, inl (0, inl (omega arith, refl, refl))))
  where
    some : (r : List ℕ) → r ++ 0 ∷ [] ≢ []
    some [] e = cc
    some (b ∷ r) e = cc
lacks_is_cut (in_length {i = i} {n = n} c p t b bs h h1 hb d) =
    let q = lacks_then_length (b ∷ bs) n (in_length_octets b bs h h1 hb refl) in
    (q.0, (λ e. omega (arith, h1, q.1, ap (λ l. length l) e)), (c, p, t, (b ∷ bs) ++ q.0, ap (λ l. l ++ q.0) d ∙ append_assoc (identifier c p t) (b ∷ bs) q.0, q.2))

-- of two fronts of a list the first ends within the second, or goes on behind it
abbrev pub Fronts : List ℕ → List ℕ → List ℕ → List ℕ → Type 0
Fronts a b x y = ((r : List ℕ) × (r ≢ []) × (a ++ r ≡ b)) ⊎ ((r : List ℕ) × (a ≡ b ++ r) × (r ++ x ≡ y))

pub fronts : (a b x y : List ℕ) → a ++ x ≡ b ++ y → Fronts a b x y
fronts [] [] x y e = inr ([], refl, e)
fronts [] (m ∷ b) x y e = inl (m ∷ b, (λ z. cc), refl)
fronts (k ∷ a) [] x y e = inr (k ∷ a, refl, e)
fronts (k ∷ a) (m ∷ b) x y e =
    let q = head_same e in
    elim (fronts a b x y q.1) [
      | inl (r, n, z) ↦ inl (r, n, ap (λ l. k ∷ l) z ∙ ap (λ h. h ∷ b) q.0)
      | inr (r, z, w) ↦ inr (r, ap (λ l. k ∷ l) z ∙ ap (λ h. h ∷ (b ++ r)) q.0, w)
    ]

lacks_behind : (i x : List ℕ) (c : Class) (p : Bool) (t n : ℕ) → i ≡ identifier c p t ++ x → LengthLacks x n → HeaderLacks i n
lacks_behind i x c p t n e (before_length z o) = rw o (in_identifier c p t [] (append-nil i ∙ e ∙ ap (λ l. identifier c p t ++ l) z ∙ append-nil (identifier c p t)))
lacks_behind i x c p t n e (in_length_octets b bs h h1 hb z) = in_length c p t b bs h h1 hb (e ∙ ap (λ l. identifier c p t ++ l) z)

pub cut_lacks : (i : List ℕ) → IsHeaderCut i → (n : ℕ) × HeaderLacks i n
cut_lacks i (r, some, (c, p, t, s, d, l)) =
    ⊎_elim
    (λ z. (1, in_identifier c p t z.0 z.2))
    (λ z. behind_identifier z.0 z.1 z.2)
    (fronts i (identifier c p t) r s d)
  where
    behind_identifier : (x : List ℕ) → i ≡ identifier c p t ++ x → x ++ r ≡ s → (n : ℕ) × HeaderLacks i n
    behind_identifier x e f = let q = length_front_lacks x r some (rw f l) in (q.0, lacks_behind i x c p t q.0 e q.1)

-- a front of a header and of what follows it ends within the header, or behind it
pub header_or_behind : (i r a v : List ℕ) → r ≢ [] → IsHeaderShape a → i ++ r ≡ a ++ v → ((n : ℕ) × HeaderLacks i n) ⊎ ((y : List ℕ) × (i ≡ a ++ y) × (y ++ r ≡ v))
header_or_behind i r a v some h e = elim (fronts i a r v e) [
  | inl (m, n, z) ↦ inl (cut_lacks i (m, n, subst IsHeaderShape (sym z) h))
  | inr w ↦ inr w
]

-- the laws of length octets behind an identifier that is constructed or not
pub record LengthLaws {L : Type 0} (Begins : Bool → List ℕ → L → List ℕ → Type 0) (Refuses : Bool → List ℕ → Refusal → Type 0) : Type 0 where
  pub same : (p : Bool) (s : List ℕ) (l l' : L) (r r' : List ℕ) → Begins p s l r → Begins p s l' r' → (l ≡ l') × (r ≡ r')
  pub not_refused : (p : Bool) (s : List ℕ) (l : L) (r : List ℕ) (e : Refusal) → Begins p s l r → Refuses p s e → ⊥
  pub not_lacking : (p : Bool) (s : List ℕ) (l : L) (r : List ℕ) (m : ℕ) → Begins p s l r → LengthLacks s m → ⊥
  pub refused_not_lacking : (p : Bool) (s : List ℕ) (e : Refusal) (m : ℕ) → Refuses p s e → LengthLacks s m → ⊥
  pub refusal_same : (p : Bool) (s : List ℕ) (e e' : Refusal) → Refuses p s e → Refuses p s e' → e ≡ e'

-- two headers in front of one input are the same
pub record SameHeader {L : Type 0} (c c' : Class) (p p' : Bool) (t t' : ℕ) (l l' : L) (r r' : List ℕ) : Type 0 where
  pub class : c ≡ c'
  pub constructed : p ≡ p'
  pub number : t ≡ t'
  pub length : l ≡ l'
  pub rest : r ≡ r'

-- i begins with an identifier and a length, and rest follows
pub record Reads {L : Type 0} (Begins : Bool → List ℕ → L → List ℕ → Type 0) (i : List ℕ) (c : Class) (p : Bool) (t : ℕ) (l : L) (rest : List ℕ) : Type 0 where
  pub number : t < 2 ^ 32
  pub following : List ℕ
  pub octets : i ≡ identifier c p t ++ following
  pub length : Begins p following l rest

-- the refusals of an identifier, and of a length behind one
abbrev pub Shows : (Bool → List ℕ → Refusal → Type 0) → List ℕ → Refusal → Type 0
Shows Refuses i e = (HasBadTag i × (e ≡ invalid_tag)) ⊎ ((p : Bool) × (s : List ℕ) × HasIdentifier i p s × Refuses p s e)

-- i is cut short within a header, lacks n octets, and shows no refusal
abbrev pub Cut : (Bool → List ℕ → Refusal → Type 0) → List ℕ → ℕ → Type 0
Cut Refuses i n = IsHeaderCut i × HeaderLacks i n × ((e : Refusal) → ¬ Shows Refuses i e)

module _ {L : Type 0} {Begins : Bool → List ℕ → L → List ℕ → Type 0} {Refuses : Bool → List ℕ → Refusal → Type 0} (laws : LengthLaws Begins Refuses) where
  pub header_same : (i rest rest' : List ℕ) (c c' : Class) (p p' : Bool) (t t' : ℕ) (l l' : L) → Reads Begins i c p t l rest → Reads Begins i c' p' t' l' rest'
      → SameHeader c c' p p' t t' l l' rest rest'
  header_same i rest rest' c c' p p' t t' l l' h k =
      let q = identifier_same c c' p p' t t' h.following k.following (sym h.octets ∙ k.octets) in
      let b : Begins p h.following l' rest' = rw (q.1, q.3) k.length in
      let s = laws.same p h.following l l' rest rest' h.length b in
      record { class = q.0; constructed = q.1; number = q.2; length = s.0; rest = s.1 }

  pub header_not_refused : (i rest : List ℕ) (c : Class) (p : Bool) (t : ℕ) (l : L) (e : Refusal) → Reads Begins i c p t l rest → Shows Refuses i e → ⊥
  header_not_refused i rest c p t l e h (inl b) = bad_tag_no_identifier i c p t h.following h.number h.octets b.0
  header_not_refused i rest c p t l e h (inr (p', s, (c', t', ht, d), r)) =
      let q = identifier_same c' c p' p t' t s h.following (sym d ∙ h.octets) in
      laws.not_refused p h.following l rest e h.length (rw (← q.1, ← q.3) r)

  pub header_not_lacking : (i rest : List ℕ) (c : Class) (p : Bool) (t : ℕ) (l : L) (m : ℕ) → Reads Begins i c p t l rest → HeaderLacks i m → ⊥
  header_not_lacking i rest c p t l m h k = laws.not_lacking p h.following l rest m h.length (lacks_length k h.following c p t h.octets)

  pub refusal_same : (i : List ℕ) (e e' : Refusal) → Shows Refuses i e → Shows Refuses i e' → e ≡ e'
  refusal_same i e e' (inl b) (inl b') = b.1 ∙ sym b'.1
  refusal_same i e e' (inl b) (inr (p, s, (c, t, ht, d), r)) = absurd (bad_tag_no_identifier i c p t s ht d b.0)
  refusal_same i e e' (inr (p, s, (c, t, ht, d), r)) (inl b) = absurd (bad_tag_no_identifier i c p t s ht d b.0)
  refusal_same i e e' (inr (p, s, (c, t, ht, d), r)) (inr (p', s', (c', t', ht', d'), r')) =
      let q = identifier_same c c' p p' t t' s s' (sym d ∙ d') in
      laws.refusal_same p s e e' r (rw (q.1, q.3) r')

  -- an identifier that is cut short shows no refusal
  cut_identifier : (i : List ℕ) → IsCutIdentifier i → Cut Refuses i 1
  cut_identifier i h = let l = in_identifier h.class h.constructed h.number h.missing h.octets in (lacks_is_cut l, l, refused)
    where
      refused : (e : Refusal) → ¬ Shows Refuses i e
      refused e (inl b) = h.no_bad_tag b.0
      refused e (inr (p, s, (c, t, ht, d), q)) = cut_no_identifier i c p t s d h

  -- neither does a length that is cut short behind an identifier
  cut_length : (i s : List ℕ) (x : Identifier) (m : ℕ) → ReadsIdentifier i x s → LengthLacks s m → Cut Refuses i m
  cut_length i s x m r h = let l = lacks_behind i s x.class x.constructed x.tag.0 m r.octets h in (lacks_is_cut l, l, refused)
    where
      refused : (e : Refusal) → ¬ Shows Refuses i e
      refused e (inl b) = bad_tag_no_identifier i x.class x.constructed x.tag.0 s r.number r.octets b.0
      refused e (inr (p', s', (c', t', ht', d'), q)) =
          let same : s' ≡ s = behind i s' s c' x.class p' x.constructed t' x.tag.0 d' r.octets in
          laws.refused_not_lacking p' s e m (rw same at q) h

  -- an identifier that is refused or cut, as the answer of the header's reader
  pub identifier_answered : {T T' : Type 0} (P : T → Type 0) (P' : T' → Type 0) (i : List ℕ) (e : Refused BerError)
      → MatchAnswer {T = T} (Err e) P (λ x. HasBadTag i × (x ≡ invalid_tag)) (λ n. (n ≡ 1) × IsCutIdentifier i) ⊥ → MatchAnswer {T = T'} (Err e) P' (Shows Refuses i) (Cut Refuses i) ⊥
  identifier_answered P P' i e h = passed_on P P' e h (λ x b. inl b) (λ n l. rw l.0 (cut_identifier i l.1)) (λ m. m)

  -- and the length behind it
  pub length_answered : {T T' : Type 0} (P : T → Type 0) (P' : T' → Type 0) (i s : List ℕ) (x : Identifier) (e : Refused BerError) → ReadsIdentifier i x s
      → MatchAnswer {T = T} (Err e) P (Refuses x.constructed s) (LengthLacks s) ⊥ → MatchAnswer {T = T'} (Err e) P' (Shows Refuses i) (Cut Refuses i) ⊥
  length_answered P P' i s x e r h =
      passed_on P P' e h (λ y q. inr (x.constructed, s, (x.class, x.tag.0, r.number, r.octets), q)) (λ n l. cut_length i s x n r l) (λ m. m)

-- the parts of a header that was read, by other names for them
pub read_header : (h : Header) (c c' : Class) (p p' : Bool) (t t' : ℕ) (l l' : Length) → c ≡ c' → p ≡ p' → t ≡ t' → l ≡ l'
    → class_of h ≡ c → is_constructed h ≡ p → number_of h ≡ t → length_of h ≡ l → raw_tag_of h ≡ Some (identifier c p t) → IsHeader h c' p' t' l' (Some (identifier c' p' t'))
read_header h c c' p p' t t' l l' ec ep et el hc hp ht hl raw = record {
  class = hc ∙ ec;
  constructed = hp ∙ ep;
  number = ht ∙ et;
  length = hl ∙ el;
  raw_tag = raw ∙ ap (λ q. Some (identifier q p t)) ec ∙ ap (λ q. Some (identifier c' q t)) ep ∙ ap (λ q. Some (identifier c' p' q)) et;
}
