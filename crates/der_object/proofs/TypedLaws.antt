-- Readers of one tag number, by BER and by DER: an element of the number, a refusal, and an input that ends within it. One of them holds at most, and each in one way.
use Rattle.std.proofs.Common.{◌≡◌, ◌≢◌, ℕ, ◌⊎◌, Bool, List, Some, sym, ap, subst, ◌∙◌, inl, inr}
use Rattle.der_base.specs.declared.header.Class.{Class}
use Rattle.der_base.specs.Refusal.{Refusal, unexpected_tag}
use Rattle.der_base.specs.Tree.{Node, Content, node}
use Rattle.der_base.proofs.Answers.Exactness.{ShowsOne}
use Rattle.der_base.proofs.Headers.HeaderLaws.{SameHeader}

-- what an input shows, said of what a reader reads of it
pub shows_read : {T V : Type 0} {value : T → V} {Reads : T → Type 0} {S S' : V → Type 0} {R : Refusal → Type 0} {K : ℕ → Type 0}
    → ShowsOne (λ v. v) S S R K → ((v : V) → S' v → S v) → ((x : T) → Reads x → S' (value x)) → ShowsOne value Reads S' R K
shows_read {value = value} one regroup read = record {
  spelled = read;
  one_value = λ x v r s. one.one_value (value x) v (regroup (value x) (read x r)) (regroup v s);
  one_refusal = one.one_refusal;
  one_lack = one.one_lack;
  not_refused = λ v e s r. one.not_refused v e (regroup v s) r;
  not_lacking = λ v n s h. one.not_lacking v n (regroup v s) h;
  not_both = one.not_both;
}

-- an input begins with a header, or shows a refusal of it, or ends within it, and each in one way
pub record OneHeader {L : Type 0} (Begins : List ℕ → Class → Bool → ℕ → L → List ℕ → Type 0) (Refuses : List ℕ → Refusal → Type 0) (Ends : List ℕ → ℕ → Type 0) : Type 0 where
  pub same : (i v v' : List ℕ) (c c' : Class) (p p' : Bool) (t t' : ℕ) (l l' : L) → Begins i c p t l v → Begins i c' p' t' l' v' → SameHeader c c' p p' t t' l l' v v'
  pub one_refusal : (i : List ℕ) (e e' : Refusal) → Refuses i e → Refuses i e' → e ≡ e'
  pub one_end : (i : List ℕ) (n n' : ℕ) → Ends i n → Ends i n' → n ≡ n'
  pub not_refused : (i v : List ℕ) (c : Class) (p : Bool) (t : ℕ) (l : L) (e : Refusal) → Begins i c p t l v → Refuses i e → ⊥
  pub not_ended : (i v : List ℕ) (c : Class) (p : Bool) (t : ℕ) (l : L) (n : ℕ) → Begins i c p t l v → Ends i n → ⊥
  pub not_both : (i : List ℕ) (e : Refusal) (n : ℕ) → Refuses i e → Ends i n → ⊥

module _ {L : Type 0} {Begins : List ℕ → Class → Bool → ℕ → L → List ℕ → Type 0} {HeaderRefuses : List ℕ → Refusal → Type 0} {Ends : List ℕ → ℕ → Type 0}
    (headers : OneHeader Begins HeaderRefuses Ends) (t : ℕ) (i : List ℕ) where
  -- behind a header of the number
  abbrev pub Behind : (L → Bool → List ℕ → Type 0) → Type 0
  Behind P = (c : Class) × (p : Bool) × (l : L) × (v : List ℕ) × Begins i c p t l v × P l p v

  -- the header is refused, or has another number
  abbrev pub HeaderOfRefuses : Refusal → Type 0
  HeaderOfRefuses e = HeaderRefuses i e
      ⊎ ((c : Class) × (p : Bool) × (n : ℕ) × (l : L) × (v : List ℕ) × Begins i c p n l v × (n ≢ t) × (e ≡ unexpected_tag (Some t) n))

  -- two headers in front are one: so what is said of the octets behind one is said of those behind the other
  behind_same : (P : L → Bool → List ℕ → Type 0) (v v' : List ℕ) (c c' : Class) (p p' : Bool) (l l' : L) → Begins i c p t l v → Begins i c' p' t l' v' → P l' p' v' → P l p v
  behind_same P v v' c c' p p' l l' b b' h =
      let s = headers.same i v v' c c' p p' t t l l' b b' in
      subst (λ x. P l p x) (sym s.rest) (subst (λ q. P l q v') (sym s.constructed) (subst (λ m. P m p' v') (sym s.length) h))

  header_not_refused : (v : List ℕ) (c : Class) (p : Bool) (l : L) (e : Refusal) → Begins i c p t l v → HeaderOfRefuses e → ⊥
  header_not_refused v c p l e b (inl r) = headers.not_refused i v c p t l e b r
  header_not_refused v c p l e b (inr (c', p', n, l', v', b', other, q)) = other (sym (headers.same i v v' c c' p p' t n l l' b b').number)

  header_refusal_same : (e e' : Refusal) → HeaderOfRefuses e → HeaderOfRefuses e' → e ≡ e'
  header_refusal_same e e' (inl r) (inl r') = headers.one_refusal i e e' r r'
  header_refusal_same e e' (inl r) (inr (c', p', n', l', v', b', other', q')) = absurd (headers.not_refused i v' c' p' n' l' e b' r)
  header_refusal_same e e' (inr (c, p, n, l, v, b, other, q)) (inl r') = absurd (headers.not_refused i v c p n l e' b r')
  header_refusal_same e e' (inr (c, p, n, l, v, b, other, q)) (inr (c', p', n', l', v', b', other', q')) =
      q ∙ ap (unexpected_tag (Some t)) (headers.same i v v' c c' p p' n n' l l' b b').number ∙ sym q'

  -- what needs memory needs less of it where the input lacks octets, if that is so behind the header
  pub cut_needs : (Lacks : L → Bool → List ℕ → ℕ → Type 0) (M C : L → Bool → List ℕ → Type 0) → ((l : L) (p : Bool) (v : List ℕ) (n : ℕ) → Lacks l p v n → M l p v → C l p v)
      → (n : ℕ) → Ends i n ⊎ Behind (λ l p v. Lacks l p v n) → Behind M → Behind C
  cut_needs Lacks M C less n (inl h) (c, p, l, v, b, m) = absurd (headers.not_ended i v c p t l n b h)
  cut_needs Lacks M C less n (inr (c', p', l', v', b', h)) (c, p, l, v, b, m) =
      (c, p, l, v, b, less l p v n (behind_same (λ l p v. Lacks l p v n) v v' c c' p p' l l' b b' h) m)

  -- and the contents behind it
  module _ {Spells : L → Bool → List ℕ → Content × List ℕ → Type 0} {Refuses : L → Bool → List ℕ → Refusal → Type 0} {Lacks : L → Bool → List ℕ → ℕ → Type 0}
      (contents : (l : L) (p : Bool) (v : List ℕ) → ShowsOne (λ x. x) (Spells l p v) (Spells l p v) (Refuses l p v) (Lacks l p v)) where
    abbrev pub SpellsTyped : Node × List ℕ → Type 0
    SpellsTyped (node c p n x, rest) = (n ≡ t) × (l : L) × (v : List ℕ) × Begins i c p t l v × Spells l p v (x, rest)

    abbrev pub TypedRefuses : Refusal → Type 0
    TypedRefuses e = HeaderOfRefuses e ⊎ Behind (λ l p v. Refuses l p v e)

    abbrev pub TypedLacks : ℕ → Type 0
    TypedLacks n = Ends i n ⊎ Behind (λ l p v. Lacks l p v n)

    value_same : (o o' : Node × List ℕ) → SpellsTyped o → SpellsTyped o' → o ≡ o'
    value_same (node c p n x, rest) (node c' p' n' x', rest') (e, l, v, b, k) (e', l', v', b', k') =
        let s = headers.same i v v' c c' p p' t t l l' b b' in
        let q = (contents l p v).one_value (x, rest) (x', rest') k (behind_same (λ l p v. Spells l p v (x', rest')) v v' c c' p p' l l' b b' k') in
        ap (λ z. (node c p n z.0, z.1)) q ∙ ap (λ z. (node z p n x', rest')) s.class ∙ ap (λ z. (node c' z n x', rest')) s.constructed ∙ ap (λ z. (node c' p' z x', rest')) (e ∙ sym e')

    not_refused : (o : Node × List ℕ) (e : Refusal) → SpellsTyped o → TypedRefuses e → ⊥
    not_refused (node c p n x, rest) e (o, l, v, b, k) (inl r) = header_not_refused v c p l e b r
    not_refused (node c p n x, rest) e (o, l, v, b, k) (inr (c', p', l', v', b', r)) =
        (contents l p v).not_refused (x, rest) e k (behind_same (λ l p v. Refuses l p v e) v v' c c' p p' l l' b b' r)

    not_lacking : (o : Node × List ℕ) (m : ℕ) → SpellsTyped o → TypedLacks m → ⊥
    not_lacking (node c p n x, rest) m (o, l, v, b, k) (inl h) = headers.not_ended i v c p t l m b h
    not_lacking (node c p n x, rest) m (o, l, v, b, k) (inr (c', p', l', v', b', h)) =
        (contents l p v).not_lacking (x, rest) m k (behind_same (λ l p v. Lacks l p v m) v v' c c' p p' l l' b b' h)

    refusal_same : (e e' : Refusal) → TypedRefuses e → TypedRefuses e' → e ≡ e'
    refusal_same e e' (inl r) (inl r') = header_refusal_same e e' r r'
    refusal_same e e' (inl r) (inr (c', p', l', v', b', r')) = absurd (header_not_refused v' c' p' l' e b' r)
    refusal_same e e' (inr (c, p, l, v, b, r)) (inl r') = absurd (header_not_refused v c p l e' b r')
    refusal_same e e' (inr (c, p, l, v, b, r)) (inr (c', p', l', v', b', r')) =
        (contents l p v).one_refusal e e' r (behind_same (λ l p v. Refuses l p v e') v v' c c' p p' l l' b b' r')

    lack_same : (n n' : ℕ) → TypedLacks n → TypedLacks n' → n ≡ n'
    lack_same n n' (inl h) (inl h') = headers.one_end i n n' h h'
    lack_same n n' (inl h) (inr (c', p', l', v', b', h')) = absurd (headers.not_ended i v' c' p' t l' n b' h)
    lack_same n n' (inr (c, p, l, v, b, h)) (inl h') = absurd (headers.not_ended i v c p t l n' b h')
    lack_same n n' (inr (c, p, l, v, b, h)) (inr (c', p', l', v', b', h')) =
        (contents l p v).one_lack n n' h (behind_same (λ l p v. Lacks l p v n') v v' c c' p p' l l' b b' h')

    refused_not_lacking : (e : Refusal) (n : ℕ) → TypedRefuses e → TypedLacks n → ⊥
    refused_not_lacking e n (inl (inl r)) (inl h) = headers.not_both i e n r h
    refused_not_lacking e n (inl (inr (c, p, m, l, v, b, other, q))) (inl h) = headers.not_ended i v c p m l n b h
    refused_not_lacking e n (inl r) (inr (c', p', l', v', b', h)) = header_not_refused v' c' p' l' e b' r
    refused_not_lacking e n (inr (c, p, l, v, b, r)) (inl h) = headers.not_ended i v c p t l n b h
    refused_not_lacking e n (inr (c, p, l, v, b, r)) (inr (c', p', l', v', b', h)) =
        (contents l p v).not_both e n r (behind_same (λ l p v. Lacks l p v n) v v' c c' p p' l l' b b' h)

    -- of an element of the number, a refusal and a lack, an input shows one at most
    pub shows_one : ShowsOne (λ o. o) SpellsTyped SpellsTyped TypedRefuses TypedLacks
    shows_one = record {
      spelled = λ o s. s;
      one_value = value_same;
      one_refusal = refusal_same;
      one_lack = lack_same;
      not_refused = not_refused;
      not_lacking = not_lacking;
      not_both = refused_not_lacking;
    }
