-- An input that is cut short lacks one number of octets.
use Rattle.std.proofs.Common.{◌≡◌, ◌≢◌, ℕ, ◌+◌, ◌≤◌, Bool, true, List, [], ◌∷◌, ◌++◌, length, refl, sym, ap, ◌∙◌, arith, append_assoc, length-append, inl, inr, append-nil}
use Rattle.der_base.specs.declared.header.Class.{Class}
use Rattle.der_base.specs.Octets.{SpellsAnyLength, identifier}
use Rattle.der_base.specs.Spelling.{end_marker}
use Rattle.der_base.specs.Cut.{AreShapes, no_shapes, definite_shape, indefinite_shape, IsShape, Lacks, in_identifier, in_length, in_content, in_elements}
use Rattle.der_base.proofs.Octets.Identifiers.{head_same, identifier_same}
use Rattle.der_base.proofs.Framing.Elements.{definite_part, open_part}
use Rattle.der_base.proofs.Framing.Shapes.{any_length_same, any_length_not_open, open_not_end, shape_same, marker_shape}
use Rattle.der_base.proofs.Framing.RawLists.{tail_more}

-- shapes one after another, each with its octets
data Chain : List ℕ → Type 0 where
  nothing : Chain []
  then : {w : List ℕ} (b rest : List ℕ) → IsShape b → b ≢ end_marker → Chain rest → w ≡ b ++ rest → Chain w

chain : {w : List ℕ} → AreShapes w → Chain w
chain no_shapes = nothing
chain (definite_shape c p t s v rest hl hn d r) = then (identifier c p t ++ s ++ v) rest (c, p, t, v, inl (s, hl, refl)) hn (chain r) d
chain (indefinite_shape c t v rest hv d r) = then (identifier c true t ++ 128 ∷ v ++ end_marker) rest (c, true, t, v, inr (refl, hv, refl)) open_is_no_end (chain r) d
  where
    open_is_no_end : identifier c true t ++ 128 ∷ v ++ end_marker ≢ end_marker
    open_is_no_end e = open_not_end c true t (v ++ (end_marker ++ [])) [] (sym (open_part c true t v end_marker [] (sym e)))

-- nothing but an end marker stands in front
IsStuck : List ℕ → Type 0
IsStuck r = (b x : List ℕ) → IsShape b → b ≢ end_marker → r ≡ b ++ x → ⊥

chains_same : {v w : List ℕ} (r r' : List ℕ) → Chain v → Chain w → IsStuck r → IsStuck r' → v ++ r ≡ w ++ r' → (v ≡ w) × (r ≡ r')
unfolding IsStuck
chains_same r r' nothing nothing s s' e = (refl, e)
chains_same r r' nothing (then {w = w} b' rest' g' n' h' d') s s' e = absurd (s b' (rest' ++ r') g' n' (e ∙ tail_more b' rest' w r' d'))
chains_same r r' (then {w = v} b rest g n h d) nothing s s' e = absurd (s' b (rest ++ r) g n (sym e ∙ tail_more b rest v r d))
chains_same r r' (then {w = v} b rest g n h d) (then {w = w} b' rest' g' n' h' d') s s' e =
    let q = shape_same b b' (rest ++ r) (rest' ++ r') g g' (sym (tail_more b rest v r d) ∙ e ∙ tail_more b' rest' w r' d') in
    let z = chains_same r r' h h' s s' q.1 in
    let o = q.0 in
    (cc, z.1)

end_stuck : (x : List ℕ) → IsStuck (end_marker ++ x)
unfolding IsStuck
end_stuck x b y g n e = n (sym (shape_same end_marker b x y marker_shape g e).0)

stuck : (r : List ℕ) → ((b x : List ℕ) → IsShape b → r ≡ b ++ x → ⊥) → IsStuck r
unfolding IsStuck
stuck r h b x g n e = h b x g e

-- a tail behind an identifier
no_tail : (c c' : Class) (p p' : Bool) (t t' b : ℕ) (w i r : List ℕ) → i ++ r ≡ identifier c p t → i ≡ identifier c' p' t' ++ (b ∷ w) → ⊥
no_tail c c' p p' t t' b w i r e d =
    let q = identifier_same c' c p' p t' t ((b ∷ w) ++ r) [] (sym (append_assoc (identifier c' p' t') (b ∷ w) r) ∙ ap (λ l. l ++ r) (sym d) ∙ e ∙ sym (append-nil (identifier c p t))) in
    omega (arith, ap length q.3)

no_spelled_tail : (c c' : Class) (p p' : Bool) (t t' n : ℕ) (s w i r : List ℕ) → SpellsAnyLength s n → i ++ r ≡ identifier c p t → i ≡ identifier c' p' t' ++ (s ++ w) → ⊥
no_spelled_tail c c' p p' t t' n [] w i r h e d = absurd h
no_spelled_tail c c' p p' t t' n (b ∷ s) w i r h e d = no_tail c c' p p' t t' b (s ++ w) i r e d

-- length octets that are announced and missing are no spelling
no_length : (b n m : ℕ) (bs s x : List ℕ) → 1 ≤ n → 128 + length bs + n ≡ b → SpellsAnyLength s m → b ∷ bs ≡ s ++ x → ⊥
no_length b n m bs [] x h1 hb h e = absurd h
no_length b n m bs (b' ∷ bs') x h1 hb (inl a) e = omega (arith, h1, hb, a.0, (head_same e).0)
no_length b n m bs (b' ∷ bs') x h1 hb (inr a) e = let q = head_same e in omega (arith, h1, hb, a.1, q.0, ap length q.1, length-append bs' x)

-- what is cut short begins with no shape
pub lacks_stuck : {i : List ℕ} {n : ℕ} → Lacks i n → (b x : List ℕ) → IsShape b → i ≡ b ++ x → ⊥
lacks_stuck (in_identifier {i = i} c p t r e) b x (c', p', t', w, inl (s, hs, d)) f = no_spelled_tail c c' p p' t t' (length w) s (w ++ x) i r hs e (f ∙ definite_part c' p' t' s w b x d)
lacks_stuck (in_identifier {i = i} c p t r e) b x (c', p', t', w, inr (ep, hv, d)) f = no_tail c c' p p' t t' 128 (w ++ (end_marker ++ x)) i r e (f ∙ open_part c' p' t' w b x d)
lacks_stuck (in_length {n = n} c p t a bs h255 h1 ha e) b x (c', p', t', w, inl (s, hs, d)) f =
    let q = identifier_same c c' p p' t t' (a ∷ bs) (s ++ (w ++ x)) (sym e ∙ f ∙ definite_part c' p' t' s w b x d) in
    no_length a n (length w) bs s (w ++ x) h1 ha hs q.3
lacks_stuck (in_length {n = n} c p t a bs h255 h1 ha e) b x (c', p', t', w, inr (ep, hv, d)) f =
    let q = identifier_same c c' p p' t t' (a ∷ bs) (128 ∷ (w ++ (end_marker ++ x))) (sym e ∙ f ∙ open_part c' p' t' w b x d) in
    omega (arith, h1, ha, (head_same q.3).0)
lacks_stuck (in_content {n = n} c p t s v h1 hs e) b x (c', p', t', w, inl (s', hs', d)) f =
    let q = identifier_same c c' p p' t t' (s ++ v) (s' ++ (w ++ x)) (sym (append_assoc (identifier c p t) s v) ∙ sym e ∙ f ∙ definite_part c' p' t' s' w b x d) in
    let l = any_length_same s s' (length v + n) (length w) v (w ++ x) hs hs' q.3 in
    omega (arith, h1, l.1, ap length l.2, length-append w x)
lacks_stuck (in_content {n = n} c p t s v h1 hs e) b x (c', p', t', w, inr (ep, hv, d)) f =
    let q = identifier_same c c' p p' t t' (s ++ v) (128 ∷ (w ++ (end_marker ++ x))) (sym (append_assoc (identifier c p t) s v) ∙ sym e ∙ f ∙ open_part c' p' t' w b x d) in
    any_length_not_open s (length v + n) v (w ++ (end_marker ++ x)) hs q.3
lacks_stuck (in_elements {n = n} c t v rest hv h e) b x (c', p', t', w, inl (s, hs, d)) f =
    let q = identifier_same c c' true p' t t' (128 ∷ (v ++ rest)) (s ++ (w ++ x)) (sym (append_assoc (identifier c true t) (128 ∷ v) rest) ∙ sym e ∙ f ∙ definite_part c' p' t' s w b x d) in
    any_length_not_open s (length w) (w ++ x) (v ++ rest) hs (sym q.3)
lacks_stuck (in_elements {n = n} c t v rest hv h e) b x (c', p', t', w, inr (ep, hw, d)) f =
    let q = identifier_same c c' true p' t t' (128 ∷ (v ++ rest)) (128 ∷ (w ++ (end_marker ++ x))) (sym (append_assoc (identifier c true t) (128 ∷ v) rest) ∙ sym e ∙ f ∙ open_part c' p' t' w b x d) in
    let z = chains_same rest (end_marker ++ x) (chain hv) (chain hw) (stuck rest (lacks_stuck h)) (end_stuck x) (head_same q.3).1 in
    lacks_stuck h end_marker x marker_shape z.1

-- How many octets are lacking is one number.
pub lacks_same : {i i' : List ℕ} {n n' : ℕ} → Lacks i n → Lacks i' n' → i ≡ i' → n ≡ n'
lacks_same (in_identifier c p t r e) (in_identifier c' p' t' r' e') f = refl
lacks_same (in_identifier {i = i} c p t r e) (in_length c' p' t' a' bs' h' h1' ha' e') f = absurd (no_tail c c' p p' t t' a' bs' i r e (f ∙ e'))
lacks_same (in_identifier {i = i} c p t r e) (in_content {n = n'} c' p' t' s' v' h1' hs' e') f =
    absurd (no_spelled_tail c c' p p' t t' (length v' + n') s' v' i r hs' e (f ∙ e' ∙ append_assoc (identifier c' p' t') s' v'))
lacks_same (in_identifier {i = i} c p t r e) (in_elements c' t' v' rest' hv' h' e') f =
    absurd (no_tail c c' p true t t' 128 (v' ++ rest') i r e (f ∙ e' ∙ append_assoc (identifier c' true t') (128 ∷ v') rest'))
lacks_same (in_length c' p' t' a' bs' h' h1' ha' e') (in_identifier {i = i} c p t r e) f = absurd (no_tail c c' p p' t t' a' bs' i r e (sym f ∙ e'))
lacks_same (in_content {n = n'} c' p' t' s' v' h1' hs' e') (in_identifier {i = i} c p t r e) f =
    absurd (no_spelled_tail c c' p p' t t' (length v' + n') s' v' i r hs' e (sym f ∙ e' ∙ append_assoc (identifier c' p' t') s' v'))
lacks_same (in_elements c' t' v' rest' hv' h' e') (in_identifier {i = i} c p t r e) f =
    absurd (no_tail c c' p true t t' 128 (v' ++ rest') i r e (sym f ∙ e' ∙ append_assoc (identifier c' true t') (128 ∷ v') rest'))
lacks_same (in_length c p t a bs h h1 ha e) (in_length c' p' t' a' bs' h' h1' ha' e') f =
    let q = head_same (identifier_same c c' p p' t t' (a ∷ bs) (a' ∷ bs') (sym e ∙ f ∙ e')).3 in
    omega (arith, ha, ha', q.0, ap length q.1)
lacks_same (in_length {n = n} c p t a bs h h1 ha e) (in_content {n = n'} c' p' t' s' v' h1' hs' e') f =
    absurd (no_length a n (length v' + n') bs s' v' h1 ha hs' (identifier_same c c' p p' t t' (a ∷ bs) (s' ++ v') (sym e ∙ f ∙ e' ∙ append_assoc (identifier c' p' t') s' v')).3)
lacks_same (in_length c p t a bs h h1 ha e) (in_elements c' t' v' rest' hv' h' e') f =
    absurd (omega (arith, h1, ha, (head_same (identifier_same c c' p true t t' (a ∷ bs) (128 ∷ (v' ++ rest')) (sym e ∙ f ∙ e' ∙ append_assoc (identifier c' true t') (128 ∷ v') rest')).3).0))
lacks_same (in_content {n = n} c p t s v h1 hs e) (in_length {n = n'} c' p' t' a' bs' h' h1' ha' e') f =
    absurd (no_length a' n' (length v + n) bs' s v h1' ha' hs (identifier_same c' c p' p t' t (a' ∷ bs') (s ++ v) (sym e' ∙ sym f ∙ e ∙ append_assoc (identifier c p t) s v)).3)
lacks_same (in_content {n = n} c p t s v h1 hs e) (in_content {n = n'} c' p' t' s' v' h1' hs' e') f =
    let q = identifier_same c c' p p' t t' (s ++ v) (s' ++ v') (sym (append_assoc (identifier c p t) s v) ∙ sym e ∙ f ∙ e' ∙ append_assoc (identifier c' p' t') s' v') in
    let l = any_length_same s s' (length v + n) (length v' + n') v v' hs hs' q.3 in
    omega (arith, l.1, ap length l.2)
lacks_same (in_content {n = n} c p t s v h1 hs e) (in_elements c' t' v' rest' hv' h' e') f =
    absurd (any_length_not_open s (length v + n) v (v' ++ rest') hs (identifier_same c c' p true t t' (s ++ v) (128 ∷ (v' ++ rest'))
    (sym (append_assoc (identifier c p t) s v) ∙ sym e ∙ f ∙ e' ∙ append_assoc (identifier c' true t') (128 ∷ v') rest')).3)
lacks_same (in_elements c t v rest hv h e) (in_length c' p' t' a' bs' h' h1' ha' e') f =
    absurd (omega (arith, h1', ha', (head_same (identifier_same c' c p' true t' t (a' ∷ bs') (128 ∷ (v ++ rest)) (sym e' ∙ sym f ∙ e ∙ append_assoc (identifier c true t) (128 ∷ v) rest)).3).0))
lacks_same (in_elements c t v rest hv h e) (in_content {n = n'} c' p' t' s' v' h1' hs' e') f =
    absurd (any_length_not_open s' (length v' + n') v' (v ++ rest) hs' (identifier_same c' c p' true t' t (s' ++ v') (128 ∷ (v ++ rest))
    (sym (append_assoc (identifier c' p' t') s' v') ∙ sym e' ∙ sym f ∙ e ∙ append_assoc (identifier c true t) (128 ∷ v) rest)).3)
lacks_same (in_elements c t v rest hv h e) (in_elements c' t' v' rest' hv' h' e') f =
    let q = identifier_same c c' true true t t' (128 ∷ (v ++ rest)) (128 ∷ (v' ++ rest')) (sym (append_assoc (identifier c true t) (128 ∷ v) rest) ∙ sym e ∙ f ∙ e'
    ∙ append_assoc (identifier c' true t') (128 ∷ v') rest') in
    let z = chains_same rest rest' (chain hv) (chain hv') (stuck rest (lacks_stuck h)) (stuck rest' (lacks_stuck h')) (head_same q.3).1 in
    lacks_same h h' z.1
