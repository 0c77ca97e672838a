-- The contents of the types that a name has.
use Rattle.std.proofs.Common.{◌≡◌, ℕ, ◌⊎◌, Bool, true, false, IsTrue, List, [], ◌∷◌, refl, sym, ap, subst, ◌∙◌, arith, inl, inr}
use Rattle.der_base.specs.declared.header.Class.TheVariants.{Universal}
use Rattle.der_base.specs.Encoding.{content_octets}
use Rattle.der_base.specs.Leaf.{is_list, is_mapped}
use Rattle.der_base.specs.Spelling.{IsDerContent}
use Rattle.der_base.specs.Text.{is_one_of, is_text_type}
use Rattle.der_base.specs.Tree.{Content, end_of_content, boolean, integer, bit_string, string, null, enumerated, object_identifier, relative_oid, time, sequence, set, unknown, Nodes}
use Rattle.der_values.proofs.LawsLaws.Spellings.BerFaults.{leaf_no_list}
use Rattle.der_values.proofs.LawsLaws.Spellings.DerFaults.{kept_unmapped}

abbrev pub IsStringNumber : ℕ → Type 0
IsStringNumber k = IsTrue (is_one_of (12 ∷ 19 ∷ 22 ∷ []) k)

pub other : (k n : ℕ) → IsStringNumber k → k ≡ n → is_one_of (12 ∷ 19 ∷ 22 ∷ []) n ≡ false → ⊥
other k n h e f = let t : IsStringNumber n = subst (λ x. IsStringNumber x) e h in cc

pub which : (k : ℕ) → IsStringNumber k → (k ≡ 12) ⊎ (k ≡ 19) ⊎ (k ≡ 22)
which k h = grind (arith, h)

mapped : (k : ℕ) → IsStringNumber k → is_mapped k ≡ false → ⊥
mapped k h e = elim (which k h) [
  | inl q ↦ (let f : is_mapped 12 ≡ false = subst (λ x. is_mapped x ≡ false) q e in cc)
  | inr (inl q) ↦ (let f : is_mapped 19 ≡ false = subst (λ x. is_mapped x ≡ false) q e in cc)
  | inr (inr q) ↦ (let f : is_mapped 22 ≡ false = subst (λ x. is_mapped x ≡ false) q e in cc)
]

not_time : (k t : ℕ) → IsStringNumber k → k ≡ t → (t ≡ 23) ⊎ (t ≡ 24) → ⊥
not_time k t h e (inl q) = other k 23 h (e ∙ q) refl
not_time k t h e (inr q) = other k 24 h (e ∙ q) refl

-- the content of a string
pub string_content : (k : ℕ) (p : Bool) (x : Content) → IsStringNumber k → IsDerContent Universal p k x → (s : List ℕ) × (x ≡ string k s) × (p ≡ false)
string_content k p (string k' s) h (inl (c, e, l)) = (s, rw l.0.0 refl, e)
string_content k p (string k' s) h (inr n) = absurd n
string_content k p end_of_content h (inl (c, e, l)) = absurd (other k 0 h l.0 refl)
string_content k p (boolean v) h (inl (c, e, l)) = absurd (other k 1 h l.0.0 refl)
string_content k p (integer v) h (inl (c, e, l)) = absurd (other k 2 h l.0.0 refl)
string_content k p (bit_string u v) h (inl (c, e, l)) = absurd (other k 3 h l.0.0 refl)
string_content k p null h (inl (c, e, l)) = absurd (other k 5 h l.0 refl)
string_content k p (object_identifier r v) h (inl (c, e, l)) = absurd (other k 6 h l.0.0 refl)
string_content k p (enumerated n) h (inl (c, e, l)) = absurd (other k 10 h l.0.0 refl)
string_content k p (relative_oid r v) h (inl (c, e, l)) = absurd (other k 13 h l.0.0 refl)
string_content k p (time t x) h (inl (c, e, ((et, ep, inl (ek, l)), l'))) = absurd (not_time k t h et (inl ek))
string_content k p (time t x) h (inl (c, e, ((et, ep, inr (ek, l)), l'))) = absurd (not_time k t h et (inr ek))
string_content k p (sequence l) h n = absurd (other k 16 h n.1 refl)
string_content k p (set l) h n = absurd (other k 17 h n.1 refl)
string_content k p (unknown c' p' t' v) h (inr n) = absurd (mapped k h (n.4 refl))
string_content k p (unknown c' p' t' v) h (inl (c, e, l)) = absurd l.0
string_content k p _ h (inl (c, e, l)) = absurd l.0
string_content k p _ h (inr n) = absurd n

no_text : (k : ℕ) → 6 ≡ k → IsTrue (is_text_type k) → ⊥
no_text k e h = let t : IsTrue (is_text_type 6) = subst (λ x. IsTrue (is_text_type x)) (sym e) h in cc

-- the content of an object identifier
pub identifier_content : (p : Bool) (x : Content) → IsDerContent Universal p 6 x → (w : List ℕ) × (x ≡ object_identifier false w) × (p ≡ false)
identifier_content p (object_identifier r w) (inl (c, e, l)) = (w, ap (λ r. object_identifier r w) l.0.2, e)
identifier_content p (object_identifier r w) (inr n) = absurd n
identifier_content p end_of_content (inl (c, e, l)) = absurd (omega (arith, l.0))
identifier_content p (boolean v) (inl (c, e, l)) = absurd (omega (arith, l.0.0))
identifier_content p (integer v) (inl (c, e, l)) = absurd (omega (arith, l.0.0))
identifier_content p (bit_string u v) (inl (c, e, l)) = absurd (omega (arith, l.0.0))
identifier_content p (string k s) (inl (c, e, ((ek, inl h, ew), l))) = absurd (omega (arith, ek, h))
identifier_content p (string k s) (inl (c, e, ((ek, inr (inl h), ew), l))) = absurd (omega (arith, ek, h.0))
identifier_content p (string k s) (inl (c, e, ((ek, inr (inr (inl h)), ew), l))) = absurd (omega (arith, ek, h.0))
identifier_content p (string k s) (inl (c, e, ((ek, inr (inr (inr h)), ew), l))) = absurd (no_text k ek h.0)
identifier_content p null (inl (c, e, l)) = absurd (omega (arith, l.0))
identifier_content p (enumerated n) (inl (c, e, l)) = absurd (omega (arith, l.0.0))
identifier_content p (relative_oid r v) (inl (c, e, l)) = absurd (omega (arith, l.0.0))
identifier_content p (time k x) (inl (c, e, ((et, ep, inl (ek, l)), l'))) = absurd (omega (arith, et, ek))
identifier_content p (time k x) (inl (c, e, ((et, ep, inr (ek, l)), l'))) = absurd (omega (arith, et, ek))
identifier_content p (sequence l) n = absurd (omega (arith, n.1))
identifier_content p (set l) n = absurd (omega (arith, n.1))
identifier_content p (unknown c' p' t' v) (inr n) = let f : is_mapped 6 ≡ false = n.4 refl in cc
identifier_content p (unknown c' p' t' v) (inl (c, e, l)) = absurd l.0
identifier_content p _ (inl (c, e, l)) = absurd l.0
identifier_content p _ (inr n) = absurd n

-- the items of a SEQUENCE and of a SET
pub sequence_content : (p : Bool) (x : Content) → IsDerContent Universal p 16 x → (l : Nodes) × (x ≡ sequence l) × (p ≡ true)
sequence_content p (sequence l) h = (l, refl, h.2)
sequence_content p (set l) h = absurd (omega (arith, h.1))
sequence_content p x (inl (c, e, l)) = let f : is_list 16 ≡ false = leaf_no_list false 16 (content_octets x) x l.0 in cc
sequence_content p x (inr k) = let f : is_mapped 16 ≡ false = kept_unmapped Universal p 16 (content_octets x) x k refl in cc

pub set_content : (p : Bool) (x : Content) → IsDerContent Universal p 17 x → (l : Nodes) × (x ≡ set l) × (p ≡ true)
set_content p (sequence l) h = absurd (omega (arith, h.1))
set_content p (set l) h = (l, refl, h.2)
set_content p x (inl (c, e, l)) = let f : is_list 17 ≡ false = leaf_no_list false 17 (content_octets x) x l.0 in cc
set_content p x (inr k) = let f : is_mapped 17 ≡ false = kept_unmapped Universal p 17 (content_octets x) x k refl in cc
