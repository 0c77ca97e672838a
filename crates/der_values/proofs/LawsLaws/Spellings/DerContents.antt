-- Contents by DER: of a type that is no list, and items that are joined.
use Rattle.std.proofs.Common.{◌≡◌, ℕ, ◌≤◌, Bool, false, List, ◌++◌, refl, ap, ◌∙◌, arith, inl}
use Rattle.der_base.specs.declared.header.Class.{Class}
use Rattle.der_base.specs.declared.header.Class.TheVariants.{Universal}
use Rattle.der_base.specs.Encoding.{encoding, encodings}
use Rattle.der_base.specs.Fault.{DerJoins}
use Rattle.der_base.specs.Leaf.{IsDerLeaf}
use Rattle.der_base.specs.Spelling.{IsDerContent, AreDerValid}
use Rattle.der_base.specs.Tree.{Content, sequence, set, Nodes, no_nodes, nodes, content_height, list_height}

pub leaf_valid : (c : Class) (p : Bool) (t : ℕ) (x : Content) → c ≡ Universal → p ≡ false → IsDerLeaf t x → IsDerContent c p t x
leaf_valid c p t (sequence l) u h k = absurd k.0
leaf_valid c p t (set l) u h k = absurd k.0
leaf_valid c p t _ u h k = inl (u, h, k)

pub leaf_height : (t : ℕ) (x : Content) → IsDerLeaf t x → content_height x ≡ 1
leaf_height t (sequence l) k = absurd k.0
leaf_height t (set l) k = absurd k.0
leaf_height t _ k = refl

-- joined items are the encodings of a valid list
pub record Encoded (w : List ℕ) (l : Nodes) (d : ℕ) : Type 0 where
  pub octets : w ≡ encodings l
  pub valid : AreDerValid l
  pub depth : list_height l ≤ d

pub joins_encoded : (l : Nodes) (w : List ℕ) (d : ℕ) → DerJoins w l d → Encoded w l d
joins_encoded no_nodes w d j = record { octets = j; valid = tt; depth = omega arith }
joins_encoded (nodes o l) w d (b, rest, e, h, j) =
    let k = joins_encoded l rest d j in
    record {
      octets = e ∙ ap (λ v. v ++ rest) h.encoded ∙ ap (λ v. encoding o ++ v) k.octets;
      valid = (h.valid, k.valid);
      depth = omega (arith, h.depth, k.depth);
    }
