-- Laws of printed texts.
use Rattle.std.proofs.Common.{◌≡◌, ℕ, Bool, true, false, List, [], ◌++◌, refl, ap, if◌then◌else◌, codes}
use Rattle.der_base.specs.Laws.{LengthsShowInHeaders}
use Rattle.der_base.specs.Pretty.{Style, spaces, further, pretty, content_text, items_text, first_form, other_forms, list_text, tagged_text}
use Rattle.der_base.specs.Spelling.{Form, form, Forms}
use Rattle.der_base.specs.Tree.{Node, node, Content, sequence, set, present, tagged, Nodes, no_nodes, nodes}

not_shown : (b : Bool) (v w : List ℕ) → b ≡ false → (if b then v else []) ≡ (if b then w else [])
not_shown true v w q = cc
not_shown false v w q = refl

two : (f : List ℕ → List ℕ → List ℕ) {a b c d : List ℕ} → a ≡ b → c ≡ d → f a c ≡ f b d
two f p q = cc

mutual
  same_text : (s : Style) (n : ℕ) (o : Node) (f g : Form) → s.headers ≡ false → pretty s n o f ≡ pretty s n o g
  same_text s n (node c p t x) (form l fs) (form m gs) q =
      two (λ a b. (spaces n ++ a) ++ b) (not_shown s.headers _ _ q) (same_content_text s n t x fs gs q)

  same_content_text : (s : Style) (n t : ℕ) (x : Content) (fs gs : Forms) → s.headers ≡ false → content_text s n t x fs ≡ content_text s n t x gs
  same_content_text s n t (sequence l) fs gs q = ap (list_text s n t) (same_items_text s (further s n) l fs gs q)
  same_content_text s n t (set l) fs gs q = ap (list_text s n t) (same_items_text s (further s n) l fs gs q)
  same_content_text s n t (present o) fs gs q = ap (λ a. codes "OPTION " ++ a) (same_text s 0 o (first_form fs) (first_form gs) q)
  same_content_text s n t (tagged c k o) fs gs q = ap (tagged_text n c k) (same_text s (further s n) o (first_form fs) (first_form gs) q)
  same_content_text s n t _ fs gs q = refl

  same_items_text : (s : Style) (n : ℕ) (l : Nodes) (fs gs : Forms) → s.headers ≡ false → items_text s n l fs ≡ items_text s n l gs
  same_items_text s n no_nodes fs gs q = refl
  same_items_text s n (nodes o l) fs gs q = two (λ a b. a ++ b) (same_text s n o (first_form fs) (first_form gs) q) (same_items_text s n l (other_forms fs) (other_forms gs) q)

pub lengths_show_in_headers : LengthsShowInHeaders
lengths_show_in_headers = same_text
