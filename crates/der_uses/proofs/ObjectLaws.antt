-- Objects that were read, and how many a visitor counts.
use Rattle.std.proofs.Common.{◌≡◌, ◌⊎◌, ℕ, zero, suc, ◌+◌, ◌%◌, ◌^◌, ◌<◌, ◌≤◌, Option, None, Some, MatchOption, option_map, slice_get, slice_range, rules, List, [], ◌∷◌, ◌++◌, length, map, take, append-nil, IfSome, Result, Ok, Err, Bor, IfOk, IfErr, MatchResult, ◌↔◌, refl, sym, ap, subst, ◌∙◌, arith, inl, inr}
use Rattle.std.specs.Global.{Vec}
use Rattle.std.specs.Result.{IsErrOf}
use Rattle.der_parser.specs.declared.error.Err.{Err as Refused}
use Rattle.der_parser.specs.declared.error.Err.TheVariants.{Incomplete, Error, Failure, OutOfMemory}
use Rattle.der_parser.specs.declared.error.Error.{Error as BerError}
use Rattle.der_parser.specs.declared.error.GenError.{GenError}
use Rattle.der_parser.specs.declared.error.GenError.TheVariants.{Io, TooLarge, OutOfMemory as NoMemory}
use Rattle.der_parser.specs.declared.error.Needed.TheVariants.{Unknown, Size}
use Rattle.der_parser.specs.declared.Rules.TheVariants.{Der}
use Rattle.der_parser.specs.declared.ber.BerObject.{BerObject}
use Rattle.der_parser.specs.declared.ber.BerObjectContent.TheVariants.{Sequence}
use Rattle.der_parser.specs.declared.nodes.Element.{Element}
use Rattle.der_parser.specs.declared.nodes.Listed.{Listed as ListedElement}
use Rattle.der_parser.specs.Answer.{AnswersOkOr}
use Rattle.der_parser.specs.BerReading.{AnswersBer, ReadsBer}
use Rattle.der_parser.specs.DerReading.{AnswersDer, ReadsDer}
use Rattle.der_parser.specs.Encoding.{encoding}
use Rattle.der_parser.specs.Header.{class_of, is_constructed, number_of}
use Rattle.der_parser.specs.HeaderFacts.{form_of}
use Rattle.der_parser.specs.CheckedElements.{IsElement, primitive, constructed, indefinite}
use Rattle.der_parser.specs.ElementListing.{ListsElements, listed, listed_one}
use Rattle.der_parser.specs.Overlay.{overlay}
use Rattle.der_parser.specs.Readers.{BeginsWithElement, Finds}
use Rattle.der_parser.specs.Spelling.{BeginsWithBer, BeginsWithDer}
use Rattle.der_parser.specs.Tree.{Content, Node, node}
use Rattle.der_parser.specs.View.{content_tree, tree, trees}
use Rattle.der_parser.specs.Vectors.{BeginsWithNone, HasElements}
use Rattle.der_parser.specs.Views.{preorder}
use Rattle.der_parser.specs.Visiting.{MeetsObject, Quietly, TakenThrough, quiet, stepped, through_entry, through_none}
use Rattle.der_elements.proofs.CheckLaws.OneList.{all_same, one_same}
use Rattle.der_elements.proofs.CheckLaws.Overlays.{map_same}
use Rattle.der_parser.proofs.ViewLaws.Lists.{no_first}
use Rattle.der_object.proofs.Trees.{sequence_tree}
use Rattle.der_uses.specs.declared.shown.Depths.{Depths}
use Rattle.der_uses.specs.declared.shown.Found.{Found}
use Rattle.der_uses.specs.declared.shown.Found.TheVariants.{List as Listed}
use Rattle.der_uses.specs.Uses.{FindsObject, HasNoNumber, HoldsElements, IsFound, IsNotRewritten, IsPair, IsRewritten, depth, node_count}

pub ber_begins : {d : ℕ} {i : List ℕ} {o : BerObject} {rest : List ℕ} → ReadsBer d i o rest → BeginsWithBer d i (tree o) rest
ber_begins {o = o} h = (h.spelling, h.octets, (form_of o, h.spells))

pub der_begins : {d : ℕ} {i : List ℕ} {o : BerObject} {rest : List ℕ} → ReadsDer d i o rest → BeginsWithDer d i (tree o) rest
der_begins h = (h.spelling, h.octets, h.spells)

-- a reader whose value begins the input may only lack memory
no_memory : {T : Type 0} (M : Type 0) (P : T → Type 0) (e : Refused BerError) → AnswersOkOr M (Err e) P → (e ≡ OutOfMemory) × M
no_memory M P (Error e) h = absurd h
no_memory M P (Incomplete (Size n)) h = absurd h
no_memory M P (Incomplete Unknown) h = absurd h
no_memory M P (Failure e) h = absurd h
no_memory M P OutOfMemory h = (refl, h)

-- the first object of an input
pub finds : (i : List ℕ) (o : BerObject) (left : Bor (List ℕ)) (result : Result Found (Refused BerError)) → AnswersDer depth i (Ok (left, o)) → MatchResult result (IsFound (tree o)) (HasNoNumber (tree o)) → FindsObject i result
finds i o left (Ok x) a h = record {
  found = (tree o, left.now, der_begins a.found, h);
  only = λ u rest z. subst (λ y. IsFound y x) (ap (λ y. y.0) (a.only (u, rest) z)) h;
}
finds i o left (Err e) a h = record { found = tt; only = λ u rest z. inr (subst (λ y. HasNoNumber y e) (ap (λ y. y.0) (a.only (u, rest) z)) h) }

pub finds_none : (i : List ℕ) (e : Refused BerError) → AnswersDer depth i (Err e) → FindsObject i (Err e)
finds_none i e a = record { found = tt; only = λ u rest z. inl (no_memory _ _ e (a.only (u, rest) z)).0 }

count_of : (os : List BerObject) → node_count (trees os) ≡ length os
count_of [] = refl
count_of (o ∷ os) = ap suc (count_of os)

-- a list
pub list_found : (o : BerObject) (v : Vec BerObject) (n : ℕ) → o.content ≡ Sequence v → n ≡ length v.items → IsFound (tree o) (Listed n)
list_found o v n e q =
    let h = o.header in
    subst (λ x. IsFound (node (class_of h) (is_constructed h) (number_of h) x) (Listed n)) (sym (ap content_tree e ∙ sequence_tree v)) (ap Listed (q ∙ sym (count_of v.items)))

-- what DER writes of the object that BER reads
pub rewritten : (i : List ℕ) (o : BerObject) (left : Bor (List ℕ)) (w : List ℕ) → AnswersBer depth i (Ok (left, o)) → w ≡ encoding (tree o) → IsRewritten i w
rewritten i o left w a q = record {
  found = inr (tree o, left.now, ber_begins a.found, q);
  only = λ u rest z. inl (q ∙ ap (λ y. encoding y.0) (a.only (u, rest) z));
}

pub not_read : (i : List ℕ) (e : Refused BerError) (w : List ℕ) → AnswersBer depth i (Err e) → w ≡ [] → IsRewritten i w
not_read i e w a q = record { found = inl q; only = λ u rest z. inr (no_memory _ _ e (a.only (u, rest) z)).1 }

pub rewritten_as : (i : List ℕ) (o : BerObject) (left : Bor (List ℕ)) (r : Result (Vec ℕ) GenError) → AnswersBer depth i (Ok (left, o)) → IfOk r (λ v. v.items ≡ encoding (tree o)) → IfOk r (λ v. IsRewritten i v.items)
rewritten_as i o left (Ok v) a q = rewritten i o left v.items a q
rewritten_as i o left (Err e) a q = tt

not_rewritten : (i : List ℕ) (o : BerObject) (left : Bor (List ℕ)) (e : GenError) → AnswersBer depth i (Ok (left, o)) → (e ≡ TooLarge → 2 ^ 64 ≤ length (encoding (tree o))) → (e ≡ TooLarge) ⊎ (e ≡ NoMemory) → IsNotRewritten i e
not_rewritten i o left TooLarge a l h = (tree o, left.now, ber_begins a.found, l refl)
not_rewritten i o left NoMemory a l h = (tree o, left.now, ber_begins a.found)
not_rewritten i o left (Io k) a l (inl q) = cc
not_rewritten i o left (Io k) a l (inr q) = cc

pub refused_as : (i : List ℕ) (o : BerObject) (left : Bor (List ℕ)) (r : Result (Vec ℕ) GenError) → AnswersBer depth i (Ok (left, o)) → (IsErrOf r TooLarge ↔ (2 ^ 64 ≤ length (encoding (tree o))))
    → IfErr r (λ e. (e ≡ TooLarge) ⊎ (e ≡ NoMemory)) → IfErr r (IsNotRewritten i)
refused_as i o left (Ok v) a l h = tt
refused_as i o left (Err e) a l h = not_rewritten i o left e a (λ q. l.0 (ap Err q)) h

-- the first of a list that others were written over
pub overlay_taken : {A : Type 0} (xs ys : List A) → length ys ≤ length xs → take (length ys) (overlay xs 0 ys) ≡ ys
overlay_taken [] [] l = refl
overlay_taken [] (y ∷ ys) l = absurd (omega (arith, l))
overlay_taken (x ∷ xs) [] l = refl
overlay_taken (x ∷ xs) (y ∷ ys) l = ap (λ w. y ∷ w) (overlay_taken xs ys (omega (arith, l)))

mod_below : (n : ℕ) → n % 2 ^ 64 ≤ n
mod_below n = omega arith

-- a number that each step raises by one at most
pub through_counts : {S : Type 0} {R : S → Node → ℕ → S → Type 0} (count : S → ℕ) → ((s t : S) (o : Node) (n : ℕ) → R s o n t → count t ≤ count s + 1)
    → {es : List (Node × ℕ)} {s t : S} → TakenThrough R es s t → count t ≤ count s + length es
through_counts count step through_none = omega arith
through_counts count step (through_entry {o = o} {n = n} {s = s} {m = m} r h) = omega (arith, step s m o n r, through_counts count step h)

-- a step of the visitor that counts objects
object_counts : {s m : Depths} {o : Node} {n : ℕ} → Quietly (λ (s : Depths) (o : Node) (n : ℕ) (t : Depths). t.objects ≡ (s.objects + 1) % 2 ^ 64) s o n m → m.objects ≤ s.objects + 1
object_counts {s = s} (quiet q) = omega (arith, ap (λ d. d.objects) q)
object_counts {s = s} (stepped r) = omega (arith, r, mod_below (s.objects + 1))

content_counts : {s m : Depths} {o : Content} {n : ℕ} → Quietly (λ (s : Depths) (o : Content) (n : ℕ) (t : Depths). ⊥) s o n m → m.objects ≡ s.objects
content_counts (quiet q) = ap (λ d. d.objects) q
content_counts (stepped r) = absurd r

pub met : (s t : Depths) (o : Node) (n : ℕ) → MeetsObject (Quietly (λ (s : Depths) (o : Node) (n : ℕ) (t : Depths). t.objects ≡ (s.objects + 1) % 2 ^ 64)) (Quietly (λ (s : Depths) (o : Content) (n : ℕ) (t : Depths). ⊥)) s o n t → t.objects ≤ s.objects + 1
met s t o n m = omega (arith, object_counts m.object, content_counts m.content)

-- an input begins with an element that is listed with so many
abbrev Lists : List ℕ → ListedElement → Type 0
Lists i x = (b : List ℕ) × (i ≡ b ++ x.rest.now) × (is : IsElement Der depth b) × (x.elements ≡ length (listed_one is 0))

pub if_some : {A : Type 0} {P Q : A → Type 0} (r : Option A) → ((x : A) → P x → Q x) → IfSome r P → IfSome r Q
if_some (Some x) f h = f x h
if_some None f h = tt

-- two elements that are the whole input
pub pair_is : (i : List ℕ) (r : Option ListedElement) → Finds (BeginsWithElement Der depth i) (option_map (λ (x : ListedElement). x.rest) r) → IfSome r (Lists i) → IsPair i
    → (x : ListedElement) × (r ≡ Some x) × (x.rest.now ≡ []) × (x.elements ≡ 2)
pair_is i (Some x) f (b, eb, is2, count) (is, two) =
    let same = one_same [] x.rest.now 0 0 is is2 refl (append-nil i ∙ eb) in
    (x, refl, f.only [] (i, sym (append-nil i), is), count ∙ ap length (sym same.list) ∙ two)
pair_is i None f l (is, two) = absurd (f.only [] (i, sym (append-nil i), is))

pub is_pair_of : (i : List ℕ) (x : ListedElement) → Lists i x → x.rest.now ≡ [] → x.elements ≡ 2 → IsPair i
is_pair_of i x (b, eb, is, count) none two =
    let whole : b ≡ i = sym (eb ∙ ap (λ l. b ++ l) none ∙ append-nil b) in
    subst (λ w. IsPair w) whole (is, sym count ∙ two)

-- the elements in a buffer that has room for them
overlay_length : {A : Type 0} (xs : List A) (n : ℕ) (ys : List A) → length (overlay xs n ys) ≡ length xs
overlay_length [] n ys = refl
overlay_length (x ∷ xs) (suc n) ys = ap suc (overlay_length xs n ys)
overlay_length (x ∷ xs) zero [] = refl
overlay_length (x ∷ xs) zero (y ∷ ys) = ap suc (overlay_length xs zero ys)

pub got_elements : (i : List ℕ) (r : Option (Bor (List Element))) (n : ℕ) (old new : List Element) → ListsElements Der (λ e. e) depth i n old new
    → MatchOption r ((n < 0) ⊎ (length new < n)) (λ x. (0 ≤ n) × (n ≤ length new) × (x.now ≡ slice_range new 0 n) × (length x.now + 0 ≡ n))
    → HoldsElements i (length old) r
got_elements i None n old new l (inl h) = absurd (omega (arith, h))
got_elements i None n old new (are, kept) (inr h) =
    let m = kept.0 in
    let q = kept.1 in
    λ other. let same = ap length (all_same 0 0 other are refl refl) in omega (arith, h, m, same, ap length q, overlay_length old 0 (map (λ x. x) (listed are 0)))
got_elements i (Some x) n old new (are, kept) (a, b, c, d) =
    let m = kept.0 in
    let q = kept.1 in
    let ys = listed are 0 in
    let whole : new ≡ overlay old 0 ys = q ∙ ap (λ l. overlay old 0 l) (map_same ys) in
    let e : slice_range new 0 n ≡ take n new = search rules in
    let l : length ys ≤ length old = omega (arith, b, m, ap length whole, overlay_length old 0 ys) in
    (are, c ∙ e ∙ ap (λ w. take n w) whole ∙ ap (λ k. take k (overlay old 0 ys)) m ∙ overlay_taken old ys l)

-- an element is listed first
listed_some : {d : ℕ} {b : List ℕ} (is : IsElement Der d b) (a : ℕ) → [] ≡ listed_one is a → ⊥
listed_some (primitive c t s w ht hs e m) a q = absurd cc
listed_some (constructed c t s w ht hs e m are) a q = absurd cc
listed_some (indefinite c t w ht er e m are) a q = absurd cc

pub never_empty : (i j : List ℕ) (x : Option (Bor (List ℕ) × Vec Element)) (y : Bor (List ℕ) × Vec Element) (fs : List Element) → x ≡ Some y
    → MatchOption x (BeginsWithNone Der depth i) (λ z. HasElements Der depth i z.0.now z.1.items) → fs ≡ y.1.items → None ≡ slice_get (preorder j fs) 0 → ⊥
never_empty i j x y fs ex h ef none =
    let (b, eb, is, q) : HasElements Der depth i y.0.now y.1.items = subst (λ z. MatchOption z (BeginsWithNone Der depth i) (λ u. HasElements Der depth i u.0.now u.1.items)) ex h in
    listed_some is 0 (sym (no_first j fs none) ∙ ef ∙ q)
