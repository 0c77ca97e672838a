-- What a container of DER answers, where its parser answers what a whole content is.
use Rattle.std.proofs.Common.{◌≡◌, ◌≢◌, ℕ, Bool, false, List, [], ◌∷◌, ◌++◌, length, Ok, Err, Bor, IfOk, MatchResult, refl, sym, ap, subst, ◌∙◌, append_assoc, lit<, inl, inr}
use Rattle.der_parser.specs.declared.error.Err.{Err as Refused}
use Rattle.der_parser.specs.declared.error.Err.TheVariants.{Incomplete, OutOfMemory}
use Rattle.der_parser.specs.declared.error.Error.{Error as BerError}
use Rattle.der_parser.specs.declared.error.ErrorKind.{ErrorKind}
use Rattle.der_parser.specs.declared.error.Needed.TheVariants.{Size}
use Rattle.der_parser.specs.declared.ber.Class.{Class}
use Rattle.der_parser.specs.declared.ber.Class.TheVariants.{Universal}
use Rattle.der_parser.specs.declared.ber.Header.{Header}
use Rattle.der_parser.specs.declared.Rules.TheVariants.{Der}
use Rattle.der_parser.specs.Containers.{Answered, Opens, RefusesNumber, NumberRun, faulty, cut, too_short, unopened, other_number, stopped, accepted, refused}
use Rattle.der_parser.specs.Fault.{DerHeaderRefuses}
use Rattle.der_parser.specs.Header.{class_of, is_constructed, number_of}
use Rattle.der_parser.specs.Headers.{BeginsWithDerHeader, DerHeaderLacks}
use Rattle.der_parser.specs.Octets.{identifier, shortest_length}
use Rattle.der_parser.specs.Refusal.{Refusal, refusal}
use Rattle.der_parser.proofs.ContainerLaws.{element_same, opens_element, number_passes}
use Rattle.der_parser.proofs.DerHeaders.{der_header_not_lacking}
use Rattle.der_parser.proofs.StableHeaders.{der_header_fronts_are_cut}
use Rattle.der_uses.specs.Names.Inner.{AnswersItem, AnswersWhole, IsIncomplete}
use Rattle.der_uses.specs.Names.Names.{BeginsWith, Encloses, IsElementOf}

-- 05 00
some_header : BeginsWithDerHeader (5 ∷ 0 ∷ []) Universal false 5 0 []
unfolding identifier shortest_length
some_header = record { octets = refl; number = lit< tt; length = lit< tt }

some_octets : ◌≢◌ {A = List ℕ} (5 ∷ 0 ∷ []) []
some_octets e = cc

-- no octets are the front of a header, so they begin with none and show no refusal
nothing : (n : ℕ) × DerHeaderLacks [] n
nothing = der_header_fronts_are_cut (5 ∷ 0 ∷ []) Universal false 5 0 some_header [] (5 ∷ 0 ∷ []) some_octets refl

pub nothing_begins : (c : Class) (p : Bool) (t n : ℕ) (rest : List ℕ) → BeginsWithDerHeader [] c p t n rest → ⊥
nothing_begins c p t n rest h = der_header_not_lacking [] rest c p t n nothing.0 h nothing.1.1

nothing_refused : (e : Refusal) → DerHeaderRefuses [] e → ⊥
nothing_refused e r = nothing.1.2 e r

-- an element in front of an input is a header in front of its content
pub header_of : (i b w rest : List ℕ) (c : Class) (p : Bool) (t : ℕ) → i ≡ b ++ rest → BeginsWithDerHeader b c p t (length w) w → BeginsWithDerHeader i c p t (length w) (w ++ rest)
header_of i b w rest c p t e h = record {
  octets = e ∙ ap (λ x. x ++ rest) h.octets ∙ append_assoc (identifier c p t ++ shortest_length (length w)) w rest;
  number = h.number;
  length = h.length;
}

-- and back
pub element_of : (i w rest : List ℕ) (c : Class) (p : Bool) (t : ℕ) → BeginsWithDerHeader i c p t (length w) (w ++ rest)
    → (b : List ℕ) × (i ≡ b ++ rest) × BeginsWithDerHeader b c p t (length w) w
element_of i w rest c p t h =
    let front = identifier c p t ++ shortest_length (length w) in
    (front ++ w, h.octets ∙ sym (append_assoc front w rest), record { octets = refl; number = h.number; length = h.length })

-- an element is some octets
pub element_some : (b w : List ℕ) (t : ℕ) → IsElementOf t b w → b ≢ []
element_some b w t (c, p, h) e = nothing_begins c p t (length w) w (subst (λ x. BeginsWithDerHeader x c p t (length w) w) e h)

-- an element that is opened is the one that begins the input
opened_same : (i w w' after rest : List ℕ) (h : Header) (c : Class) (p : Bool) (t : ℕ) → Opens Der i h w' after → BeginsWithDerHeader i c p t (length w) (w ++ rest)
    → (w' ≡ w) × (after ≡ rest) × (number_of h ≡ t)
opened_same i w w' after rest h c p t o b =
    let s = element_same Der i w' w after rest (class_of h) c (is_constructed h) p (number_of h) t (opens_element Der i w' after h o) b in
    (s.3, s.4, s.2)

module _ {E : Type 0} {from_error_kind_gives : Bor (List ℕ) → ErrorKind → E → Type 0} {from_gives : BerError → E → Type 0} where
  -- where there are no octets, a container wants more
  refused_wants_more : (t : ℕ) (r : Refused E) → RefusesNumber Der from_error_kind_gives from_gives t [] r → (n : ℕ) × (r ≡ Incomplete (Size n))
  refused_wants_more t r (unopened (faulty {e = e} f g)) = absurd (nothing_refused (refusal e) f)
  refused_wants_more t r (unopened (cut {n = n} l)) = (n, refl)
  refused_wants_more t r (unopened (too_short {behind = v} (c, p, t', n, b, l) k)) = absurd (nothing_begins c p t' n v.now b)
  refused_wants_more t r (other_number h w after o n e g) = absurd (nothing_begins _ _ _ o.0.size (w ++ after) o.0.begins)

module _ {F T V : Type 0} {step : F → Bor (List ℕ) → Header → Answered T BerError → F → Type 0} {Whole : List ℕ → V → Type 0} {view : T → V} {t : ℕ}
    {from_error_kind_gives : Bor (List ℕ) → ErrorKind → BerError → Type 0} {from_gives : BerError → BerError → Type 0}
    (answers : (f g : F) (content : Bor (List ℕ)) (h : Header) (r : Answered T BerError) → step f content h r g → AnswersWhole Whole view content.now r) where
  at_end : {f g : F} {r : Answered T BerError} → NumberRun Der t from_error_kind_gives from_gives [] step f r g → IsIncomplete r
  at_end (inl (refused {e = e} u)) = let (n, q) = refused_wants_more t e u in rw q tt
  at_end (inr (stopped {h = h} {w = w} {after = after} (o, z) s q)) = absurd (nothing_begins _ _ _ o.0.size (w ++ after) o.0.begins)
  at_end (inr (accepted {h = h} {w = w} {after = after} (o, z) s q)) = absurd (nothing_begins _ _ _ o.0.size (w ++ after.now) o.0.begins)

  found : {i : List ℕ} {f g : F} {r : Answered T BerError} → NumberRun Der t from_error_kind_gives from_gives i step f r g
      → IfOk r (λ x. BeginsWith (Encloses t Whole) i (view x.1) x.0.now)
  found (inl (refused u)) = tt
  found (inr (stopped o s q)) = tt
  found {i = i} {f = f} (inr (accepted {g = g} {h = h} {w = w} {content = content} {left = left} {after = after} {v = v} (o, z) s q)) =
      let b : BeginsWithDerHeader i (class_of h) (is_constructed h) t (length w) (w ++ after.now) = subst (λ n. BeginsWithDerHeader i (class_of h) (is_constructed h) n (length w) (w ++ after.now)) z (opens_element Der i w after.now h o) in
      let (e, joined, element) = element_of i w after.now (class_of h) (is_constructed h) t b in
      (e, joined, (w, (class_of h, is_constructed h, element), subst (λ x. Whole x (view v)) q (answers f g content h (Ok (left, v)) s).found))

  only : {i : List ℕ} {f g : F} {r : Answered T BerError} → NumberRun Der t from_error_kind_gives from_gives i step f r g
      → (v : V) (rest : List ℕ) → BeginsWith (Encloses t Whole) i v rest → MatchResult r (λ x. (view x.1 ≡ v) × (x.0.now ≡ rest)) (λ e. e ≡ OutOfMemory)
  only {i = i} (inl (refused {e = e} u)) v rest (b, j, (w, (c, p, h), whole)) = absurd (number_passes {rules = Der} c p t w rest (header_of i b w rest c p t j h) u)
  only {i = i} {f = f} (inr (stopped {g = g} {h = h'} {w = w'} {after = after} {content = content} {e = e} (o, z) s q)) v rest (b, j, (w, (c, p, h), whole)) =
      let same = opened_same i w w' after rest h' c p t o (header_of i b w rest c p t j h) in
      (answers f g content h' (Err e) s).only v (subst (λ x. Whole x v) (sym (q ∙ same.0)) whole)
  only {i = i} {f = f} (inr (accepted {g = g} {h = h'} {w = w'} {content = content} {left = left} {after = after} {v = v'} (o, z) s q)) v rest (b, j, (w, (c, p, h), whole)) =
      let same = opened_same i w w' after.now rest h' c p t o (header_of i b w rest c p t j h) in
      ((answers f g content h' (Ok (left, v')) s).only v (subst (λ x. Whole x v) (sym (q ∙ same.0)) whole), same.1)

  whole : {i : List ℕ} {f g : F} {r : Answered T BerError} → NumberRun Der t from_error_kind_gives from_gives i step f r g → AnswersItem (Encloses t Whole) view i r
  whole {f = f} {g = g} {r = r} run = record {
    spelled = record { found = found run; only = only run };
    at_end = λ e. at_end (subst (λ i. NumberRun Der t from_error_kind_gives from_gives i step f r g) e run);
  }

-- a container answers what encloses a content
pub container : {F T V : Type 0} {step : F → Bor (List ℕ) → Header → Answered T BerError → F → Type 0} {Whole : List ℕ → V → Type 0} {view : T → V} {t : ℕ}
    {from_error_kind_gives : Bor (List ℕ) → ErrorKind → BerError → Type 0} {from_gives : BerError → BerError → Type 0} {i : List ℕ} {f g : F} {r : Answered T BerError}
    → NumberRun Der t from_error_kind_gives from_gives i step f r g
    → ((f g : F) (content : Bor (List ℕ)) (h : Header) (r : Answered T BerError) → step f content h r g → AnswersWhole Whole view content.now r)
    → AnswersItem (Encloses t Whole) view i r
container run answers = whole answers run
