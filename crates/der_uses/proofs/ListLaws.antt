-- What the parsers of lists and of explicit tags return, by what their parser of numbers does.
use Rattle.std.proofs.Common.{◌≡◌, ◌≢◌, ℕ, ℤ, ◌<◌, Bool, true, false, List, [], ◌∷◌, ◌++◌, length, map, Result, Ok, Err, Bor, IfOk, MatchResult, refl, sym, ap, subst, ◌∙◌, arith, append_assoc, append-nil, lit<, inl, inr}
use Rattle.std.specs.Global.{Vec}
use Rattle.der_parser.specs.declared.error.Err.{Err as Refused}
use Rattle.der_parser.specs.declared.error.Err.TheVariants.{Incomplete, Error, Failure, OutOfMemory}
use Rattle.der_parser.specs.declared.error.Error.{Error as BerError}
use Rattle.der_parser.specs.declared.error.ErrorKind.{ErrorKind}
use Rattle.der_parser.specs.declared.ber.Class.{Class}
use Rattle.der_parser.specs.declared.ber.Class.TheVariants.{Universal}
use Rattle.der_parser.specs.declared.ber.Header.{Header}
use Rattle.der_parser.specs.declared.Rules.TheVariants.{Der}
use Rattle.der_parser.specs.declared.ber.BerObject.{BerObject}
use Rattle.der_parser.specs.Answer.{AnswersIncompleteOr}
use Rattle.der_parser.specs.Containers.{Answered, ExplicitRun, Made, NumberRun, Opens, accepted, made, not_made, refused as not_opened, stopped}
use Rattle.der_parser.specs.Header.{class_of, is_constructed, length_of, number_of}
use Rattle.der_parser.specs.HeaderFacts.{inner_forms}
use Rattle.der_parser.specs.Headers.{BeginsWithDerHeader, DerHeaderLacks}
use Rattle.der_parser.specs.ListSteps.{Calls, no_call, one_more, LastCall, at_end, left_over, refused, failed, out_of_memory, stuck, no_room, ListSteps, items_of}
use Rattle.der_combinators.specs.declared.list_type.ListType.TheVariants.{Sequence}
use Rattle.der_parser.specs.Lists.{IsListOf}
use Rattle.der_parser.specs.Formats.{Each, Field, Never, ReadsWhole}
use Rattle.der_parser.specs.Numbers.{AnswersDerNumber, NumberAnswer, NumberType}
use Rattle.der_parser.specs.Octets.{identifier, shortest_length}
use Rattle.der_parser.specs.Readings.{Answer}
use Rattle.der_parser.specs.Tree.{Node, node, nodes_of, sequence}
use Rattle.der_parser.specs.TypedReading.{AnswersLeaf, FramesContent, ReadsTyped, SpellsTyped}
use Rattle.der_parser.specs.View.{tree}
use Rattle.der_parser.proofs.ContainerLaws.{element_same, explicit_passes, number_passes, opens_element}
use Rattle.der_parser.proofs.FormatLaws.{element_takes, never}
use Rattle.der_object.proofs.Trees.{sequence_tree}
use Rattle.der_parser.proofs.StableHeaders.{der_header_fronts_are_cut}
use Rattle.der_uses.specs.Uses.{BeginsWithElementOf, BeginsWithTagged, LeafOf, IsSequenceOf, NumberOf}

nil_or_more : (w : List ℕ) → length w ≡ 0 → w ≡ []
nil_or_more [] e = refl
nil_or_more (x ∷ w) e = absurd (omega (arith, e))

map_snoc : {T V : Type 0} (view : T → V) (vs : List T) (v : T) → map view (vs ++ v ∷ []) ≡ map view vs ++ view v ∷ []
map_snoc view [] v = refl
map_snoc view (u ∷ vs) v = ap (λ l. view u ∷ l) (map_snoc view vs v)

-- 05 00
some_header : BeginsWithDerHeader (5 ∷ 0 ∷ []) Universal false 5 0 []
unfolding identifier shortest_length
some_header = record { octets = refl; number = lit< tt; length = lit< tt }

some_octets : ◌≢◌ {A = List ℕ} (5 ∷ 0 ∷ []) []
some_octets e = cc

-- no octets are the front of a header
nothing : (n : ℕ) × DerHeaderLacks [] n
nothing = der_header_fronts_are_cut (5 ∷ 0 ∷ []) Universal false 5 0 some_header [] (5 ∷ 0 ∷ []) some_octets refl

abbrev pub IsIncomplete : {T : Type 0} → Answered T BerError → Type 0
IsIncomplete (Err (Incomplete n)) = Unit {0}
IsIncomplete _ = ⊥

-- a reader of the items of a list, which takes no memory
pub record IsItem {T V : Type 0} (G : Field V) (view : T → V) (i : List ℕ) (r : Answered T BerError) : Type 0 where
  pub found : IfOk r (λ x. G Der i (view x.1) x.0.now)
  pub only : (v : V) (rest : List ℕ) → G Der i v rest → MatchResult r (λ x. (view x.1 ≡ v) × (x.0.now ≡ rest)) (λ e. ⊥)
  pub at_end : i ≡ [] → IsIncomplete r

cut_at_end : (T : Type 0) (n : ℕ) (e : Refused BerError) → AnswersIncompleteOr {T = Bor (List ℕ) × T} ⊥ (Err e) n → IsIncomplete {T = T} (Err e)
cut_at_end T n (Incomplete m) h = tt
cut_at_end T n (Error e) h = absurd h
cut_at_end T n (Failure e) h = absurd h
cut_at_end T n OutOfMemory h = absurd h

number_at_end : {T : Type 0} (value : T → ℤ) (k : NumberType) (r : NumberAnswer T) → AnswersDerNumber value k [] r → IsIncomplete r
number_at_end value k (Ok x) a = absurd (a.lacks nothing.0 (inl nothing.1))
number_at_end {T} value k (Err e) a = cut_at_end T _ e (a.lacks nothing.0 (inl nothing.1))

pub number_item : {T : Type 0} (value : T → ℤ) (k : NumberType) (i : List ℕ) (r : NumberAnswer T) → AnswersDerNumber value k i r → IsItem (NumberOf k) value i r
number_item value k i (Ok x) a = record {
  found = a.found;
  only = λ v rest z. let e = a.only (v, rest) z in (ap (λ y. y.0) e, ap (λ y. y.1) e);
  at_end = λ q. number_at_end value k (Ok x) (subst (λ j. AnswersDerNumber value k j (Ok x)) q a);
}
number_item value k i (Err e) a = record {
  found = tt;
  only = λ v rest z. never _ e (a.only (v, rest) z);
  at_end = λ q. number_at_end value k (Err e) (subst (λ j. AnswersDerNumber value k j (Err e)) q a);
}

-- an object of one type that takes no memory
read_typed : (t : ℕ) (i : List ℕ) (o : BerObject) (rest : List ℕ) → ReadsTyped Der t i o rest → SpellsTyped Der t i (tree o, rest)
read_typed t i o rest r =
    let h = r.header in
    let x = r.content.read in
    let begins = subst (λ k. BeginsWithDerHeader i (class_of o.header) (is_constructed o.header) k h.size r.behind) r.number h.begins in
    (r.number, length_of o.header, r.behind, (h.size, h.length, begins), (x.octets, inner_forms o.content, x.framed, x.content))

pub leaf_item : (t : ℕ) (i : List ℕ) (r : Answer) → AnswersLeaf Der t i r → IsItem (LeafOf t) tree i r
leaf_item t i (Ok x) a = record {
  found = read_typed t i x.1 x.0.now a.found;
  only = λ v rest z. let e = a.only (v, rest) z in (ap (λ y. y.0) e, ap (λ y. y.1) e);
  at_end = λ q. absurd ((subst (λ j. AnswersLeaf Der t j (Ok x)) q a).lacks nothing.0 (inl nothing.1));
}
leaf_item t i (Err e) a = record {
  found = tt;
  only = λ v rest z. never _ e (a.only (v, rest) z);
  at_end = λ q. cut_at_end BerObject _ e ((subst (λ j. AnswersLeaf Der t j (Err e)) q a).lacks nothing.0 (inl nothing.1));
}

pub leaf_takes : (t : ℕ) (i : List ℕ) (v : Node) (rest : List ℕ) → LeafOf t Der i v rest → length rest < length i
leaf_takes t i (node c p n x) rest (e, l, behind, (size, q, begins), (w, fs, framed, content)) =
    let f = subst (λ l. FramesContent Der l p 50 behind w rest) q framed in
    let sized = subst (λ k. BeginsWithDerHeader i c p t k behind) (sym f.begins.0) begins in
    element_takes Der c p t i (w, rest) (subst (λ v. BeginsWithDerHeader i c p t (length w) v) f.begins.1 sized)

pub number_takes : (k : NumberType) (i : List ℕ) (v : ℤ) (rest : List ℕ) → NumberOf k Der i v rest → length rest < length i
number_takes k i v rest h = element_takes Der h.class false 2 i (h.octets, rest) h.element

-- a reader of a whole content
pub record IsWhole {T V : Type 0} (C : List ℕ → V → Type 0) (view : T → V) (w : List ℕ) (r : Answered T BerError) : Type 0 where
  pub found : IfOk r (λ x. C w (view x.1))
  pub only : (v : V) → C w v → MatchResult r (λ x. view x.1 ≡ v) (λ e. e ≡ OutOfMemory)

-- an element that is opened is the one that begins the input
opened_same : (i w w' after rest : List ℕ) (h : Header) (c : Class) (p : Bool) (t : ℕ) → Opens Der i h w' after → BeginsWithDerHeader i c p t (length w) (w ++ rest) → (w' ≡ w) × (after ≡ rest)
opened_same i w w' after rest h c p t o b =
    let s = element_same Der i w' w after rest (class_of h) c (is_constructed h) p (number_of h) t (opens_element Der i w' after h o) b in
    (s.3, s.4)

-- a container returns what its parser reads of the content
module _ {S T V : Type 0} {step : S → Bor (List ℕ) → Header → Answered T BerError → S → Type 0} {C : List ℕ → V → Type 0} {view : T → V}
    {kinds : Bor (List ℕ) → ErrorKind → BerError → Type 0} {gives : BerError → BerError → Type 0} {i : List ℕ} {n : ℕ}
    (answers : (f g : S) (content : Bor (List ℕ)) (h : Header) (r : Answered T BerError) → step f content h r g → IsWhole C view content.now r) where
  pub container : {f g : S} {r : Answered T BerError} → NumberRun Der n kinds gives i step f r g
      → ReadsWhole (BeginsWithElementOf n C i) (λ (x : Bor (List ℕ) × T). (view x.1, x.0.now)) (λ e. e ≡ OutOfMemory) r
  container (inl (not_opened {e = e} u)) = record { found = tt; only = λ v z. absurd (number_passes {rules = Der} z.0 z.1 n z.2 v.1 z.3 u) }
  container {f = f} (inr (stopped {g = g} {h = h} {w = w} {after = after} {content = content} {e = e} o s q)) = record {
    found = tt;
    only = λ v z.
        let same = opened_same i z.2 w after v.1 h z.0 z.1 n o.0 z.3 in
        (answers f g content h (Err e) s).only v.0 (subst (λ x. C x v.0) (sym (q ∙ same.0)) z.4);
  }
  container {f = f} (inr (accepted {g = g} {h = h} {w = w} {content = content} {left = left} {after = after} {v = x} o s q)) =
      let a = answers f g content h (Ok (left, x)) s in
      record {
        found = (
          class_of h,
          is_constructed h,
          w,
          subst (λ t. BeginsWithDerHeader i (class_of h) (is_constructed h) t (length w) (w ++ after.now)) o.1 (opens_element Der i w after.now h o.0),
          subst (λ y. C y (view x)) q a.found,
        );
        only = λ v z.
            let same = opened_same i z.2 w after.now v.1 h z.0 z.1 n o.0 z.3 in
            let e = a.only v.0 (subst (λ y. C y v.0) (sym (q ∙ same.0)) z.4) in
            ap (λ y. (y, after.now)) e ∙ ap (λ y. (v.0, y)) same.1;
      }

module _ {S O V : Type 0} {step : S → Bor (List ℕ) → Answered O BerError → S → Type 0} {G : Field V} {view : O → V}
    (answers : (f g : S) (p : Bor (List ℕ)) (r : Answered O BerError) → step f p r g → IsItem G view p.now r)
    (takes : (i : List ℕ) (v : V) (rest : List ℕ) → G Der i v rest → length rest < length i) where
  -- the values of the calls begin the content
  calls_begin : {f : S} {w : List ℕ} {g : S} {j : List ℕ} {vs : List O} {ss : List (List ℕ)} → Calls step f w vs ss g j → (us : List V) → Each G Der j us → Each G Der w (map view vs ++ us)
  unfolding Each
  calls_begin no_call us e = e
  calls_begin (one_more {m = m} {g = g} {vs = vs} {j = j} {p = p} {r = r} {v = v} c s q l) us e =
      let z : G Der j (view v) r.now = subst (λ x. G Der x (view v) r.now) q (answers m g p (Ok (r, v)) s).found in
      rw (map_snoc view vs v, append_assoc (map view vs) (view v ∷ []) us) (calls_begin c (view v ∷ us) (r.now, z, e))

  -- where values are the content, the calls read the first of them
  abbrev Reached : List ℕ → List O → List V → Type 0
  Reached j vs us = (others : List V) × (us ≡ map view vs ++ others) × Each G Der j others

  reached_more : {m g : S} {us : List V} {j : List ℕ} {p r : Bor (List ℕ)} {v : O} (vs : List O) (others : List V) → us ≡ map view vs ++ others → Each G Der j others
      → step m p (Ok (r, v)) g → p.now ≡ j → Reached r.now (vs ++ v ∷ []) us
  unfolding Each
  reached_more {m = m} {g = g} {p = p} {r = r} {v = v} vs [] k z s q = absurd ((answers m g p (Ok (r, v)) s).at_end (q ∙ z))
  reached_more {m = m} {g = g} {p = p} {r = r} {v = v} vs (u ∷ others) k (rest, a, b) s q =
      let e = (answers m g p (Ok (r, v)) s).only u rest (subst (λ x. G Der x u rest) (sym q) a) in
      (others, rw (map_snoc view vs v, e.0) (k ∙ sym (append_assoc (map view vs) (u ∷ []) others)), subst (λ x. Each G Der x others) (sym e.1) b)

  reached : {f : S} {w : List ℕ} {g : S} {j : List ℕ} {vs : List O} {ss : List (List ℕ)} → Calls step f w vs ss g j → (us : List V) → Each G Der w us → Reached j vs us
  reached no_call us e = (us, refl, e)
  reached (one_more {vs = vs} c s q l) us e =
      let n = reached c us e in
      reached_more vs n.0 n.1 n.2 s q

  module _ {kinds : Bor (List ℕ) → ErrorKind → BerError → Type 0} where
    last_only : {m g : S} {j : List ℕ} {vs : List O} {r : Result (List O) (Refused BerError)} (others : List V) → Each G Der j others → LastCall step kinds m j vs r g
        → MatchResult r (λ x. map view x ≡ map view vs ++ others) (λ e. e ≡ OutOfMemory)
    unfolding Each
    last_only {vs = vs} [] z (at_end s q l) = sym (append-nil (map view vs))
    last_only [] z (left_over s q l h) = absurd (omega (arith, l, ap length z))
    last_only {m = m} {g = g} [] z (refused {p = p} {e = e} s q) = absurd ((answers m g p (Err (Error e)) s).at_end (q ∙ z))
    last_only {m = m} {g = g} [] z (failed {p = p} {e = e} s q) = absurd ((answers m g p (Err (Failure e)) s).at_end (q ∙ z))
    last_only [] z (out_of_memory s q) = refl
    last_only {m = m} {g = g} [] z (stuck {p = p} {r = r} {v = v} s q l h) = absurd ((answers m g p (Ok (r, v)) s).at_end (q ∙ z))
    last_only [] z (no_room s q l) = refl
    last_only {m = m} {g = g} (u ∷ others) (rest, a, b) (at_end {p = p} {n = n} s q l) = absurd ((answers m g p (Err (Incomplete n)) s).only u rest (subst (λ x. G Der x u rest) (sym q) a))
    last_only {m = m} {g = g} (u ∷ others) (rest, a, b) (left_over {p = p} {n = n} s q l h) = absurd ((answers m g p (Err (Incomplete n)) s).only u rest (subst (λ x. G Der x u rest) (sym q) a))
    last_only {m = m} {g = g} (u ∷ others) (rest, a, b) (refused {p = p} {e = e} s q) = absurd ((answers m g p (Err (Error e)) s).only u rest (subst (λ x. G Der x u rest) (sym q) a))
    last_only {m = m} {g = g} (u ∷ others) (rest, a, b) (failed {p = p} {e = e} s q) = absurd ((answers m g p (Err (Failure e)) s).only u rest (subst (λ x. G Der x u rest) (sym q) a))
    last_only (u ∷ others) (rest, a, b) (out_of_memory s q) = refl
    last_only {m = m} {g = g} {j = j} (u ∷ others) (rest, a, b) (stuck {p = p} {r = r} {v = v} s q l h) =
        let e = (answers m g p (Ok (r, v)) s).only u rest (subst (λ x. G Der x u rest) (sym q) a) in
        absurd (omega (arith, l, ap length e.1, takes j u rest a))
    last_only (u ∷ others) (rest, a, b) (no_room s q l) = refl

    ended : {f g m : S} {w j : List ℕ} {vs us : List O} {ss : List (List ℕ)} → Calls step f w vs ss m j → LastCall step kinds m j vs (Ok us) g → Each G Der w (map view us)
    unfolding Each
    ended {w = w} {j = j} {vs = vs} c (at_end s q l) = subst (λ x. Each G Der w x) (append-nil (map view vs)) (calls_begin c [] (nil_or_more j l))

    list_found : {f g : S} (w : List ℕ) (r : Answered (Vec O) BerError) → ListSteps step kinds w f (items_of r) g → IfOk r (λ x. Each G Der w (map view x.1.items))
    list_found w (Ok x) s = ended s.calls s.last
    list_found w (Err e) s = tt

    only_ended : {f g m : S} {w j : List ℕ} {vs : List O} {ss : List (List ℕ)} {r : Result (List O) (Refused BerError)} → Calls step f w vs ss m j → LastCall step kinds m j vs r g
        → (us : List V) → Each G Der w us → MatchResult r (λ x. map view x ≡ us) (λ e. e ≡ OutOfMemory)
    only_ended c l us e =
        let n = reached c us e in
        rw n.1 (last_only n.0 n.2 l)

    list_only : {f g : S} (w : List ℕ) (r : Answered (Vec O) BerError) → ListSteps step kinds w f (items_of r) g → (us : List V) → Each G Der w us
        → MatchResult r (λ x. map view x.1.items ≡ us) (λ e. e ≡ OutOfMemory)
    list_only w (Ok x) s us e = only_ended s.calls s.last us e
    list_only w (Err x) s us e = only_ended s.calls s.last us e

    pub list_whole : {f g : S} (w : List ℕ) (r : Answered (Vec O) BerError) → ListSteps step kinds w f (items_of r) g → IsWhole (Each G Der) (λ v. map view v.items) w r
    list_whole w r s = record { found = list_found w r s; only = list_only w r s }

-- the number inside an explicit tag
module _ {S T : Type 0} {step : S → Bor (List ℕ) → Header → Answered T BerError → S → Type 0} {n : ℕ} {kinds : Bor (List ℕ) → ErrorKind → BerError → Type 0} {gives : BerError → BerError → Type 0} {i : List ℕ}
    (value : T → ℤ) (k : NumberType) (answers : (f g : S) (p : Bor (List ℕ)) (h : Header) (r : Answered T BerError) → step f p h r g → AnswersDerNumber value k p.now r) where
  pub tagged_read : {f g : S} {r : Answered T BerError} → ExplicitRun Der n kinds gives i step f r g
      → ReadsWhole (BeginsWithTagged n (NumberOf k) i) (λ (x : Bor (List ℕ) × T). (value x.1, x.0.now)) Never r
  tagged_read (inl (not_opened {e = e} u)) = record { found = tt; only = λ v z. absurd (explicit_passes {rules = Der} z.0 n z.1 v.1 z.4 z.3 u) }
  tagged_read {f = f} (inr (stopped {g = g} {h = h} {w = w} {after = after} {content = content} {e = e} o s q)) = record {
    found = tt;
    only = λ v z.
        let same = opened_same i z.1 w after v.1 h z.0 true n o.0 z.4 in
        never _ e ((answers f g content h (Err e) s).only (v.0, z.2) (subst (λ x. NumberOf k Der x v.0 z.2) (sym (q ∙ same.0)) z.5));
  }
  tagged_read {f = f} (inr (accepted {g = g} {h = h} {w = w} {content = content} {left = left} {after = after} {v = x} o s q)) =
      let a = answers f g content h (Ok (left, x)) s in
      record {
        found = (
          class_of h,
          w,
          left.now,
          o.1,
          subst (λ p. BeginsWithDerHeader i (class_of h) p n (length w) (w ++ after.now)) o.3
              (subst (λ t. BeginsWithDerHeader i (class_of h) (is_constructed h) t (length w) (w ++ after.now)) o.2 (opens_element Der i w after.now h o.0)),
          subst (λ y. NumberOf k Der y (value x) left.now) q a.found,
        );
        only = λ v z.
            let same = opened_same i z.1 w after.now v.1 h z.0 true n o.0 z.4 in
            let e = a.only (v.0, z.2) (subst (λ y. NumberOf k Der y v.0 z.2) (sym (q ∙ same.0)) z.5) in
            ap (λ y. (y.0, after.now)) e ∙ ap (λ y. (v.0, y)) same.1;
      }

-- a SEQUENCE of the objects that a list parser reads
tree_made : (items : Vec BerObject) (o : BerObject) → IsListOf Sequence items o → tree o ≡ node Universal true 16 (sequence (nodes_of (map tree items.items)))
tree_made items o m = m.tree ∙ ap (λ x. node Universal true 16 x) (sequence_tree items)

module _ {S : Type 0} {step : S → Bor (List ℕ) → Answered BerObject BerError → S → Type 0} {t : ℕ} {kinds : Bor (List ℕ) → ErrorKind → BerError → Type 0}
    (answers : (f g : S) (p : Bor (List ℕ)) (r : Answered BerObject BerError) → step f p r g → IsItem (LeafOf t) tree p.now r) where
  pub made_whole : {f g : S} (content : Bor (List ℕ)) (h : Header) (r : Answered BerObject BerError) → Made (λ h. IsListOf Sequence) (λ f content h r g. ListSteps step kinds content.now f (items_of r) g) f content h r g
      → IsWhole (IsSequenceOf t) tree content.now r
  made_whole {f = f} {g = g} content h (Err e) (not_made s) =
      let a = list_whole answers (leaf_takes t) content.now (Err e) s in
      record { found = tt; only = λ v z. a.only z.0 z.2 }
  made_whole {f = f} {g = g} content h (Ok x) (made {left = left} {v = items} s m) =
      let a = list_whole answers (leaf_takes t) content.now (Ok (left, items)) s in
      let e = tree_made items x.1 m in
      record {
        found = (map tree items.items, e, a.found);
        only = λ v z. e ∙ ap (λ os. node Universal true 16 (sequence (nodes_of os))) (a.only z.0 z.2) ∙ sym z.1;
      }
