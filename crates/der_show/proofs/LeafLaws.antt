-- What is written of the elements of an input, and which leaf goes on after them.
use Rattle.std.proofs.Common.{◌≡◌, ◌↔◌, ℕ, ◌<◌, ◌≤◌, ◌⊎◌, Bool, true, false, IsTrue, Option, Some, None, List, [], ◌∷◌, ◌++◌}
use Rattle.std.proofs.Common.{append-nil, append_assoc, ap, arith, inl, inr, refl, subst, sym, ◌∙◌, true≢false}
use Rattle.std.proofs.Common.{MatchOption, codes, length, ◌+◌, ◌&&◌}
use Rattle.std.proofs.lemmas.Bool.Decides.{nat_tests}
use Rattle.std.proofs.lemmas.List.{length-append}
use Rattle.std.specs.Bool.{MatchBool}
use Rattle.std.specs.Option.{is_some, option_to_list}
use Rattle.der_base.specs.declared.rules.Rules.{Rules}
use Rattle.der_base.specs.declared.rules.Rules.TheVariants.{Ber}
use Rattle.text_json.specs.Fields.Fields.{label_after, label_text}
use Rattle.text_json.specs.Fields.Secrets.{IsSecret, OpenBy, is_secret, secret_text}
use Rattle.text_json.proofs.FieldsLaws.OpenLaws.{inside_none, inside_one, open_none, past_inside, past_one, past_other}
use Rattle.der_print.specs.Lines.{content_in}
use Rattle.der_print.specs.Texts.{content_of}
use Rattle.der_print.proofs.LineLaws.{content_is, line_of}
use Rattle.der_schema.specs.declared.matching.Name.{Name}
use Rattle.der_schema.specs.declared.namer.Namer.{Namer}
use Rattle.der_schema.specs.declared.schema.Schema.{Schema}
use Rattle.der_schema.specs.Known.{all_extras}
use Rattle.der_schema.specs.Meaning.{root_of}
use Rattle.der_schema.specs.Named.{HasNamed, NamesNext}
use Rattle.der_schema.specs.Steps.{label_of}
use Rattle.der_elements.specs.declared.element.Element.{Element}
use Rattle.der_elements.specs.declared.walk.Walk.{Walk}
use Rattle.der_elements.specs.Visits.{Visited, Visits}
use Rattle.der_elements.specs.Walked.{HasOctets, HasVisited, visited_of}
use Rattle.der_show.specs.declared.field_lines.Written.{Written}
use Rattle.der_show.specs.declared.manner.Manner.{Manner}
use Rattle.der_show.specs.declared.manner.Manner.TheVariants.{InLeaf, InWords, Plain, Secret}
use Rattle.der_show.specs.declared.words.Words.{Words}
use Rattle.der_show.specs.FieldLines.{Adds, AddsAll, AddsLine, AddsShown, AreWordsFrom, IsManner, leaf_past}
use Rattle.der_show.specs.Fields.{AreWordsByFields, IsSaid, Said, in_leaf, in_words, joined, lines_alone}
use Rattle.der_show.specs.Fields.{none_said, one_more, plain, secret}
use Rattle.der_show.specs.InWords.{octets_in}
use Rattle.der_show.specs.Leaves.{IsLeaf, field_of, fields_style, leaf_line, words_text}
use Rattle.der_show.specs.Shown.{IsShown}
use Rattle.der_show.proofs.KnownLaws.{not_known}

-- what is said of nothing more, of a line more, and of both
and_true : (b : Bool) → b && true ≡ b
and_true true = refl
and_true false = refl

and_assoc : (a b c : Bool) → (a && b) && c ≡ a && (b && c)
and_assoc true b c = refl
and_assoc false b c = refl

adds_nothing : (old new : Written) → new ≡ old → Adds (lines_alone []) old new
adds_nothing old new e = record {
  lines = ap (λ (w : Written). w.lines.items) e ∙ sym (append-nil old.lines.items);
  words = ap (λ (w : Written). w.words.items) e ∙ sym (append-nil old.words.items);
  keeps = ap (λ (w : Written). w.keeps_rules) e ∙ sym (and_true old.keeps_rules);
}

adds_line : (line : List ℕ) (old new : Written) → AddsLine line old new → Adds (lines_alone line) old new
adds_line line old new a = record {
  lines = a.lines;
  words = a.words ∙ sym (append-nil old.words.items);
  keeps = a.keeps ∙ sym (and_true old.keeps_rules);
}

adds_both : (a b : Said) (old mid new : Written) → Adds a old mid → Adds b mid new → Adds (joined a b) old new
adds_both a b old mid new p q = record {
  lines = q.lines ∙ ap (λ x. x ++ b.lines) p.lines ∙ append_assoc old.lines.items a.lines b.lines;
  words = q.words ∙ ap (λ x. x ++ b.words) p.words ∙ append_assoc old.words.items a.words b.words;
  keeps = q.keeps ∙ ap (λ x. x && b.keeps_rules) p.keeps ∙ and_assoc old.keeps_rules a.keeps_rules b.keeps_rules;
}

-- what is written of one more element, and which leaf goes on after it
pub record IsShownOn (now : Option ℕ) (sc : Schema) (i : List ℕ) (vs : List Visited) (v : Visited) (o : Option ℕ)
    (old new : Written) : Type 0 where
  pub said : Said
  pub shown : IsSaid now sc i vs v said
  pub adds : Adds said old new
  pub after : OpenBy (IsLeaf sc i) (vs ++ v ∷ []) o

shown_by : (now : Option ℕ) (sc : Schema) (i : List ℕ) (vs : List Visited) (e : Element) (o : Option ℕ) (b : Bool)
    (m : Manner) (old new : Written) → OpenBy (IsLeaf sc i) vs o → b ≡ is_secret (label_after (root_of sc) i vs (visited_of e)) (is_some e.holds) → HasOctets i e
    → IsManner o i e b m → AddsShown now m (field_of sc i vs (visited_of e)) e old new
    → IsShownOn now sc i vs (visited_of e) (leaf_past m o e.depth) old new
shown_by now sc i vs e o b InLeaf old new h t octets is adds = record {
  said = lines_alone [];
  shown = in_leaf (inside_one (IsLeaf sc i) vs (visited_of e) o h is) refl;
  adds = adds_nothing old new adds;
  after = past_inside (IsLeaf sc i) vs (visited_of e) o h is;
}
shown_by now sc i vs e o b Secret old new h t octets is adds =
    let v = visited_of e in
    let line = leaf_line secret_text (field_of sc i vs v) v in
    record {
      said = lines_alone line;
      shown = secret (inside_none (IsLeaf sc i) vs v o h is.0) (sym t ∙ is.1) refl;
      adds = adds_line line old new adds;
      after = past_one (IsLeaf sc i) vs v o h is.0 (inl (sym t ∙ is.1));
    }
shown_by now sc i vs e o b (InWords w known) old new h t octets is adds =
    let v = visited_of e in
    let line = adds.1 in
    let words = adds.2 in
    record {
      said = record {
        lines = leaf_line words_text (field_of sc i vs v) v;
        words = words.text;
        keeps_rules = words.keeps_rules;
      };
      shown = in_words known (inside_none (IsLeaf sc i) vs v o h is.0) (λ s. true≢false (sym s ∙ sym t ∙ is.1)) is.3 refl
          (subst (λ x. IsShown now x known words.text) is.2 words.is_shown) words.rules;
      adds = record {
        lines = words.lines ∙ line.lines;
        words = words.words ∙ ap (λ x. x ++ words.text) line.words;
        keeps = words.keeps ∙ ap (λ x. x && words.keeps_rules) line.keeps;
      };
      after = past_one (IsLeaf sc i) vs v o h is.0 (inr (known, is.3));
    }
shown_by now sc i vs e o b Plain old new h t octets is adds =
    let v = visited_of e in
    let other : IsSecret (root_of sc) i vs v → ⊥ = λ s. true≢false (sym s ∙ sym t ∙ is.1) in
    record {
      said = lines_alone adds.0;
      shown = plain adds.0 (inside_none (IsLeaf sc i) vs v o h is.0) other is.2
          (line_of fields_style v (content_of e) (content_in i v) adds.0 (content_is i e octets) adds.1) refl;
      adds = adds_line adds.0 old new adds.2;
      after = past_other (IsLeaf sc i) vs v o h is.0 (no_leaf other);
    }
  where
    no_leaf : (IsSecret (root_of sc) i vs (visited_of e) → ⊥) → IsLeaf sc i vs (visited_of e) → ⊥
    no_leaf other (inl s) = other s
    no_leaf other (inr k) = not_known (octets_in i (visited_of e)) k.0 k.1 is.2

-- what is written grew by what is said of all that the walk has visited
pub record HasShown (now : Option ℕ) (sc : Schema) (i : List ℕ) (w : Walk) (n : Namer) (o : Option ℕ)
    (old new : Written) : Type 0 where
  pub elements : List Visited
  pub visited : HasVisited all_extras Ber i w elements
  pub named : HasNamed (root_of sc) i elements n
  pub opened : OpenBy (IsLeaf sc i) elements o
  pub all : AddsAll now sc i elements old new

pub shown_none : {now : Option ℕ} {sc : Schema} {i : List ℕ} {w : Walk} {n : Namer} (old : Written)
    → HasVisited all_extras Ber i w [] → HasNamed (root_of sc) i [] n → HasShown now sc i w n None old old
shown_none {now} {sc} {i} old v h = record {
  elements = [];
  visited = v;
  named = h;
  opened = open_none (IsLeaf sc i);
  all = record { said = lines_alone []; are_shown = none_said refl refl; adds = adds_nothing old old refl };
}

pub shown_more : {now : Option ℕ} {sc : Schema} {i : List ℕ} {w w' : Walk} {n n' : Namer} {o o' : Option ℕ}
    {old mid new : Written} (e : Element) (said : Option Name) (field : List ℕ) (b : Bool) (m : Manner)
    (p : HasShown now sc i w n o old mid)
    → HasVisited all_extras Ber i w' (p.elements ++ visited_of e ∷ []) → HasOctets i e
    → NamesNext (root_of sc) i p.elements (visited_of e) n' said → field ≡ label_text (label_of said)
    → b ≡ is_secret (label_of said) (is_some e.holds) → IsManner o i e b m
    → AddsShown now m field e mid new → o' ≡ leaf_past m o e.depth → HasShown now sc i w' n' o' old new
shown_more {now} {sc} {i} {o = o} {o' = o'} {old = old} {mid = mid} {new = new} e said field b m p visited octets next text t is adds after =
    let vs = p.elements in
    let v = visited_of e in
    let named : field ≡ field_of sc i vs v = text ∙ ap label_text next.name in
    let one = shown_by now sc i vs e o b m mid new p.opened
    (t ∙ ap (λ l. is_secret l (is_some e.holds)) next.name) octets is
    (subst (λ f. AddsShown now m f e mid new) named adds) in
    record {
      elements = vs ++ v ∷ [];
      visited = visited;
      named = next.named;
      opened = subst (OpenBy (IsLeaf sc i) (vs ++ v ∷ [])) (sym after) one.after;
      all = record {
        said = joined p.all.said one.said;
        are_shown = one_more vs v p.all.said one.said refl p.all.are_shown one.shown refl;
        adds = adds_both p.all.said one.said old mid new p.all.adds one.adds;
      };
    }

-- the words of octets of a type, after the name of the type was written
pub words_by_type : {now : Option ℕ} {sc : Schema} {i : List ℕ} (front written : Written) (w : Words)
    → front.lines.items ≡ sc.name.now ++ codes "\n" → front.words.items ≡ [] → front.keeps_rules ≡ true
    → (vs : List Visited) × Visits all_extras Ber 101 0 0 i vs × AddsAll now sc i vs front written
    → AreWordsFrom written w → AreWordsByFields now sc i w
words_by_type {now} {sc} {i} front written w name none keeps found from =
    let all = found.2 in
    let s = all.said in
    let lines : written.lines.items ≡ sc.name.now ++ codes "\n" ++ s.lines =
    all.adds.lines ∙ ap (λ x. x ++ s.lines) name in
    let words : written.words.items ≡ s.words = all.adds.words ∙ ap (λ x. x ++ s.words) none in
    record {
      elements = found.0;
      visits = found.1;
      said = s;
      are_shown = all.are_shown;
      whole = from.text ∙ ap (λ x. x ++ written.words.items) lines
          ∙ ap (λ x. (sc.name.now ++ codes "\n" ++ s.lines) ++ x) words;
      start = from.start ∙ ap length lines;
      rules = from.keeps ∙ all.adds.keeps ∙ ap (λ x. x && s.keeps_rules) keeps;
      by_type = from.by_type;
    }
