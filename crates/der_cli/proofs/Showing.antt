-- What is shown stays written.
use Rattle.std.proofs.Common.{ℕ, Bool, true, false, Option, Some, None, List, MatchBool, ◌++◌, codes}
use Rattle.std.proofs.KnownBytes.{Appends-kept, Keeps-trans}
use Rattle.std.specs.Io.KnownBytes.{Appends, Keeps}
use Rattle.der_show.specs.declared.unread.Unread.{Unread}
use Rattle.der_show.specs.declared.words.Words.{Words}
use Rattle.text_json.specs.declared.shown.object.Source.{Source}
use Rattle.der_actions.specs.declared.options.Options.{Options}
use Rattle.der_cli.specs.Shown.{AddsError, AddsFoundFrom, AddsText, AddsWordsFrom, AddsWordsObject}

-- an object or a text
kept_choice : (b : Bool) (s : Source) (i : List ℕ) (w : Words) (old mid new : Option (List ℕ))
    → MatchBool b (AddsWordsObject s i w old mid) (Appends old mid w.text.items) → Keeps mid new
    → MatchBool b (AddsWordsObject s i w old new) (Appends old new w.text.items)
kept_choice true s i w old mid new adds keeps = (adds.0, adds.1, Appends-kept old mid new (adds.0 ++ codes "\n") adds.2 keeps)
kept_choice false s i w old mid new adds keeps = Appends-kept old mid new w.text.items adds keeps

pub kept_words : (s : Source) (o : Options) (i : List ℕ) (w : Words) (old mid new : Option (List ℕ)) → AddsWordsFrom s o i w old mid → Keeps mid new
    → AddsWordsFrom s o i w old new
kept_words s o i w old mid new adds keeps = kept_choice o.is_json s i w old mid new adds keeps

kept_text : (text : Option (List ℕ)) (old mid new : Option (List ℕ)) → AddsText text old mid → Keeps mid new → AddsText text old new
kept_text None old mid new adds keeps = Keeps-trans old mid new adds keeps
kept_text (Some text) old mid new adds keeps = Appends-kept old mid new text adds keeps

kept_error : (s : Source) (i : List ℕ) (u : Option Unread) (text : Option (List ℕ)) (old mid new : Option (List ℕ)) → AddsError s i u text old mid → Keeps mid new
    → AddsError s i u text old new
kept_error s i u text old mid new e keeps = record {
  error = e.error;
  offset = e.offset;
  is_offset = e.is_offset;
  adds = Appends-kept old mid new _ e.adds keeps;
}

kept_either : (b : Bool) (s : Source) (i : List ℕ) (u : Option Unread) (text : Option (List ℕ)) (old mid new : Option (List ℕ))
    → MatchBool b (AddsError s i u text old mid) (AddsText text old mid) → Keeps mid new → MatchBool b (AddsError s i u text old new) (AddsText text old new)
kept_either true s i u text old mid new adds keeps = kept_error s i u text old mid new adds keeps
kept_either false s i u text old mid new adds keeps = kept_text text old mid new adds keeps

pub kept_found : (s : Source) (o : Options) (i : List ℕ) (u : Option Unread) (text : Option (List ℕ)) (old mid new : Option (List ℕ))
    → AddsFoundFrom s o i u text old mid → Keeps mid new → AddsFoundFrom s o i u text old new
kept_found s o i u text old mid new adds keeps = kept_either o.is_json s i u text old mid new adds keeps
