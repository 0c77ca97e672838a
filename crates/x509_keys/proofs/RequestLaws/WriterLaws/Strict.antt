-- What x509_keys::request reads strictly is what is written for its values.
use Rattle.std.proofs.Common.{◌≡◌, ℕ, false, true, pos, List, [], ◌∷◌, ◌++◌, refl, sym, ap, ◌∙◌, inl, inr, append_assoc}
use Rattle.std.proofs.lemmas.List.{append-nil}
use Rattle.der_base.specs.declared.header.Class.{Class}
use Rattle.der_base.specs.declared.header.Class.TheVariants.{Universal, ContextSpecific}
use Rattle.der_base.specs.Encoding.{element}
use Rattle.der_base.specs.Numbers.{unsigned}
use Rattle.der_cursor.specs.Formats.{Value}
use Rattle.x509_keys.specs.Request.Requests.{Info, attribute, request_info, version}
use Rattle.der_writer.specs.Fields as put
use Rattle.der_writer.specs.Fields.{primitive, constructed}
use Rattle.der_writer.specs.Octets.{signed_integer}
use Rattle.der_writer.specs.Formats.Encodings.{AreOctets}
use Rattle.der_writer.proofs.FormatsLaws.Read.{element_is, content_are}
use Rattle.der_writer.proofs.FormatsLaws.ReadValues.{number_written}
use Rattle.x509.specs.Certificates.{Algorithm, KeyInfo, algorithm_identifier, last_any, relative_name, subject_public_key_info}
use Rattle.x509.specs.Formats.{Fault, Format, ◌>>=◌, done, inside, list_of, spells}
use Rattle.x509.specs.Formats.{element as element_of}
use Rattle.x509_keys.specs.Request.Writer.Octets.{name_octets, request_octets}
use Rattle.x509_keys.specs.Request.Writer.Strict.{InfosAreWritten, octets_of_algorithm, octets_of_key}

-- the content of an element that is kept as octets
kept : (c : Class) (t : ℕ) (f : Format Fault (Unit {0})) (i w rest : List ℕ)
    → spells (element_of c true t >>= λ x. inside x f >>= λ u. done x) i w rest → i ≡ constructed c t w ++ rest
unfolding constructed
kept c t f i w rest (x, m, begins, (u, k, (listed, same), (is, end))) =
    element_is c true t i x m begins ∙ ap (λ l. element c true t x ++ l) (sym (end ∙ same)) ∙ ap (λ l. element c true t l ++ rest) (sym is)

-- Keys.

last_octets : (i p rest : List ℕ) → spells last_any i p rest → (i ≡ p ++ rest) × (rest ≡ [])
last_octets i p rest (inl (none, (is, end))) = (sym end ∙ ap (λ l. l ++ rest) (sym is), end ∙ none)
last_octets i p rest (inr (some, (x, m, (any, octets), (u, k, (none, same), (is, end))))) =
    (octets ∙ ap (λ l. x.0 ++ l) (sym (end ∙ same)) ∙ ap (λ l. l ++ rest) (sym is), end ∙ same ∙ none)

algorithm_is : (i : List ℕ) (a : Algorithm) (rest : List ℕ) → spells algorithm_identifier i a rest → i ≡ octets_of_algorithm a ++ rest
unfolding constructed primitive
algorithm_is i a rest (w, m, begins, ((r, (o, k, (x, tests, means, own), (p, l, last, (is, same)))), end)) =
    let parameters = last_octets k p l last in
    let behind : k ≡ p = parameters.0 ∙ ap (λ y. p ++ y) parameters.1 ∙ append-nil p in
    let fields : w ≡ element Universal false 6 o ++ p =
    element_is Universal false 6 w x k own ∙ ap (λ y. element Universal false 6 y ++ k) (sym means) ∙ ap (λ y. element Universal false 6 o ++ y) behind in
    element_is Universal true 16 i w m begins ∙ ap (λ y. element Universal true 16 y ++ m) fields
    ∙ ap (λ y. element Universal true 16 (element Universal false 6 o ++ p) ++ y) (sym end)
    ∙ ap (λ y. octets_of_algorithm y ++ rest) (sym is)

key_is : (i : List ℕ) (k : KeyInfo) (rest : List ℕ) → spells subject_public_key_info i k rest → i ≡ octets_of_key k ++ rest
unfolding constructed primitive
key_is i key rest (w, m, begins, ((r, (a, k, algorithm, (b, l, (x, tests, means, own), (u, n, (none, same), (is, last))))), end)) =
    let bits : k ≡ element Universal false 3 (b.0 ∷ b.1) =
    element_is Universal false 3 k x l own ∙ ap (λ y. element Universal false 3 y ++ l) means
    ∙ ap (λ y. element Universal false 3 (b.0 ∷ b.1) ++ y) none ∙ append-nil (element Universal false 3 (b.0 ∷ b.1)) in
    let fields : w ≡ octets_of_algorithm a ++ element Universal false 3 (b.0 ∷ b.1) =
    algorithm_is w a k algorithm ∙ ap (λ y. octets_of_algorithm a ++ y) bits in
    element_is Universal true 16 i w m begins ∙ ap (λ y. element Universal true 16 y ++ m) fields
    ∙ ap (λ y. element Universal true 16 (octets_of_algorithm a ++ element Universal false 3 (b.0 ∷ b.1)) ++ y) (sym end)
    ∙ ap (λ y. octets_of_key y ++ rest) (sym is)

-- Requests.

version_is : (i : List ℕ) (u : Unit {0}) (rest : List ℕ) → AreOctets i → spells version i u rest → i ≡ put.Integer (pos 0) ++ rest
unfolding primitive Value
version_is i u rest octets (n, m, ((x, tests, means, own), zero), (unit, same)) =
    let e = element_is Universal false 2 i x m own in
    let number : x ≡ signed_integer n = (number_written (unsigned 32)).written x n (content_are Universal false 2 i x m e octets) (tests, means) in
    e ∙ ap (λ y. element Universal false 2 y ++ m) (number ∙ ap signed_integer zero)
    ∙ ap (λ y. element Universal false 2 (signed_integer (pos 0)) ++ y) (sym same)

abbrev info_octets : Info → List ℕ
info_octets x = put.Sequence (put.Integer (pos 0) ++ put.Sequence x.subject ++ octets_of_key x.key_info ++ put.Tagged 0 x.attributes)

info_is : (x : Info) (i rest : List ℕ) → AreOctets i → spells request_info i x rest → i ≡ info_octets x ++ rest
unfolding constructed
info_is x i rest octets (w, m, begins, ((r, (u, a, number, (s, b, subject, (k, c, key, (l, d, list, (v, e, (none, same), (is, last))))))), end)) =
    let whole = element_is Universal true 16 i w m begins in
    let one = put.Integer (pos 0) in
    let two = put.Sequence s in
    let three = octets_of_key k in
    let four = put.Tagged 0 l in
    let fourth : c ≡ four = kept ContextSpecific 0 (list_of attribute) c l d list ∙ ap (λ y. four ++ y) none ∙ append-nil four in
    let third : b ≡ three ++ four = key_is b k c key ∙ ap (λ y. three ++ y) fourth in
    let second : a ≡ two ++ (three ++ four) = kept Universal 16 (list_of relative_name) a s b subject ∙ ap (λ y. two ++ y) third in
    let first : w ≡ one ++ (two ++ (three ++ four)) =
    version_is w u a (content_are Universal true 16 i w m whole octets) number ∙ ap (λ y. one ++ y) second in
    let fields : w ≡ one ++ two ++ three ++ four =
    first ∙ sym (append_assoc one two (three ++ four)) ∙ sym (append_assoc (one ++ two) three four) in
    whole ∙ ap (λ y. element Universal true 16 y ++ m) fields ∙ ap (λ y. put.Sequence (one ++ two ++ three ++ four) ++ y) (sym end)
    ∙ ap (λ y. info_octets y ++ rest) (sym is)

pub infos_written : InfosAreWritten
infos_written r x i rest octets h read =
    let subject : put.Sequence x.subject ≡ name_octets r.subject.now = ap (λ l. put.Sequence l) h.subject in
    let all : info_octets x ≡ request_octets r = rw (subject, h.key_info, h.attributes) refl in
    info_is x i rest octets read ∙ ap (λ l. l ++ rest) all
