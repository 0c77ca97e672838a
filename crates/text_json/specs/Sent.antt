-- The object of an element as it is sent to serde, member after member.
use Rattle.std.specs.Prelude.{◌≡◌, ℕ, Bool, Option, Some, None, List, String, codes, string_bytes}
use Rattle.std.specs.Borrow.{Bor}
use Rattle.serde.specs.Event.{Log, Logs, Then, WritesOption, boolean, field_key, map_begins, map_ends, text, unsigned}
use Rattle.serde.specs.declared.name.Case.TheVariants.{AsIs}
use Rattle.serde_json.specs.Events.{SendsValue}
use Rattle.serde_json.specs.View.{view}
use Rattle.text_json.specs.declared.object.Object.{Object}

abbrev pub SendsText : Bor (List ℕ) → Log → Log → Type 0
SendsText w old new = Logs old new (text w.now)

abbrev pub SendsString : {A : Type 0} → String A → Log → Log → Type 0
SendsString s old new = Logs old new (text (string_bytes s))

abbrev pub SendsNumber : ℕ → Log → Log → Type 0
SendsNumber n old new = Logs old new (unsigned n)

abbrev pub SendsBool : Bool → Log → Log → Type 0
SendsBool b old new = Logs old new (boolean b)

-- a member with this name, whose value is sent in this way
abbrev pub SendsMember : List ℕ → (Log → Log → Type 0) → Log → Log → Type 0
SendsMember name value = Then (λ old new. Logs old new (field_key name AsIs)) value

-- such a member, if the value is there
abbrev pub SendsSome : {A : Type 0} → List ℕ → (A → Log → Log → Type 0) → Option A → Log → Log → Type 0
SendsSome name sends None old new = new ≡ old
SendsSome name sends (Some x) old new = SendsMember name (sends x) old new

abbrev pub SendsOrigin : Object → Log → Log → Type 0
SendsOrigin o = Then (SendsSome (codes "file") SendsText o.file)
    (Then (SendsSome (codes "block") SendsNumber o.block) (SendsSome (codes "label") SendsText o.label))

abbrev pub SendsHeader : Object → Log → Log → Type 0
SendsHeader o = Then (SendsMember (codes "offset") (SendsNumber o.offset))
    (Then (SendsMember (codes "depth") (SendsNumber o.depth))
    (Then (SendsMember (codes "header") (SendsNumber o.header))
    (SendsMember (codes "length") (WritesOption SendsNumber o.length))))

abbrev pub SendsIdentifier : Object → Log → Log → Type 0
SendsIdentifier o = Then (SendsMember (codes "class") (SendsText o.class))
    (Then (SendsMember (codes "tag") (SendsNumber o.tag))
    (Then (SendsMember (codes "constructed") (SendsBool o.constructed))
    (SendsMember (codes "type") (SendsString o.kind))))

abbrev pub SendsNames : Object → Log → Log → Type 0
SendsNames o = Then (SendsMember (codes "path") (SendsText o.path))
    (Then (SendsSome (codes "field") SendsText o.field)
    (Then (SendsSome (codes "field_path") SendsText o.field_path) (SendsSome (codes "secret") SendsBool o.secret)))

abbrev pub SendsValueOf : Object → Log → Log → Type 0
SendsValueOf o = Then (SendsMember (codes "value") (SendsValue (view o.value)))
    (Then (SendsSome (codes "bits") SendsNumber o.bits) (SendsSome (codes "time") SendsString o.time))

abbrev pub SendsRemarks : Object → Log → Log → Type 0
SendsRemarks o = Then (SendsSome (codes "name") SendsText o.name)
    (Then (SendsSome (codes "fault") SendsString o.fault) (SendsSome (codes "octets") SendsString o.octets))

-- all members, in the order of docs/der-json.schema.json
abbrev pub SendsMembers : Object → Log → Log → Type 0
SendsMembers o = Then (SendsOrigin o) (Then (SendsHeader o) (Then (SendsIdentifier o)
    (Then (SendsNames o) (Then (SendsValueOf o) (SendsRemarks o)))))

abbrev pub SendsObject : Object → Log → Log → Type 0
SendsObject o = Then (λ old new. Logs old new (map_begins None))
    (Then (SendsMembers o) (λ old new. Logs old new map_ends))
