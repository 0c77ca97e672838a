-- The operations, and the version of a message.
use Rattle.std.proofs.Common.{◌≡◌, ◌≢◌, ℕ, true, Option, Some, None, List, Result, Ok, Err, Bor, refl, sym, subst, arith}
use Rattle.std.specs.Prelude.{ok_or}
use Rattle.std.specs.Result.{IsErrAnd}
use Rattle.std.proofs.lemmas.Result.{err_from_is_err_and}
use Rattle.der_base.specs.declared.any.Any.{Any}
use Rattle.der_base.specs.declared.error.Error.{Error as BerError}
use Rattle.der_base.specs.declared.header.Class.TheVariants.{ContextSpecific}
use Rattle.der_base.specs.Header.{number_of as header_number}
use Rattle.der_cursor.specs.declared.cursor.Cursor.{Cursor}
use Rattle.der_cursor.specs.declared.named.FieldError.{FieldError}
use Rattle.der_cursor.specs.declared.error.ReadError.{ReadError}
use Rattle.der_cursor.specs.Cursors.{OpensAt, ReadsAnyAt}
use Rattle.der_cursor.specs.Formats.{Required, NoMemoryIn, ReadsContent, ReadsField, TellsNext}
use Rattle.der_cursor.specs.Named.{NamesRefusal}
use Rattle.der_cursor.proofs.ChoiceLaws.{choice_read, choice_stops, next_known, next_unknown}
use Rattle.der_cursor.proofs.Sequences.{inside_of_named, unopened_of_named}
use Rattle.messages.specs.declared.snmp.message.Content.{Content as ContentStruct}
use Rattle.messages.specs.declared.snmp.message.Message.{Message as MessageStruct}
use Rattle.messages.specs.declared.snmp.message.Operation.{Operation}
use Rattle.messages.specs.declared.snmp.message.Operation.TheVariants.{GetRequest, GetNextRequest, Response, SetRequest, Trap}
use Rattle.messages.specs.declared.snmp.message.Operation.TheVariants.{GetBulkRequest, InformRequest, TrapOfVersion2, Report}
use Rattle.messages.specs.declared.snmp.message.Pdu.{Pdu as PduStruct}
use Rattle.messages.specs.Snmp.Messages.{CommonContent, IsOfVersion, MessageContent, MessageFields, PduFormat, Pdus, TrapContent}
use Rattle.messages.specs.Snmp.Messages.{content_of, message_of, pdu_content, pdu_of}
use Rattle.messages.specs.Snmp.Operations.{IsOperationAt, number_of}

-- operations have different numbers
pub one_operation : (o u : Operation) → number_of o ≡ number_of u → o ≡ u
one_operation GetRequest GetRequest e = refl
one_operation GetNextRequest GetNextRequest e = refl
one_operation Response Response e = refl
one_operation SetRequest SetRequest e = refl
one_operation Trap Trap e = refl
one_operation GetBulkRequest GetBulkRequest e = refl
one_operation InformRequest InformRequest e = refl
one_operation TrapOfVersion2 TrapOfVersion2 e = refl
one_operation Report Report e = refl
one_operation o u e = absurd (omega (arith, e))

-- the content of all but a trap of version 1
pub is_common : (o : Operation) → o ≢ Trap → pdu_content o ≡ CommonContent
is_common GetRequest n = refl
is_common GetNextRequest n = refl
is_common Response n = refl
is_common SetRequest n = refl
is_common Trap n = absurd (n refl)
is_common GetBulkRequest n = refl
is_common InformRequest n = refl
is_common TrapOfVersion2 n = refl
is_common Report n = refl

-- the operation of the element that is next
pub next_is : {c d : Cursor} (e : ReadError BerError) (a : Any) (t : ℕ) (o : Option Operation) → ReadsAnyAt c (Ok a) d → t ≡ header_number a.header → IsOperationAt t o → TellsNext PduFormat c (ok_or o e)
next_is e a t (Some o) h q n = next_known PduFormat one_operation a o t h q n
next_is e a t None h q n = next_unknown PduFormat a t h q n

-- A PDU is of the operation whose tag is next.
module _ {old new : Cursor} {o : Operation} (n : TellsNext PduFormat old (Ok o)) {m : ℕ} (q : m ≡ number_of o) (name : Bor (List ℕ)) {r : Result Cursor (ReadError BerError)} (p : OpensAt ContextSpecific true m old r new) where
  pub pdu_unopened : {after : Cursor} (f : FieldError) {result : Result PduStruct FieldError} → NamesRefusal r name (Err f) → IsErrAnd result (λ y. y ≡ f) → ReadsField Pdus pdu_of NoMemoryIn old result after
  pdu_unopened f s e =
      let h : ReadsField {T = ContentStruct} (Required (PduFormat o)) content_of NoMemoryIn old (Err f) new = unopened_of_named (number_of o) (pdu_content o) name f q p s refl in
      choice_stops PduFormat n f e h

  pub pdu_stops : {after : Cursor} (f : FieldError) {result : Result PduStruct FieldError} (inner : Cursor) → NamesRefusal r name (Ok inner) → ReadsContent (pdu_content o) content_of NoMemoryIn inner (Err f) → IsErrAnd result (λ y. y ≡ f)
      → ReadsField Pdus pdu_of NoMemoryIn old result after
  pdu_stops f inner s h e = choice_stops PduFormat n f e (inside_of_named (number_of o) (pdu_content o) name inner q p s h)

  pub pdu_read : {x : ContentStruct} (inner : Cursor) → NamesRefusal r name (Ok inner) → ReadsContent (pdu_content o) content_of NoMemoryIn inner (Ok x)
      → ReadsField {E = FieldError} Pdus pdu_of NoMemoryIn old (Ok (record { operation = o; content = x })) new
  pdu_read inner s h = choice_read PduFormat n refl (inside_of_named (number_of o) (pdu_content o) name inner q p s h)

module _ {o : Operation} (c : Cursor) {result : Result ContentStruct FieldError} where
  pub of_trap : o ≡ Trap → ReadsContent TrapContent content_of NoMemoryIn c result → ReadsContent (pdu_content o) content_of NoMemoryIn c result
  of_trap e h = subst (λ k. ReadsContent (pdu_content k) content_of NoMemoryIn c result) (sym e) h

  pub of_common : o ≢ Trap → ReadsContent CommonContent content_of NoMemoryIn c result → ReadsContent (pdu_content o) content_of NoMemoryIn c result
  of_common e h = subst (λ C. ReadsContent C content_of NoMemoryIn c result) (sym (is_common o e)) h

-- A message is of a version that has its operation.
module _ (c : Cursor) where
  pub of_version : {x : MessageStruct} → IsOfVersion (message_of x) → ReadsContent {E = FieldError} MessageFields message_of NoMemoryIn c (Ok x)
      → ReadsContent {E = FieldError} MessageContent message_of NoMemoryIn c (Ok x)
  of_version p h fresh = let r = h fresh in record { found = (r.found, p); only = λ v z. r.only v z.0 }

  pub wrong_version : {e : FieldError} (x : MessageStruct) → ¬ IsOfVersion (message_of x) → ReadsContent {E = FieldError} MessageFields message_of NoMemoryIn c (Ok x)
      → ReadsContent {T = MessageStruct} MessageContent message_of NoMemoryIn c (Err e)
  wrong_version x p h fresh = record { found = tt; only = λ v z. absurd (p (subst IsOfVersion (sym ((h fresh).only v z.0)) z.1)) }

  pub stops_before_version : (result : Result MessageStruct FieldError) (e : FieldError) → IsErrAnd result (λ y. y ≡ e) → ReadsContent MessageFields message_of NoMemoryIn c result
      → ReadsContent MessageContent message_of NoMemoryIn c result
  stops_before_version (Ok x) e n h fresh = absurd n
  stops_before_version (Err f) e n h fresh = let r = h fresh in record { found = tt; only = λ v z. r.only v z.0 }
