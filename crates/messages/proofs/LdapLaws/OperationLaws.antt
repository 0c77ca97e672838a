-- The operations, and those that are lists.
use Rattle.std.proofs.Common.{◌≡◌, ◌≢◌, ℕ, true, Option, Some, None, List, Result, Ok, Err, Bor, refl, sym, subst, arith}
use Rattle.std.specs.Prelude.{ok_or}
use Rattle.std.specs.Result.{IsErrAnd}
use Rattle.der_base.specs.declared.any.Any.{Any}
use Rattle.der_base.specs.declared.error.Error.{Error as BerError}
use Rattle.der_base.specs.declared.header.Class.TheVariants.{Application}
use Rattle.der_base.specs.Header.{number_of as header_number}
use Rattle.der_cursor.specs.declared.cursor.Cursor.{Cursor}
use Rattle.der_cursor.specs.declared.named.FieldError.{FieldError}
use Rattle.der_cursor.specs.declared.error.ReadError.{ReadError}
use Rattle.der_cursor.specs.Cursors.{OpensAt, ReadsAnyAt}
use Rattle.der_cursor.specs.Named.{NamesRefusal}
use Rattle.der_cursor.specs.Formats.{Constructed, Required, NoMemoryIn, ReadsContent, ReadsField, TellsNext}
use Rattle.der_cursor.proofs.ChoiceLaws.{next_known, next_unknown}
use Rattle.der_cursor.proofs.Sequences.{inside_of_named, unopened_of_named}
use Rattle.messages.specs.declared.ldap.message.Content.{Content as ContentStruct}
use Rattle.messages.specs.declared.ldap.message.Operation.{Operation}
use Rattle.messages.specs.declared.ldap.message.Operation.TheVariants.{BindRequest, BindResponse, UnbindRequest, SearchRequest}
use Rattle.messages.specs.declared.ldap.message.Operation.TheVariants.{SearchResultEntry, SearchResultDone, ModifyRequest}
use Rattle.messages.specs.declared.ldap.message.Operation.TheVariants.{ModifyResponse, AddRequest, AddResponse, DelRequest}
use Rattle.messages.specs.declared.ldap.message.Operation.TheVariants.{DelResponse, ModifyDNRequest, ModifyDNResponse}
use Rattle.messages.specs.declared.ldap.message.Operation.TheVariants.{CompareRequest, CompareResponse, AbandonRequest}
use Rattle.messages.specs.declared.ldap.message.Operation.TheVariants.{SearchResultReference, ExtendedRequest}
use Rattle.messages.specs.declared.ldap.message.Operation.TheVariants.{ExtendedResponse, IntermediateResponse}
use Rattle.messages.specs.Ldap.Messages.{ProtocolOp, list_content, parts_of}
use Rattle.messages.specs.Ldap.Operations.{IsOperationAt, number_of}

-- operations have different numbers
pub one_operation : (o u : Operation) → number_of o ≡ number_of u → o ≡ u
one_operation BindRequest BindRequest e = refl
one_operation BindResponse BindResponse e = refl
one_operation UnbindRequest UnbindRequest e = refl
one_operation SearchRequest SearchRequest e = refl
one_operation SearchResultEntry SearchResultEntry e = refl
one_operation SearchResultDone SearchResultDone e = refl
one_operation ModifyRequest ModifyRequest e = refl
one_operation ModifyResponse ModifyResponse e = refl
one_operation AddRequest AddRequest e = refl
one_operation AddResponse AddResponse e = refl
one_operation DelRequest DelRequest e = refl
one_operation DelResponse DelResponse e = refl
one_operation ModifyDNRequest ModifyDNRequest e = refl
one_operation ModifyDNResponse ModifyDNResponse e = refl
one_operation CompareRequest CompareRequest e = refl
one_operation CompareResponse CompareResponse e = refl
one_operation AbandonRequest AbandonRequest e = refl
one_operation SearchResultReference SearchResultReference e = refl
one_operation ExtendedRequest ExtendedRequest e = refl
one_operation ExtendedResponse ExtendedResponse e = refl
one_operation IntermediateResponse IntermediateResponse e = refl
one_operation o u e = absurd (omega (arith, e))

-- the operation of the element that is next
pub next_is : {c d : Cursor} (e : ReadError BerError) (a : Any) (t : ℕ) (o : Option Operation) → ReadsAnyAt c (Ok a) d → t ≡ header_number a.header → IsOperationAt t o → TellsNext ProtocolOp c (ok_or o e)
next_is e a t (Some o) h q n = next_known ProtocolOp one_operation a o t h q n
next_is e a t None h q n = next_unknown ProtocolOp a t h q n

-- an operation that is a list
pub is_constructed : (o : Operation) → o ≢ UnbindRequest → o ≢ AbandonRequest → o ≢ DelRequest → ProtocolOp o ≡ Constructed Application (number_of o) (list_content o)
is_constructed BindRequest n m k = refl
is_constructed BindResponse n m k = refl
is_constructed UnbindRequest n m k = absurd (n refl)
is_constructed SearchRequest n m k = refl
is_constructed SearchResultEntry n m k = refl
is_constructed SearchResultDone n m k = refl
is_constructed ModifyRequest n m k = refl
is_constructed ModifyResponse n m k = refl
is_constructed AddRequest n m k = refl
is_constructed AddResponse n m k = refl
is_constructed DelRequest n m k = absurd (k refl)
is_constructed DelResponse n m k = refl
is_constructed ModifyDNRequest n m k = refl
is_constructed ModifyDNResponse n m k = refl
is_constructed CompareRequest n m k = refl
is_constructed CompareResponse n m k = refl
is_constructed AbandonRequest n m k = absurd (m refl)
is_constructed SearchResultReference n m k = refl
is_constructed ExtendedRequest n m k = refl
is_constructed ExtendedResponse n m k = refl
is_constructed IntermediateResponse n m k = refl

module _ (o : Operation) (e : ProtocolOp o ≡ Constructed Application (number_of o) (list_content o))
    {m : ℕ} (q : m ≡ number_of o) (name : Bor (List ℕ)) {old new : Cursor} {r : Result Cursor (ReadError BerError)} where
  pub list_opened : (inner : Cursor) {result : Result ContentStruct FieldError} → OpensAt Application true m old r new → NamesRefusal r name (Ok inner)
      → ReadsContent (list_content o) parts_of NoMemoryIn inner result
      → ReadsField (Required (ProtocolOp o)) parts_of NoMemoryIn old result new
  list_opened inner {result = result} p s h =
      subst (λ F. ReadsField (Required F) parts_of NoMemoryIn old result new) (sym e) (inside_of_named (number_of o) (list_content o) name inner q p s h)

  pub list_unopened : {after : Cursor} (f : FieldError) {result : Result ContentStruct FieldError} → OpensAt Application true m old r new → NamesRefusal r name (Err f)
      → IsErrAnd result (λ y. y ≡ f)
      → ReadsField (Required (ProtocolOp o)) parts_of NoMemoryIn old result after
  list_unopened {after = after} f {result = result} p s h =
      subst (λ F. ReadsField (Required F) parts_of NoMemoryIn old result after) (sym e) (unopened_of_named (number_of o) (list_content o) name f q p s h)
