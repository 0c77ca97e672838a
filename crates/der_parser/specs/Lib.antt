pub use Rattle.der_readers.specs.Ber.Laws as BerLaws
pub use Rattle.der_elements.specs.Check.Laws as CheckLaws
pub use Rattle.der_elements.specs.Check.Elements as CheckedElements
pub use Rattle.der_cursor.specs.Laws as CursorLaws
pub use Rattle.der_readers.specs.Der.Laws as DerLaws
pub use Rattle.der_elements.specs.Check.Listing as ElementListing
pub use Rattle.der_parser.specs.Viewing.Values as NodeValues
pub use Rattle.der_base.specs.Answer
pub use Rattle.der_base.specs.Any
pub use Rattle.der_base.specs.Arcs
pub use Rattle.der_base.specs.Containers
pub use Rattle.der_base.specs.Content
pub use Rattle.der_base.specs.Copies
pub use Rattle.der_base.specs.Count
pub use Rattle.der_base.specs.Cut
pub use Rattle.der_base.specs.Encoding
pub use Rattle.der_base.specs.Errors
pub use Rattle.der_base.specs.Exactly
pub use Rattle.der_base.specs.Fault
pub use Rattle.der_base.specs.Header
pub use Rattle.der_base.specs.Headers
pub use Rattle.der_base.specs.Laws
pub use Rattle.der_base.specs.Leaf
pub use Rattle.der_base.specs.LeafRefusal
pub use Rattle.der_base.specs.LengthOctets
pub use Rattle.der_base.specs.ListSteps
pub use Rattle.der_base.specs.Listing
pub use Rattle.der_base.specs.Names
pub use Rattle.der_base.specs.Numbers
pub use Rattle.der_base.specs.Octets
pub use Rattle.der_base.specs.OidArcs
pub use Rattle.der_base.specs.Oids
pub use Rattle.der_base.specs.Parts
pub use Rattle.der_base.specs.Pretty
pub use Rattle.der_base.specs.Refusal
pub use Rattle.der_base.specs.Rules
pub use Rattle.der_base.specs.SetOfOrder
pub use Rattle.der_base.specs.Spelling
pub use Rattle.der_base.specs.Stable
pub use Rattle.der_base.specs.Text
pub use Rattle.der_base.specs.Time
pub use Rattle.der_base.specs.Tree
pub use Rattle.der_base.specs.TreeEquality
pub use Rattle.der_elements.specs.Check.Overlay
pub use Rattle.der_elements.specs.Check.Readers
pub use Rattle.der_combinators.specs.Lists
pub use Rattle.der_combinators.specs.Slices
pub use Rattle.der_cursor.specs.Cursors
pub use Rattle.der_cursor.specs.Elements
pub use Rattle.der_cursor.specs.Formats
pub use Rattle.der_cursor.specs.Named
pub use Rattle.der_cursor.specs.Runs
pub use Rattle.der_object.specs.Bits
pub use Rattle.der_object.specs.Clones
pub use Rattle.der_object.specs.Combined
pub use Rattle.der_object.specs.Counting
pub use Rattle.der_object.specs.Encoders
pub use Rattle.der_object.specs.HeaderFacts
pub use Rattle.der_object.specs.Items
pub use Rattle.der_object.specs.Objects
pub use Rattle.der_object.specs.Printer
pub use Rattle.der_object.specs.Readings
pub use Rattle.der_object.specs.View
pub use Rattle.der_object.specs.Writing
pub use Rattle.der_parser.specs.Viewing.Vectors
pub use Rattle.der_parser.specs.Viewing.Views
pub use Rattle.der_readers.specs.Ber.BerReading
pub use Rattle.der_readers.specs.Der.DerReading
pub use Rattle.der_readers.specs.Types.TypedReading
pub use Rattle.der_values.specs.ArcNumbers
pub use Rattle.der_values.specs.Decimal
pub use Rattle.der_values.specs.Identifiers
pub use Rattle.der_values.specs.Kinds
pub use Rattle.der_visit.specs.Changing
pub use Rattle.der_visit.specs.Visiting
pub mod Viewing
pub use Rattle.der_parser.specs.Viewing.Laws as ViewLaws

-- The definitions that the contracts cite, under this name.
