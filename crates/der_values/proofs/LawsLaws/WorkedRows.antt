-- The definitions on worked inputs, computed, proved or refuted.
mod Computed
mod Identifiers
mod Lists
mod Nested
mod NoDerFault
mod NoFault
mod Numbers
mod OneFault
mod PartRows
mod SetOfOrders
mod Shown
mod ShownMore
mod Tags
mod Texts
mod Wrapped
