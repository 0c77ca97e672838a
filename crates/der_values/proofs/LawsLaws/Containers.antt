-- Combinators that keep a parser.
pub mod BerContainers
pub mod ContainerLaws
pub mod DerContainers
pub mod ListStepsLaws
pub mod OpenedLaws
pub mod SetOfOneOrder
pub mod SetOfOrders
pub mod TakenLaws
