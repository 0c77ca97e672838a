pub mod ContentLaws
pub mod FilterLaws
pub mod OperationLaws
pub mod WriterLaws
