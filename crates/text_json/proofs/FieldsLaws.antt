pub mod FieldLaws
pub mod Fitting
pub mod OneFit
pub mod OpenLaws
