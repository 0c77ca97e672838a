pub mod ContentErrors
pub mod ContentRules
pub mod Grammar
pub mod RealForms
pub mod TimeForms
