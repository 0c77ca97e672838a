mod Booleans
pub mod FormLaws
pub mod GrammarLaws
pub mod RuleLaws
