pub mod CountLaws
pub mod FilterLaws
pub mod FilterTexts
pub mod HiddenLaws
pub mod ItemLaws
pub mod LineLaws
pub mod PlaceLaws
pub mod TextLaws
