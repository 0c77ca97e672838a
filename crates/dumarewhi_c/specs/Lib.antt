pub mod DottedTexts
