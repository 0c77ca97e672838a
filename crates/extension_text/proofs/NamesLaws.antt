pub mod BackLaws
pub mod LengthLaws
pub mod LoopLaws
pub mod EscapeLaws
pub mod WriteLaws
