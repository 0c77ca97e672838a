pub mod Asking
pub mod Opening
pub mod Refusing
pub mod Showing
pub mod Taking
