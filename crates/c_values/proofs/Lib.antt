pub mod ExactBits
pub mod ExactNumbers
pub mod Firsts
pub mod Moments
pub mod Puts
pub mod RoomLaws
pub mod TextsPut
pub mod Within
