pub mod Ring
pub mod Held
pub mod Polygon
pub mod Cases
pub mod inner
