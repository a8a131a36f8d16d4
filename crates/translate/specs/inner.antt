pub mod Letters
pub mod Walk
