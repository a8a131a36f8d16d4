pub mod Places
pub mod Steps
pub mod Contents
pub mod Forms
