-- What only the code needs: this crate has no public call.
pub mod inner
