pub mod Full
pub mod Form
pub mod Laws
