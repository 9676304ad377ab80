-- What the exports of layouts share.
pub mod Given
