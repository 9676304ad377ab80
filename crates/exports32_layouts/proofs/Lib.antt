-- What the exports of layouts at 32 bits share.
pub mod Given
pub mod Narrowed
