-- What the answers of compositions tell their callers.
pub mod Told
