-- What the answers of the helpers tell their callers.
pub mod Told
