-- What a stream is read from and written to, and the bytes that are held between the two.
pub mod Buffer
pub mod Moved
pub mod Output
pub mod SendLaws
pub mod Watched
