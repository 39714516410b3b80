-- What the functions on angles hand back.
pub mod Post
