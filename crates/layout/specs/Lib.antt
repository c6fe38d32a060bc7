-- The declared types of `layout`, in the words of protocol's `Layout`.
pub mod Places
