pub mod MimeBase64
pub mod Pieces
