pub mod Quoted
pub mod Places
