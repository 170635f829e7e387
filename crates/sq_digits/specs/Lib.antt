pub mod Characters
pub mod Buffer
pub mod Digits
pub mod HexDigits
