-- Hexadecimal digits, what decoding them gives, and what encoding octets gives.
pub mod Digit
pub mod Decoding
pub mod Encoding
