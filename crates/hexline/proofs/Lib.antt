-- What is shown of digits, of lines and their octets, of the answers, of parts of a memory, and of the loops; and samples.
pub mod DigitValues
pub mod OctetsOfDigits
pub mod Answers
pub mod DigitsPut
pub mod NextDigits
pub mod SamplesComputed
