-- The versions of GIOP and IIOP that are read.
pub mod Versions
