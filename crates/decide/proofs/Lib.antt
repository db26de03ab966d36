mod Outputs
mod Refusing
mod Telling
