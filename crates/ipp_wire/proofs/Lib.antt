mod Lists
mod Text
mod Items
mod Front
pub mod Spelled
mod Pieces
mod Standing
mod Building
mod Plain
mod Reply
