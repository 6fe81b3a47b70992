pub mod ClassLists
