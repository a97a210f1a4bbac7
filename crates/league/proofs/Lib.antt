pub mod ForCallers
mod Beginnings
mod Equality
mod GameLists
mod Keeping
mod MadeLeagues
mod Rows
mod Tables
