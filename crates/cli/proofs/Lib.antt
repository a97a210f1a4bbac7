mod Inputs
mod Requests
