mod Chains
mod Links
mod Words
