mod Lists
mod Falses
mod Spoken
mod Follows
mod Gathered
mod Tests
mod Readiness
mod Keeps
