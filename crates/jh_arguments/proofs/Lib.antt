mod Cuts
mod Lists
mod Numbers
mod Resuming
