mod Utf8
mod Once
mod Texts
