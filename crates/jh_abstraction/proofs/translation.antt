mod SetArms
mod NumberArms
mod AtomArms
mod CondArms
mod Numbering
mod Facts
