mod AfterSteps
mod ContractSteps
mod KeepSteps
mod TermSteps
